-- What contracts see of values that the program holds.
use Rattle.std.specs.Prelude.{◌≡◌, ℕ, ◌-◌, Bool, nat_eq, if◌then◌else◌, List, [], map, filter_map, flat_map, bytes_eq, Option, Some, None, option_map}
use Rattle.std.specs.Borrow.{Bor}
use Rattle.std.specs.BTreeMap.{BTreeMap, get_by}
use Rattle.std.specs.BTreeSet.{BTreeSet, contains_by}
use Rattle.std.specs.Cmp.Lexicographic.{slice_cmp}
use Rattle.std.specs.List.{range_with_len, starts_with}
use Rattle.std.specs.Option.{option_map_or}
use Rattle.std.specs.Ordering.{nat_cmp}
use Rattle.mime_fields.specs.declared.named.NamedParams.{NamedParams}
use Rattle.mime_fields.specs.declared.raw_param.RawParam.{RawParam as Borrowed_param}
use Rattle.mime_fields.specs.declared.section.Section as Borrowed
use Rattle.mime_fields.specs.declared.section.Section.TheVariants as code
use Rattle.mime_fields.specs.declared.segment.Segments.{Segments}
use Rattle.mime_fields.specs.Segments.{segments}
use Rattle.mime_fields.specs.RawParams.{RawParam, first_value, name_of, raw_param_of, value_of}
use Rattle.mime_fields.specs.Sections.{Section, Plain, Encoded, before_gap, numbered_section}

-- the segments that are still to be read
abbrev pub segments_in : Segments → List (List ℕ)
segments_in left = option_map_or (λ rest. segments rest.now) left.rest []

-- the parameters that they are
abbrev pub params_in : Segments → List RawParam
params_in left = filter_map raw_param_of (segments_in left)

-- a parameter that is borrowed from the body of its field
abbrev pub written : Borrowed_param → RawParam
written p = record { name = name_of p.name.now; value = value_of p.value.now }

-- a section that is borrowed from the value that it is of
abbrev pub shown : Borrowed.Section → Section
shown (code.Plain text) = Plain (value_of text.now)
shown (code.Encoded text) = Encoded (value_of text.now)

-- a full name, and the value that follows its `=`
abbrev pub under : (name text : List ℕ) → RawParam
under name text = record { name = name; value = value_of text }

-- the full names of parameters, one after the other
abbrev pub names_text : List RawParam → List ℕ
names_text params = flat_map (λ param. param.name) params

-- the names are those of the parameters
abbrev pub AreNamed : NamedParams → Type 0
AreNamed left = left.names.now ≡ names_text (params_in left.left)

-- names that are borrowed
abbrev pub shown_names : List (Bor (List ℕ)) → List (List ℕ)
shown_names names = map (λ name. name.now) names

-- the value that a map has of a name
abbrev pub held : BTreeMap (Bor (List ℕ)) (Bor (List ℕ)) → List ℕ → Option (List ℕ)
held firsts name = option_map (λ text. value_of text.now) (get_by (λ k. slice_cmp nat_cmp name k.now) firsts)

-- whether a set has a name
abbrev pub known : BTreeSet (Bor (List ℕ)) → List ℕ → Bool
known seen name = contains_by (λ k. slice_cmp nat_cmp name k.now) seen

-- the value that a parameter gives a name, and the first of several, where only names that begin with a prefix count
abbrev pub value_under : (prefix : List ℕ) → RawParam → List ℕ → Option (List ℕ)
value_under prefix param name =
    if starts_with nat_eq name prefix then (if bytes_eq name param.name then Some param.value else None) else None

abbrev pub first_value_under : (prefix : List ℕ) → List RawParam → List ℕ → Option (List ℕ)
first_value_under prefix params name = if starts_with nat_eq name prefix then first_value params name else None

-- the sections of the numbers from one on that are below a count, up to the first that is missing
abbrev pub sections_from : (values : List ℕ → Option (List ℕ)) (name : List ℕ) (number count : ℕ) → List Section
sections_from values name number count = before_gap (map (numbered_section values name) (range_with_len number (count - number)))
