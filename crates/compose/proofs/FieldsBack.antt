-- The fields of a header as they are written are read again, whatever content follows the empty line.
use Rattle.std.proofs.Common.{◌≡◌, ℕ, ◌+◌, ◌==◌, Bool, true, false, not, List, [], ◌∷◌, ◌++◌, length, map, Option, Some, None, refl, ap, ◌∙◌, arith, inl, inr, append_assoc, length-append}
use Rattle.std.specs.Prelude.{◌&&◌, bytes_eq, nat_le, codes, find, filter_map, option_map, option_and_then, if◌then◌else◌}
use Rattle.std.specs.Char.{is_ascii_graphic}
use Rattle.std.specs.List.{concat, cons_option, list_all}
use Rattle.std.proofs.lemmas.Bool.{and_parts, and_from, cases_Bool, ne_eqb, not-true}
use Rattle.std.proofs.lemmas.Slice.Eq.{bytes_eq-Decides}
use Rattle.std.proofs.lemmas.List.Sums.{take_while-cons}
use Rattle.kit.specs.Letters.{same_name}
use Rattle.kit.specs.Lines.{put_before, raw_lines, content}
use Rattle.kit.specs.Printing.{is_printing, is_printing_byte, is_visible}
use Rattle.kit.specs.White.{is_white, trim, trim_end}
use Rattle.mail_headers.specs.Fields.{Field, continues, continuation, fields_of, name_and_rest, named}
use Rattle.mail_headers.specs.Headers.{first_of, header_len, header_lines, header_of, is_empty}
use Rattle.mail_headers.proofs.HeaderLines.{header_lines-filled, header_len-filled, header_lines-empty, header_len-empty}
use Rattle.compose.specs.Fields.{Slot, field_lines, lines_of, slot_lines, ended}
use Rattle.compose.specs.Fields as written
use Rattle.mail_headers.proofs.Names.{name_and_rest-continued}
use Rattle.compose.proofs.Cuts.{split_once-at}
use Rattle.compose.proofs.LineEnds.{content-lf, is_no_cr, printing_no_cr, put_before-lf}
use Rattle.compose.proofs.Printings.{all_of}

-- ---- one raw line

-- a line of printing bytes, and its end
printing_is_no_lf : (b : ℕ) → is_printing_byte b ≡ true → (b == 10) ≡ false
printing_is_no_lf b h = grind arith

put_before-other : (b : ℕ) (l : List ℕ) (ls : List (List ℕ)) → (b == 10) ≡ false → put_before b (l ∷ ls) ≡ (b ∷ l) ∷ ls
put_before-other b l ls other = rw other refl

pub raw_lines-line : (text rest : List ℕ) → is_printing text ≡ true → raw_lines (text ++ 10 ∷ rest) ≡ (text ++ 10 ∷ []) ∷ raw_lines rest
raw_lines-line [] rest all = put_before-lf (raw_lines rest)
raw_lines-line (b ∷ text) rest all =
    let parts = and_parts (is_printing_byte b) (is_printing text) all in
    ap (put_before b) (raw_lines-line text rest parts.1)
    ∙ put_before-other b (text ++ 10 ∷ []) (raw_lines rest) (printing_is_no_lf b parts.0)

graphic_is_printing : (b : ℕ) → is_ascii_graphic b ≡ true → is_printing_byte b ≡ true
graphic_is_printing b h = grind arith

graphic_is_not_white : (b : ℕ) → is_ascii_graphic b ≡ true → is_white b ≡ false
graphic_is_not_white b h = grind arith

content-line : (text : List ℕ) → is_printing text ≡ true → content (text ++ (10 ∷ [])) ≡ text
content-line text all = content-lf text (all_of is_printing_byte is_no_cr printing_no_cr text all)

-- ---- a header of lines

abbrev pub is_some_byte : List ℕ → Bool
is_some_byte [] = false
is_some_byte (b ∷ bs) = true

-- what is asked of a line of a header
abbrev pub is_line : List ℕ → Bool
is_line text = is_printing text && is_some_byte text

filled : (text : List ℕ) → is_some_byte text ≡ true → is_empty text ≡ false
filled [] some = absurd cc
filled (b ∷ bs) some = ne_eqb (length (b ∷ bs)) 0 (λ none. absurd (omega (arith, none)))

pub raw_lines-ended : (texts : List (List ℕ)) (rest : List ℕ) → list_all is_line texts ≡ true
    → raw_lines (ended texts ++ rest) ≡ map (λ (text : List ℕ). text ++ (10 ∷ [])) texts ++ raw_lines rest
raw_lines-ended [] rest all = refl
raw_lines-ended (t ∷ ts) rest all =
    let parts = and_parts (is_line t) (list_all is_line ts) all in
    let line = and_parts (is_printing t) (is_some_byte t) parts.0 in
    ap raw_lines (append_assoc (t ++ (10 ∷ [])) (ended ts) rest ∙ append_assoc t (10 ∷ []) (ended ts ++ rest))
    ∙ raw_lines-line t (ended ts ++ rest) line.0
    ∙ ap (λ (ls : List (List ℕ)). (t ++ (10 ∷ [])) ∷ ls) (raw_lines-ended ts rest parts.1)

abbrev raws : List (List ℕ) → List (List ℕ) → List (List ℕ)
raws texts more = map (λ (text : List ℕ). text ++ (10 ∷ [])) texts ++ ((10 ∷ []) ∷ more)

filled_content : (t : List ℕ) → is_line t ≡ true → (content (t ++ (10 ∷ [])) ≡ t) × (is_empty (content (t ++ (10 ∷ []))) ≡ false)
filled_content t h =
    let line = and_parts (is_printing t) (is_some_byte t) h in
    let same = content-line t line.0 in
    (same, ap is_empty same ∙ filled t line.1)

header_lines-ended : (texts more : List (List ℕ)) → list_all is_line texts ≡ true → header_lines (raws texts more) ≡ texts
header_lines-ended [] more all = header_lines-empty (10 ∷ []) more refl
header_lines-ended (t ∷ ts) more all =
    let parts = and_parts (is_line t) (list_all is_line ts) all in
    let here = filled_content t parts.0 in
    header_lines-filled (t ++ (10 ∷ [])) (raws ts more) here.1
    ∙ ap (λ (text : List ℕ). text ∷ header_lines (raws ts more)) here.0
    ∙ ap (λ (ls : List (List ℕ)). t ∷ ls) (header_lines-ended ts more parts.1)

-- lines with an LF each, before others
pub header_lines-before : (texts more tail : List (List ℕ)) → list_all is_line texts ≡ true → header_lines more ≡ tail
    → header_lines (map (λ (text : List ℕ). text ++ (10 ∷ [])) texts ++ more) ≡ texts ++ tail
header_lines-before [] more tail all e = e
header_lines-before (t ∷ ts) more tail all e =
    let parts = and_parts (is_line t) (list_all is_line ts) all in
    let here = filled_content t parts.0 in
    let rest = map (λ (text : List ℕ). text ++ (10 ∷ [])) ts ++ more in
    header_lines-filled (t ++ (10 ∷ [])) rest here.1
    ∙ ap (λ (text : List ℕ). text ∷ header_lines rest) here.0
    ∙ ap (λ (ls : List (List ℕ)). t ∷ ls) (header_lines-before ts more tail parts.1 e)

header_len-ended : (texts more : List (List ℕ)) → list_all is_line texts ≡ true → header_len (raws texts more) ≡ length (ended texts) + 1
header_len-ended [] more all = header_len-empty (10 ∷ []) more refl
header_len-ended (t ∷ ts) more all =
    let parts = and_parts (is_line t) (list_all is_line ts) all in
    let here = filled_content t parts.0 in
    header_len-filled (t ++ (10 ∷ [])) (raws ts more) here.1
    ∙ ap (λ n. length (t ++ (10 ∷ [])) + n) (header_len-ended ts more parts.1)
    ∙ omega (arith, length-append (t ++ (10 ∷ [])) (ended ts))

-- the header of lines, an empty line, and any content
pub header_of-ended : (texts : List (List ℕ)) (body : List ℕ) → list_all is_line texts ≡ true
    → header_of (ended texts ++ 10 ∷ body) ≡ record { fields = fields_of texts; body_at = length (ended texts) + 1 }
header_of-ended texts body all =
    let raw = raws texts (raw_lines body) in
    let lines = raw_lines-ended texts (10 ∷ body) all ∙ ap (λ (ls : List (List ℕ)). map (λ (text : List ℕ). text ++ (10 ∷ [])) texts ++ ls) (put_before-lf (raw_lines body)) in
    ap (λ ls. record { fields = fields_of (header_lines ls); body_at = header_len ls }) lines
    ∙ ap (λ ts. record { fields = fields_of ts; body_at = header_len raw }) (header_lines-ended texts (raw_lines body) all)
    ∙ ap (λ n. record { fields = fields_of texts; body_at = n }) (header_len-ended texts (raw_lines body) all)

-- ---- the fields of the lines that are written

-- a name that is computed: visible bytes without a colon
abbrev pub is_name : List ℕ → Bool
is_name name = is_visible name && (list_all (λ b. not (b == 58)) name && bytes_eq (trim_end name) name)

-- what a reader has of the lines of a body
abbrev pub unfolded : List (List ℕ) → List ℕ
unfolded ls = trim (concat (map (λ (l : List ℕ). 32 ∷ l) ls))

abbrev pub field_by : List ℕ → List (List ℕ) → Field
field_by name ls = record { name = name; body = unfolded ls }

name_and_rest-named : (name rest : List ℕ) → is_name name ≡ true → name_and_rest (name ++ 58 ∷ rest) ≡ Some (name, rest)
name_and_rest-named name rest h =
    let parts = and_parts (is_visible name) _ h in
    let more = and_parts (list_all (λ b. not (b == 58)) name) (bytes_eq (trim_end name) name) parts.1 in
    let same : trim_end name ≡ name = (bytes_eq-Decides (trim_end name) name).0 more.1 in
    ap (option_and_then named) (split_once-at 58 name rest more.0 refl)
    ∙ ap (λ (n : List ℕ). if is_visible n then Some (n, rest) else None) same
    ∙ rw parts.0 refl

-- the lines that continue a field, before a line that does not
continuation-lines : (ls following : List (List ℕ)) → continuation following ≡ []
    → continuation (map (λ (l : List ℕ). 32 ∷ l) ls ++ following) ≡ concat (map (λ (l : List ℕ). 32 ∷ l) ls)
continuation-lines [] following none = none
continuation-lines (l ∷ ls) following none =
    ap concat (take_while-cons continues (32 ∷ l) (map (λ (l : List ℕ). 32 ∷ l) ls ++ following))
    ∙ ap (λ (bs : List ℕ). (32 ∷ l) ++ bs) (continuation-lines ls following none)

-- and no field begins in them
fields_of-continued : (ls following : List (List ℕ)) → fields_of (map (λ (l : List ℕ). 32 ∷ l) ls ++ following) ≡ fields_of following
fields_of-continued [] following = refl
fields_of-continued (l ∷ ls) following =
    rw (name_and_rest-continued (32 ∷ l) refl) (fields_of-continued ls following)

fields_of-field : (name : List ℕ) (ls following : List (List ℕ)) → is_name name ≡ true → continuation following ≡ []
    → fields_of (field_lines name ls ++ following) ≡ field_by name ls ∷ fields_of following
fields_of-field name [] following h none = rw (name_and_rest-named name (32 ∷ []) h, none) refl
fields_of-field name (l ∷ ls) following h none =
    rw (name_and_rest-named name (32 ∷ l) h, continuation-lines ls following none, fields_of-continued ls following) refl

-- ---- the fields of slots

abbrev pub lines_are : Option (List (List ℕ)) → Bool
lines_are None = true
lines_are (Some ls) = list_all is_printing ls

abbrev pub is_slot : Slot → Bool
is_slot slot = is_name slot.name && lines_are slot.body

abbrev pub slot_field : Slot → Option Field
slot_field slot = option_map (field_by slot.name) slot.body

name_starts : (name rest : List ℕ) → is_name name ≡ true → continues (name ++ rest) ≡ false
name_starts [] rest h = absurd cc
name_starts (b ∷ bs) rest h =
    let parts = and_parts (is_visible (b ∷ bs)) _ h in
    let graphic = and_parts (is_ascii_graphic b) (list_all is_ascii_graphic bs) (and_parts (nat_le 1 (length (b ∷ bs))) (list_all is_ascii_graphic (b ∷ bs)) parts.0).1 in
    graphic_is_not_white b graphic.0

-- the lines of further slots continue nothing
continuation-slots : (slots : List Slot) → list_all is_slot slots ≡ true → continuation (written.header_lines slots) ≡ []
continuation-slots [] all = refl
continuation-slots (s ∷ ss) all =
    let parts = and_parts (is_slot s) (list_all is_slot ss) all in
    go s.body (and_parts (is_name s.name) (lines_are s.body) parts.0).0 (written.header_lines ss) (continuation-slots ss parts.1)
  where
    by : (l : List ℕ) (ls : List (List ℕ)) → continues l ≡ false → continuation (l ∷ ls) ≡ []
    by l ls none = ap concat (take_while-cons continues l ls) ∙ rw none refl

    go : (body : Option (List (List ℕ))) → is_name s.name ≡ true → (rest : List (List ℕ)) → continuation rest ≡ []
        → continuation (lines_of s.name body ++ rest) ≡ []
    go None h rest none = none
    go (Some []) h rest none = by (s.name ++ codes ": ") rest (name_starts s.name (codes ": ") h)
    go (Some (l ∷ ls)) h rest none = by (s.name ++ (58 ∷ 32 ∷ l)) (map (λ (l : List ℕ). 32 ∷ l) ls ++ rest) (name_starts s.name (58 ∷ 32 ∷ l) h)

pub fields_of-slots : (slots : List Slot) → list_all is_slot slots ≡ true → fields_of (written.header_lines slots) ≡ filter_map slot_field slots
fields_of-slots [] all = refl
fields_of-slots (s ∷ ss) all =
    let parts = and_parts (is_slot s) (list_all is_slot ss) all in
    go s.body (and_parts (is_name s.name) (lines_are s.body) parts.0).0 (continuation-slots ss parts.1) (fields_of-slots ss parts.1)
  where
    go : (body : Option (List (List ℕ))) → is_name s.name ≡ true → continuation (written.header_lines ss) ≡ []
        → fields_of (written.header_lines ss) ≡ filter_map slot_field ss
        → fields_of (lines_of s.name body ++ written.header_lines ss) ≡ cons_option (option_map (field_by s.name) body) (filter_map slot_field ss)
    go None h none more = more
    go (Some ls) h none more = fields_of-field s.name ls (written.header_lines ss) h none ∙ ap (λ (fs : List Field). field_by s.name ls ∷ fs) more

-- ---- each line of a written header is a line

all_append : {X : Type 0} (p : X → Bool) (xs ys : List X) → list_all p xs ≡ true → list_all p ys ≡ true → list_all p (xs ++ ys) ≡ true
all_append p [] ys first second = second
all_append p (x ∷ xs) ys first second =
    let parts = and_parts (p x) (list_all p xs) first in
    and_from (p x) (list_all p (xs ++ ys)) parts.0 (all_append p xs ys parts.1 second)

visible_is_printing : (bs : List ℕ) → list_all is_ascii_graphic bs ≡ true → is_printing bs ≡ true
visible_is_printing [] all = refl
visible_is_printing (b ∷ bs) all =
    let parts = and_parts (is_ascii_graphic b) (list_all is_ascii_graphic bs) all in
    and_from (is_printing_byte b) (is_printing bs) (graphic_is_printing b parts.0) (visible_is_printing bs parts.1)

named_line : (name rest : List ℕ) → is_name name ≡ true → is_printing rest ≡ true → is_line (name ++ rest) ≡ true
named_line [] rest h all = absurd cc
named_line (b ∷ bs) rest h all =
    let visible = and_parts (nat_le 1 (length (b ∷ bs))) (list_all is_ascii_graphic (b ∷ bs)) (and_parts (is_visible (b ∷ bs)) _ h).0 in
    and_from (is_printing ((b ∷ bs) ++ rest)) true (all_append is_printing_byte (b ∷ bs) rest (visible_is_printing (b ∷ bs) visible.1) all) refl

continued_lines : (ls : List (List ℕ)) → list_all is_printing ls ≡ true → list_all is_line (map (λ (l : List ℕ). 32 ∷ l) ls) ≡ true
continued_lines [] all = refl
continued_lines (l ∷ ls) all =
    let parts = and_parts (is_printing l) (list_all is_printing ls) all in
    and_from (is_line (32 ∷ l)) (list_all is_line (map (λ (l : List ℕ). 32 ∷ l) ls)) (and_from (is_printing l) true parts.0 refl) (continued_lines ls parts.1)

pub are_lines : (slots : List Slot) → list_all is_slot slots ≡ true → list_all is_line (written.header_lines slots) ≡ true
are_lines [] all = refl
are_lines (s ∷ ss) all =
    let parts = and_parts (is_slot s) (list_all is_slot ss) all in
    let slot = and_parts (is_name s.name) (lines_are s.body) parts.0 in
    all_append is_line (lines_of s.name s.body) (written.header_lines ss) (go s.body slot.0 slot.1) (are_lines ss parts.1)
  where
    go : (body : Option (List (List ℕ))) → is_name s.name ≡ true → lines_are body ≡ true → list_all is_line (lines_of s.name body) ≡ true
    go None h all = refl
    go (Some []) h all = and_from (is_line (s.name ++ codes ": ")) true (named_line s.name (codes ": ") h refl) refl
    go (Some (l ∷ ls)) h all =
        let parts = and_parts (is_printing l) (list_all is_printing ls) all in
        and_from (is_line (s.name ++ (58 ∷ 32 ∷ l))) (list_all is_line (map (λ (l : List ℕ). 32 ∷ l) ls)) (named_line s.name (58 ∷ 32 ∷ l) h parts.0) (continued_lines ls parts.1)

-- what is read of a written header
pub header_of-slots : (slots : List Slot) (body : List ℕ) → list_all is_slot slots ≡ true
    → header_of (ended (written.header_lines slots) ++ 10 ∷ body)
    ≡ record { fields = filter_map slot_field slots; body_at = length (ended (written.header_lines slots)) + 1 }
header_of-slots slots body all =
    header_of-ended (written.header_lines slots) body (are_lines slots all)
    ∙ ap (λ fields. record { fields = fields; body_at = length (ended (written.header_lines slots)) + 1 }) (fields_of-slots slots all)

-- ---- one field of them: a name that stands once is found by computing with the names alone

abbrev pub slot_of : List Slot → List ℕ → Option (List (List ℕ))
slot_of [] name = None
slot_of (s ∷ ss) name = if same_name s.name name then s.body else slot_of ss name

abbrev pub others : List Slot → List ℕ → Bool
others slots name = list_all (λ s. not (same_name s.name name)) slots

abbrev pub is_alone : List Slot → List ℕ → Bool
is_alone [] name = true
is_alone (s ∷ ss) name = if same_name s.name name then others ss name else is_alone ss name

abbrev is_of : List ℕ → Field → Bool
is_of name f = same_name f.name name

find-none : (slots : List Slot) (name : List ℕ) → others slots name ≡ true → find (is_of name) (filter_map slot_field slots) ≡ None
find-none [] name all = refl
find-none (s ∷ ss) name all =
    let parts = and_parts (not (same_name s.name name)) (others ss name) all in
    go s.body (not-true (same_name s.name name) parts.0) (find-none ss name parts.1)
  where
    go : (body : Option (List (List ℕ))) → same_name s.name name ≡ false → find (is_of name) (filter_map slot_field ss) ≡ None
        → find (is_of name) (cons_option (option_map (field_by s.name) body) (filter_map slot_field ss)) ≡ None
    go None other more = more
    go (Some ls) other more = rw other more

find-slot : (slots : List Slot) (name : List ℕ) → is_alone slots name ≡ true
    → option_map (λ field. field.body) (find (is_of name) (filter_map slot_field slots)) ≡ option_map unfolded (slot_of slots name)
find-slot [] name alone = refl
find-slot (s ∷ ss) name alone = elim (cases_Bool (same_name s.name name)) [
  | inl same ↦ (
      let none : others ss name ≡ true = rw same at alone in
      rw same (here s.body same (find-none ss name none)))
  | inr other ↦ (
      let later : is_alone ss name ≡ true = rw other at alone in
      rw other (further s.body other (find-slot ss name later)))
]
  where
    here : (body : Option (List (List ℕ))) → same_name s.name name ≡ true → find (is_of name) (filter_map slot_field ss) ≡ None
        → option_map (λ field. field.body) (find (is_of name) (cons_option (option_map (field_by s.name) body) (filter_map slot_field ss))) ≡ option_map unfolded body
    here None same none = ap (option_map (λ (field : Field). field.body)) none
    here (Some ls) same none = rw same refl

    further : (body : Option (List (List ℕ))) → same_name s.name name ≡ false
        → option_map (λ field. field.body) (find (is_of name) (filter_map slot_field ss)) ≡ option_map unfolded (slot_of ss name)
        → option_map (λ field. field.body) (find (is_of name) (cons_option (option_map (field_by s.name) body) (filter_map slot_field ss))) ≡ option_map unfolded (slot_of ss name)
    further None other more = more
    further (Some ls) other more = rw other more

pub first_of-slots : (slots : List Slot) (body name : List ℕ) → list_all is_slot slots ≡ true → is_alone slots name ≡ true
    → first_of (header_of (ended (written.header_lines slots) ++ 10 ∷ body)) name ≡ option_map unfolded (slot_of slots name)
first_of-slots slots body name all alone =
    ap (λ head. first_of head name) (header_of-slots slots body all) ∙ find-slot slots name alone
