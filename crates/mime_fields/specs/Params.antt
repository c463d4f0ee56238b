-- The parameters of a field.
use Rattle.std.specs.Prelude.{ℕ, ◌==◌, List, length, map, filter_map, Option, option_map}
use Rattle.std.specs.List.{before_first}
use Rattle.lists.specs.Distinct.{each_once}
use Rattle.mime_fields.specs.declared.param.Param.{Param}
use Rattle.mime_fields.specs.RawParams.{RawParam, first_value}
use Rattle.mime_fields.specs.Sections.{param_value}

-- the name of the parameter that a full name is of: what precedes its first `*` (42)
abbrev pub base_name : List ℕ → List ℕ
base_name name = before_first (λ b. b == 42) name

-- the names of the parameters, each where it first comes
abbrev pub names_of : List RawParam → List (List ℕ)
names_of params = each_once (map (λ param. base_name param.name) params)

-- the value of the parameter of a name
abbrev pub value_in : List RawParam → List ℕ → Option (List ℕ)
value_in params name = param_value (first_value params) (length params) name

abbrev pub param_in : List RawParam → List ℕ → Option Param
param_in params name = option_map (λ value. record { name = name; value = value }) (value_in params name)

-- the parameters that have a value, in the order in which their names first come
abbrev pub params : List RawParam → List Param
params raw_params = filter_map (param_in raw_params) (names_of raw_params)
