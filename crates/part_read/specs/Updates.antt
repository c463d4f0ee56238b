-- The updates of an app, as a value of JSON has them (RFC 8259). Which value a text is, and which text a value has
-- without white space, is as `serde_json` states it: `read` and `compact_text`.
use Rattle.std.specs.Prelude.{ℕ, if◌then◌else◌, List, [], ◌∷◌, codes, Option, Some, None, Result, Err, option_map}
use Rattle.std.specs.Option.{ok_or, option_map_or}
use Rattle.std.specs.Str.{is_utf8}
use Rattle.serde_json.specs.Data.{Data, Items, no_items, item}
use Rattle.serde_json.specs.Find.{get, as_str, as_array, as_object}
use Rattle.serde_json.specs.Read.{read}
use Rattle.serde_json.specs.Written.{has_float, compact_text}
use Rattle.kit.specs.Options.{◌>>=◌}
use Rattle.card_type.specs.declared.card.Payload.{Payload}
use Rattle.card_type.specs.declared.card.Payload.TheVariants.{Absent, Json, Hidden}
use Rattle.card_type.specs.declared.card.Update.{Update}
use Rattle.part_read.specs.declared.fault.UpdateFault.{UpdateFault}
use Rattle.part_read.specs.declared.fault.UpdateFault.TheVariants.{NoJson, NoList}

-- the value that bytes are
abbrev pub json : List ℕ → Option Data
json bytes = if is_utf8 bytes then read bytes else None

-- What an app is given: a value as its text. One with a number that is no whole number of 64 bits is hidden.
abbrev pub payload : Option Data → Payload
payload None = Absent
payload (Some value) = if has_float value then Hidden else Json (compact_text value)

-- the text that an object has at a name
abbrev pub text_at : List ℕ → Data → Option (List ℕ)
text_at name value = get name value >>= as_str

-- the update that an object is
abbrev pub update : Data → Update
update value = record {
  payload = payload (get (codes "payload") value);
  info = text_at (codes "info") value;
  document = text_at (codes "document") value;
  summary = text_at (codes "summary") value;
}

-- the updates of a list, if it is one of objects
abbrev pub updates_of : Items → Option (List Update)
updates_of no_items = Some []
updates_of (item value values) = as_object value >>= λ _. option_map (λ later. update value ∷ later) (updates_of values)

-- the list at `updates` of an object
abbrev pub list_in : Data → Option Items
list_in value = get (codes "updates") value >>= as_array

-- the updates that bytes are, or why there are none
abbrev pub updates : List ℕ → Result (List Update) UpdateFault
updates bytes = option_map_or (λ value. ok_or (list_in value >>= updates_of) NoList) (json bytes) (Err NoJson)
