-- What only private functions cite.
use Rattle.std.specs.Prelude.{Bool, true, ◌&&◌, is_some}
use Rattle.serde_json.specs.Data.{Items, no_items, item}
use Rattle.serde_json.specs.Find.{as_object}

-- whether each item is an object
abbrev pub are_objects : Items → Bool
are_objects no_items = true
are_objects (item value values) = is_some (as_object value) && are_objects values
