-- The updates of a list, by whether it is one of objects.
use Rattle.std.proofs.Common.{◌≡◌, Bool, true, false, List, [], ◌∷◌, map, Option, Some, None, refl, ap}
use Rattle.std.specs.Prelude.{is_some, option_map, ◌&&◌}
use Rattle.kit.specs.Options.{◌>>=◌}
use Rattle.serde_json.specs.Data.{Items, no_items, item, Members}
use Rattle.serde_json.specs.Find.{as_object}
use Rattle.serde_json.specs.View.{items_view, view}
use Rattle.serde_json.specs.declared.value.Value.{Value}
use Rattle.card_type.specs.declared.card.Update.{Update}
use Rattle.part_read.specs.Updates.{update, updates_of}
use Rattle.part_read.specs.Views.{are_objects}

-- the update of a value
abbrev pub update_in : Value → Update
update_in value = update (view value)

none_step : (o : Option Members) (first : Update) (later : Option (List Update)) (rest : Bool) → (rest ≡ false → later ≡ None) → (is_some o && rest) ≡ false
    → (o >>= λ _. option_map (λ us. first ∷ us) later) ≡ None
none_step None first later rest h is = refl
none_step (Some m) first later rest h is = ap (option_map (λ us. first ∷ us)) (h is)

some_step : (o : Option Members) (first : Update) (later : Option (List Update)) (us : List Update) (rest : Bool) → (rest ≡ true → later ≡ Some us) → (is_some o && rest) ≡ true
    → (o >>= λ _. option_map (λ us. first ∷ us) later) ≡ Some (first ∷ us)
some_step None first later us rest h is = absurd cc
some_step (Some m) first later us rest h is = ap (option_map (λ us. first ∷ us)) (h is)

pub no_updates : (values : Items) → are_objects values ≡ false → updates_of values ≡ None
no_updates no_items is = absurd cc
no_updates (item value values) is = none_step (as_object value) (update value) (updates_of values) (are_objects values) (no_updates values) is

pub all_updates : (values : List Value) → are_objects (items_view values) ≡ true → updates_of (items_view values) ≡ Some (map update_in values)
all_updates [] is = refl
all_updates (value ∷ values) is =
    some_step (as_object (view value)) (update_in value) (updates_of (items_view values)) (map update_in values) (are_objects (items_view values)) (all_updates values) is
