-- Worked rows of the definition of updates, which compute.
use Rattle.std.proofs.Common.{◌≡◌, List, [], ◌∷◌, ◌++◌, codes, Some, None, Ok, Err, Result, refl}
use Rattle.std.specs.Fmt.{digits}
use Rattle.std.specs.Prelude.{⊤}
use Rattle.std.specs.Str.{is_utf8, chars}
use Rattle.serde_json.proofs.OnLiterals.{serde_json_on_literals}
use Rattle.card_type.specs.declared.card.Payload.{Payload}
use Rattle.card_type.specs.declared.card.Payload.TheVariants.{Absent, Json, Hidden}
use Rattle.card_type.specs.declared.card.Update.{Update}
use Rattle.part_read.specs.declared.fault.UpdateFault.{UpdateFault}
use Rattle.part_read.specs.declared.fault.UpdateFault.TheVariants.{NoJson, NoList}
use Rattle.part_read.specs.Updates.{updates}

unfoldable on_literals : ⊤
unfolding serde_json_on_literals is_utf8 chars lib.Utf8.encode digits
on_literals = tt

abbrev with : Payload → Update
with payload = record { payload = payload; info = None; document = None; summary = None }

-- a list of one update, which has no texts
abbrev one : Payload → Result (List Update) UpdateFault
one payload = Ok (with payload ∷ [])

cut_short : updates (codes "{") ≡ Err NoJson
unfolding on_literals
cut_short = refl

no_list : updates (codes "{\"updates\":1}") ≡ Err NoList
unfolding on_literals
no_list = refl

with_a_fraction : updates (codes "{\"updates\":[{\"payload\":1.5}]}") ≡ one Hidden
unfolding on_literals
with_a_fraction = refl

with_a_text : updates (codes "{\"updates\":[{\"payload\":{\"move\":1},\"info\":\"e4\"}]}") ≡ Ok (record { payload = Json (codes "{\"move\":1}"); info = Some (codes "e4"); document = None; summary = None } ∷ [])
unfolding on_literals
with_a_text = refl

of_null : updates (codes "{\"updates\":[{\"payload\":null}]}") ≡ one (Json (codes "null"))
unfolding on_literals
of_null = refl

in_byte_order : updates (codes "{\"updates\":[{\"payload\":{\"b\":[1, {\"d\":\"\",\"c\":true}],\"a\":-2}}]}") ≡ one (Json (codes "{\"a\":-2,\"b\":[1,{\"c\":true,\"d\":\"\"}]}"))
unfolding on_literals
in_byte_order = refl

last_of_two : updates (codes "{\"updates\":1,\"updates\":[{\"payload\":1,\"payload\":2}]}") ≡ one (Json (codes "2"))
unfolding on_literals
last_of_two = refl

minus_zero : updates (codes "{\"updates\":[{\"payload\":[-0]}]}") ≡ one Hidden
unfolding on_literals
minus_zero = refl

greatest : updates (codes "{\"updates\":[{\"payload\":18446744073709551615}]}") ≡ one (Json (codes "18446744073709551615"))
unfolding on_literals
greatest = refl

above_the_greatest : updates (codes "{\"updates\":[{\"payload\":18446744073709551616}]}") ≡ one Hidden
unfolding on_literals
above_the_greatest = refl

with_an_exponent : updates (codes "{\"updates\":[{\"payload\":1e2}]}") ≡ one Hidden
unfolding on_literals
with_an_exponent = refl

too_large : updates (codes "{\"updates\":[{\"payload\":1e400}]}") ≡ Err NoJson
unfolding on_literals
too_large = refl

no_payload : updates (codes "{\"updates\":[{\"info\":1,\"summary\":\"\"}]}") ≡ Ok (record { payload = Absent; info = None; document = None; summary = Some [] } ∷ [])
unfolding on_literals
no_payload = refl

of_none : updates (codes " {\"updates\":[]}\n") ≡ Ok []
unfolding on_literals
of_none = refl

no_object : updates (codes "{\"updates\":[{},1]}") ≡ Err NoList
unfolding on_literals
no_object = refl

a_list : updates (codes "[{}]") ≡ Err NoList
unfolding on_literals
a_list = refl

two_values : updates (codes "{\"updates\":[]}{}") ≡ Err NoJson
unfolding on_literals
two_values = refl

no_utf8 : updates (codes "{\"updates\":[\"" ++ 255 ∷ codes "\"]}") ≡ Err NoJson
unfolding on_literals
no_utf8 = refl

nothing : updates [] ≡ Err NoJson
unfolding on_literals
nothing = refl
