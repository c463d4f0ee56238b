-- Worked rows of the definitions, which compute.
use Rattle.std.proofs.Common.{◌≡◌, ℕ, ◌+◌, true, false, List, [], ◌∷◌, ◌++◌, codes, Some, None, refl}
use Rattle.std.specs.Prelude.{replicate}
use Rattle.std.specs.Str.{is_utf8, chars}
use Rattle.std.specs.declared.cmp.Ordering.TheVariants.{Less, Greater, Equal}
use Rattle.card_type.specs.declared.card.Card.{Card}
use Rattle.card_type.specs.declared.card.Payload.TheVariants.{Json}
use Rattle.card_type.specs.declared.key.ChatKey.TheVariants.{SelfChat, Single, Group, Thread}
use Rattle.card_type.specs.declared.kind.Kind.TheVariants as kinds
use Rattle.card_type.specs.declared.effect.Effect.TheVariants as effects
use Rattle.card_type.specs.Cards.{card_of}
use Rattle.card_type.specs.Effects.{effect_of}
use Rattle.card_type.specs.Groups.{is_group}
use Rattle.card_type.specs.Keys.{key_cmp}
use Rattle.card_type.specs.KeyTexts.{key_text}
use Rattle.card_type.specs.Kinds.{kind_of}
use Rattle.card_type.specs.Records.{record_of, weight, capped}
use Rattle.card_type.specs.Rules.{is_valid}
use Rattle.card_type.specs.Spots.{spot_cmp}
use Rattle.card_type.proofs.WorkedCards.{bob, me, thumb, M1, O1}

-- a chat mail from Bob, edited, taken back and read by one sender or another
abbrev edit_by : List ℕ → Card
edit_by from = record (card_of (codes "e1@x.org") from) { edit = Some M1.id; text = codes "Hello" }

abbrev delete_by : List ℕ → Card
delete_by from = record (card_of (codes "x2@x.org") from) { deletes = codes "a" ∷ M1.id ∷ [] }

abbrev receipt_by : List ℕ → Card
receipt_by from = record (card_of (codes "n1@x.org") from) { receipt = Some O1.id }

-- a reaction to M1
abbrev reaction_by : List ℕ → Card
reaction_by from = record (card_of (codes "k1@x.org") from) { replies = M1.id ∷ []; reaction = Some thumb }

-- an app, and a move in it
abbrev app : Card
app = record (card_of (codes "a1@x.org") bob) { to = me ∷ []; app = true }

abbrev move_by : List ℕ → Card
move_by from =
    record (card_of (codes "u1@x.org") from) {
      replies = app.id ∷ [];
      updates = record { payload = Json (codes "{}"); info = Some (codes "e4"); document = None; summary = None } ∷ [];
    }

weight_m1 : weight M1 ≡ 108
weight_m1 = refl

-- the date is 1714557600, and each run of zeros is fields that are empty or false
record_m1 : record_of M1 ≡
    (0 ∷ 0 ∷ 0 ∷ 8 ∷ codes "m1@x.org") ++ (0 ∷ 0 ∷ 0 ∷ 9 ∷ codes "bob@x.org") ++ (0 ∷ 0 ∷ 0 ∷ 3 ∷ codes "Bob")
    ++ (0 ∷ 0 ∷ 0 ∷ 1 ∷ 0 ∷ 0 ∷ 0 ∷ 8 ∷ codes "me@x.org") ++ (0 ∷ 0 ∷ 0 ∷ 0 ∷ [])
    ++ (1 ∷ 0 ∷ 0 ∷ 0 ∷ 0 ∷ 102 ∷ 50 ∷ 18 ∷ 160 ∷ []) ++ replicate 8 0
    ++ (1 ∷ []) ++ replicate 17 0
    ++ replicate 4 0 ++ (0 ∷ 0 ∷ 0 ∷ 2 ∷ codes "Hi") ++ replicate 11 0
record_m1 = refl

-- a code of 2 and a block of 4 bytes more
weight_of_a_reaction : weight (record M1 { reaction = Some thumb }) ≡ 116
weight_of_a_reaction = refl

weight_of_an_update : weight (move_by bob) ≡ 111
weight_of_an_update = refl

capped_at_the_end : capped (18446744073709551615 + 1) ≡ 18446744073709551615
capped_at_the_end = refl

kind_plain : kind_of M1 ≡ kinds.Content
kind_plain = refl

kind_edit : kind_of (edit_by bob) ≡ kinds.Edit
kind_edit = refl

kind_delete : kind_of (record (edit_by bob) { deletes = M1.id ∷ [] }) ≡ kinds.Delete
kind_delete = refl

kind_receipt : kind_of (record (delete_by bob) { receipt = Some O1.id }) ≡ kinds.Receipt
kind_receipt = refl

kind_update : kind_of (move_by bob) ≡ kinds.Update
kind_update = refl

kind_update_of_app : kind_of (record (move_by bob) { app = true }) ≡ kinds.Content
kind_update_of_app = refl

kind_reaction : kind_of (reaction_by me) ≡ kinds.Reaction
kind_reaction = refl

-- one that takes back what was said
kind_empty_reaction : kind_of (record (reaction_by me) { reaction = Some [] }) ≡ kinds.Reaction
kind_empty_reaction = refl

kind_update_that_reacts : kind_of (record (move_by bob) { reaction = Some thumb }) ≡ kinds.Update
kind_update_that_reacts = refl

effect_edit : effect_of (edit_by bob) M1 me ≡ Some effects.Edit
effect_edit = refl

effect_edit_by_stranger : effect_of (edit_by (codes "eve@x.org")) M1 me ≡ None
effect_edit_by_stranger = refl

effect_edit_of_another : effect_of (edit_by me) O1 me ≡ None
effect_edit_of_another = refl

effect_delete : effect_of (delete_by bob) M1 me ≡ Some effects.Delete
effect_delete = refl

effect_delete_by_stranger : effect_of (delete_by (codes "eve@x.org")) M1 me ≡ None
effect_delete_by_stranger = refl

effect_read : effect_of (receipt_by bob) O1 me ≡ Some effects.Read
effect_read = refl

effect_read_by_oneself : effect_of (receipt_by me) O1 me ≡ None
effect_read_by_oneself = refl

effect_read_of_received : effect_of (record (receipt_by bob) { receipt = Some M1.id }) M1 me ≡ None
effect_read_of_received = refl

effect_update : effect_of (move_by bob) app me ≡ Some effects.Update
effect_update = refl

effect_update_by_receiver : effect_of (move_by me) app me ≡ Some effects.Update
effect_update_by_receiver = refl

effect_update_by_stranger : effect_of (move_by (codes "eve@x.org")) app me ≡ None
effect_update_by_stranger = refl

effect_update_of_no_app : effect_of (move_by bob) (record app { app = false }) me ≡ None
effect_update_of_no_app = refl

effect_update_second_reply : effect_of (record (move_by bob) { replies = M1.id ∷ app.id ∷ [] }) app me ≡ None
effect_update_second_reply = refl

effect_reaction : effect_of (reaction_by me) M1 me ≡ Some effects.Reaction
effect_reaction = refl

effect_reaction_of_the_sender : effect_of (reaction_by bob) M1 me ≡ Some effects.Reaction
effect_reaction_of_the_sender = refl

effect_reaction_by_copied : effect_of (reaction_by (codes "ann@x.org")) (record M1 { cc = codes "ann@x.org" ∷ [] }) me ≡ Some effects.Reaction
effect_reaction_by_copied = refl

effect_reaction_by_stranger : effect_of (reaction_by (codes "eve@x.org")) M1 me ≡ None
effect_reaction_by_stranger = refl

effect_reaction_second_reply : effect_of (record (reaction_by me) { replies = O1.id ∷ M1.id ∷ [] }) M1 me ≡ None
effect_reaction_second_reply = refl

effect_on_reaction : effect_of (record (reaction_by bob) { replies = codes "k1@x.org" ∷ [] }) (reaction_by me) me ≡ None
effect_on_reaction = refl

effect_on_edit : effect_of (record (delete_by bob) { deletes = codes "e1@x.org" ∷ [] }) (edit_by bob) me ≡ None
effect_on_edit = refl

effect_of_content : effect_of M1 M1 me ≡ None
effect_of_content = refl

group_shortest : is_group (codes "abcdefghijk") ≡ true
group_shortest = refl

group_short : is_group (codes "abcdefghij") ≡ false
group_short = refl

group_longest : is_group (replicate 998 45) ≡ true
group_longest = refl

group_too_long : is_group (replicate 999 45) ≡ false
group_too_long = refl

group_of_all_kinds : is_group (codes "Ab0_-Zz9aaa") ≡ true
group_of_all_kinds = refl

group_with_dot : is_group (codes "abc.defghijk") ≡ false
group_with_dot = refl

text_self : key_text SelfChat ≡ codes "self"
text_self = refl

text_single : key_text (Single bob) ≡ codes "single:bob@x.org"
text_single = refl

text_group : key_text (Group (codes "abcdefghijk")) ≡ codes "group:abcdefghijk"
text_group = refl

text_thread : key_text (Thread (codes "g1@x.org")) ≡ codes "thread:g1@x.org"
text_thread = refl

order_self : key_cmp SelfChat (Single bob) ≡ Less
order_self = refl

order_single : key_cmp (Single (codes "zoe@x.org")) (Group (codes "abcdefghijk")) ≡ Less
order_single = refl

order_thread : key_cmp (Thread (codes "a")) (Group (codes "abcdefghijk")) ≡ Greater
order_thread = refl

order_prefix : key_cmp (Thread (codes "a@x.org")) (Thread (codes "a@x.or")) ≡ Greater
order_prefix = refl

order_same : key_cmp (Single bob) (Single bob) ≡ Equal
order_same = refl

spot_by_date : spot_cmp (record { date = 1; id = codes "b"; uid = 2 }) (record { date = 2; id = codes "a"; uid = 1 }) ≡ Less
spot_by_date = refl

spot_by_id : spot_cmp (record { date = 1; id = codes "b"; uid = 1 }) (record { date = 1; id = codes "a"; uid = 2 }) ≡ Greater
spot_by_id = refl

spot_by_uid : spot_cmp (record { date = 1; id = codes "a"; uid = 10 }) (record { date = 1; id = codes "a"; uid = 9 }) ≡ Greater
spot_by_uid = refl

valid_m1 : is_valid M1 ≡ true
unfolding is_utf8 chars lib.Utf8.encode
valid_m1 = refl

valid_last_moment : is_valid (record M1 { date = Some 253402300799 }) ≡ true
unfolding is_utf8 chars lib.Utf8.encode
valid_last_moment = refl

date_too_late : is_valid (record M1 { date = Some 253402300800 }) ≡ false
date_too_late = refl

to_twice : is_valid (record M1 { to = me ∷ bob ∷ me ∷ [] }) ≡ false
unfolding is_utf8 chars lib.Utf8.encode
to_twice = refl

to_and_cc : is_valid (record M1 { cc = me ∷ [] }) ≡ true
unfolding is_utf8 chars lib.Utf8.encode
to_and_cc = refl

capital_in_from : is_valid (record M1 { from = codes "Bob@x.org" }) ≡ false
unfolding is_utf8 chars lib.Utf8.encode
capital_in_from = refl

payload_empty : is_valid (record M1 { updates = record { payload = Json []; info = None; document = None; summary = None } ∷ [] }) ≡ false
unfolding is_utf8 chars lib.Utf8.encode
payload_empty = refl

group_not_valid : is_valid (record M1 { group = Some (codes "short") }) ≡ false
unfolding is_utf8 chars lib.Utf8.encode
group_not_valid = refl
