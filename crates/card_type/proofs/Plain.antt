-- The record of a card without a reaction.
use Rattle.std.proofs.Common.{◌≡◌, ℕ, Bool, true, false, List, [], ◌∷◌, ◌++◌, Option, None, refl, ap, ◌∙◌}
use Rattle.std.specs.Prelude.{is_some}
use Rattle.std.specs.List.{concat}
use Rattle.card_type.specs.Records as records
use Rattle.card_type.specs.declared.card.Card.{Card}

flag_alone : (app : Bool) → records.b8 (records.app_code app false) ≡ records.flag app
flag_alone false = refl
flag_alone true = refl

-- the record with this code for the app, and with these bytes at the end
abbrev with_code : Card → List ℕ → List ℕ → List ℕ
with_code c code reaction =
    concat (records.envelope c ++ records.requests c ++ (
    records.block c.subject ∷ records.block c.text ∷ records.flag c.cut ∷ records.list records.attachment c.attachments ∷ records.opt records.block c.receipt
    ∷ code ∷ records.list records.update c.updates ∷ reaction ∷ []
    ))

pub plain : (c : Card) → c.reaction ≡ None → records.record_of c ≡ records.plain_record c
plain c none =
    ap (λ (r : Option (List ℕ)). with_code c (records.b8 (records.app_code c.app (is_some r))) (records.reaction r)) none
    ∙ ap (λ (code : List ℕ). with_code c code []) (flag_alone c.app)
