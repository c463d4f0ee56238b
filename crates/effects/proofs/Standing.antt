-- What stands for cards in mail order gives their uids.
use Rattle.std.proofs.Common.{◌≡◌, refl, ap, ◌∙◌, List, [], ◌∷◌, map}
use Rattle.card_type.specs.declared.spot.Spot.{Spot}
use Rattle.mailbox_model.specs.Lists.{Bytes}
use Rattle.mailbox_model.specs.Present.{Placed, spot}
use Rattle.mailbox_model.specs.Rows.{naming}
use Rattle.effects.specs.Named.{StandsFor, named}

uids_of : (ps : List Placed) → map (λ s. s.uid) (map spot ps) ≡ map (λ e. e.uid) ps
uids_of [] = refl
uids_of (p ∷ ps) = ap (λ uids. p.uid ∷ uids) (uids_of ps)

pub uids_named : (spots : List (Bytes × List Spot)) (cards : List Placed) (id : Bytes) → StandsFor spots cards
    → map (λ s. s.uid) (named spots id) ≡ map (λ e. e.uid) (naming id cards)
uids_named spots cards id stands = ap (map (λ s. s.uid)) (stands id) ∙ uids_of (naming id cards)
