-- The item with a uid, and the present card with it.
use Rattle.std.proofs.Common.{◌≡◌, refl, sym, ap, ◌∙◌, ℕ, Bool, true, false, ◌||◌, cond, Option, Some, None, List, [], ◌∷◌, map}
use Rattle.std.specs.Prelude.{◌==◌, find, option_map}
use Rattle.std.specs.List.{list_any}
use Rattle.std.proofs.lemmas.Bool.{eq-eqb}
use Rattle.lists.proofs.Inserts.{list_any-found}
use Rattle.card_type.specs.declared.spot.Spot.{Spot}
use Rattle.mailbox_model.specs.declared.item.Held.TheVariants as is_held
use Rattle.mailbox_model.specs.Mailbox.{Mailbox, IsMailbox}
use Rattle.mailbox_model.specs.Turns.{is_mail}
use Rattle.mailbox_model.specs.Present.{Placed, Mail, mail_at, has_id, spot, spot_of, present, present_cards}
use Rattle.indexes.specs.Kept.{present_at}
use Rattle.indexes.proofs.Mails.{card_is, present_is, one_of}

-- ---- one that passes another test

or_true : (b : Bool) {c : Bool} → c ≡ true → (b || c) ≡ true
or_true true e = refl
or_true false e = e

-- one that is found is one of them
pub found_any : {X : Type 0} (p q : X → Bool) (xs : List X) (x : X) → find p xs ≡ Some x → q x ≡ true → list_any q xs ≡ true
found_any p q [] x h k = cc
found_any {X} p q (y ∷ ys) x h k =
    elim (p y) as (λ b. cond b (Some y) (find p ys) ≡ Some x → list_any q (y ∷ ys) ≡ true) [
      | true ↦ λ e. let same : y ≡ x = cc in rw (ap q same ∙ k) refl
      | false ↦ λ e. or_true (q y) (found_any p q ys x e k)
    ] h

pub list_any-map : {X Y : Type 0} (f : X → Y) (q : Y → Bool) (xs : List X) → list_any q (map f xs) ≡ list_any (λ x. q (f x)) xs
list_any-map f q [] = refl
list_any-map f q (x ∷ xs) = ap (λ b. q (f x) || b) (list_any-map f q xs)

-- ---- the present card with a uid

-- the spot of a present mail is that of a present card
pub spot_of_mail : (uid : ℕ) (ts : List Mail) → option_map (λ t. spot t.placed) (find (is_mail uid) ts)
    ≡ option_map spot (find (λ p. p.uid == uid) (map (λ t. t.placed) ts))
spot_of_mail uid [] = refl
spot_of_mail uid (t ∷ ts) =
    elim (t.placed.uid == uid) as (λ b. option_map (λ u. spot u.placed) (cond b (Some t) (find (is_mail uid) ts))
    ≡ option_map spot (cond b (Some t.placed) (find (λ p. p.uid == uid) (map (λ u. u.placed) ts)))) [
      | true ↦ refl
      | false ↦ spot_of_mail uid ts
    ]

module _ (m : Mailbox) (rules : IsMailbox m) (uid : ℕ) (t : Mail) (is : mail_at m uid ≡ Some t) where
  -- a present card with the uid is this one
  same_spot : (p : Placed) (s : Spot) → present_at m uid ≡ Some p → spot_of m t.placed.card.id ≡ Some s → spot p ≡ s
  same_spot p s here at =
      let own = present_is m rules uid p here in
      let card : Some t.placed.card ≡ Some p.card = sym (card_is m uid t is) ∙ own.card in
      let same : t.placed.card ≡ p.card = cc in
      let spots : Some (spot p) ≡ Some s = sym own.spot ∙ ap (λ c. spot_of m c.id) (sym same) ∙ at in
      cc

  pub own_spot : (s : Spot) → spot_of m t.placed.card.id ≡ Some s → s.uid ≡ uid → option_map spot (present_at m uid) ≡ Some s
  own_spot s at own = by (find (has_id t.placed.card.id) (present m)) refl at
    where
      has : Mail → Bool
      has u = u.placed.uid == uid

      by : (o : Option Mail) → find (has_id t.placed.card.id) (present m) ≡ o → option_map (λ u. spot u.placed) o ≡ Some s
          → option_map spot (present_at m uid) ≡ Some s
      by None k h = cc
      by (Some u) k h =
          let same : spot u.placed ≡ s = cc in
          let among = found_any (has_id t.placed.card.id) has (present m) u k (eq-eqb u.placed.uid uid (ap (λ x. x.uid) same ∙ own)) in
          let here = one_of (present_at m uid) (sym (list_any-found (λ p. p.uid == uid) (present_cards m)) ∙ list_any-map (λ v. v.placed) (λ p. p.uid == uid) (present m) ∙ among) in
          ap (option_map spot) here.1 ∙ ap Some (same_spot here.0 s here.1 at)
