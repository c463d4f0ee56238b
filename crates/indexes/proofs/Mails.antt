-- The mails of a mailbox, by uid and by id.
use Rattle.std.proofs.Common.{Bor, ◌≡◌, refl, sym, ap, ◌∙◌, subst, ℕ, Bool, true, false, cond, Option, Some, None, Result, Ok, Err, List, [], ◌∷◌, map}
use Rattle.std.specs.Prelude.{◌==◌, find, is_some}
use Rattle.std.specs.List.{AllByRecursion, IsDistinct}
use Rattle.std.specs.Option.{option_map, option_copied}
use Rattle.std.specs.Result.{result_ok}
use Rattle.std.proofs.lemmas.Bool.{eqb-true}
use Rattle.kit.specs.Options.{◌>>=◌}
use Rattle.lists.proofs.Inserts.{found_all, found_passes}
use Rattle.card_type.specs.declared.card.Card.{Card}
use Rattle.card_type.specs.declared.spot.Spot.{Spot}
use Rattle.mailbox_model.specs.declared.change.Fault.{Fault}
use Rattle.mailbox_model.specs.Mailbox.{Mailbox, Entry, IsMailbox, card_at, entry_at}
use Rattle.mailbox_model.specs.Present.{Placed, Mail, mail_at, mail_by, mail_of, has_id, same_id, spot, spot_of, present}
use Rattle.mailbox_model.proofs.ChatLaws.{same_bytes}
use Rattle.mailbox_model.proofs.MailLaws.{bytes_turn}
use Rattle.mailbox_model.proofs.PresentLaws.{present_once}
use Rattle.mailbox_model.proofs.UidLaws.{present_own}
use Rattle.indexes.specs.Kept.{spot_at, present_at}
use Rattle.indexes.specs.Views.{seen_at, seen_of}

-- ---- a mail, and what is kept under its uid

card_from : (r : Result Card Fault) (e : Entry) (t : Mail) → mail_by e r ≡ Some t → result_ok r ≡ Some t.placed.card
card_from (Ok card) e t h = ap (λ o. option_map (λ u. u.placed.card) o) h
card_from (Err fault) e t h = cc

seen_from : (r : Result Card Fault) (e : Entry) (t : Mail) → mail_by e r ≡ Some t → e.seen ≡ t.seen
seen_from (Ok card) e t h = let same : Some e.seen ≡ Some t.seen = ap (λ o. option_map (λ u. u.seen) o) h in cc
seen_from (Err fault) e t h = cc

module _ (m : Mailbox) (uid : ℕ) (t : Mail) (is : mail_at m uid ≡ Some t) where
  pub card_is : card_at m uid ≡ Some t.placed.card
  card_is = by (entry_at m uid) is
    where
      by : (o : Option Entry) → (o >>= mail_of) ≡ Some t → (o >>= λ entry. result_ok entry.read) ≡ Some t.placed.card
      by None h = cc
      by (Some e) h = card_from e.read e t h

  pub seen_is : seen_at m uid ≡ t.seen
  seen_is = by (entry_at m uid) is
    where
      by : (o : Option Entry) → (o >>= mail_of) ≡ Some t → seen_of o ≡ t.seen
      by None h = cc
      by (Some e) h = seen_from e.read e t h

  pub spot_is : spot_at m uid ≡ Some (spot t.placed)
  spot_is = ap (option_map (λ u. spot u.placed)) is

-- ---- of a list in which no two are alike, each is found

pub found_each : {X : Type 0} (same : X → X → Bool) → ((x : X) → same x x ≡ true) → ((x y : X) → same x y ≡ same y x)
    → (xs : List X) → IsDistinct same xs → AllByRecursion (λ x. find (same x) xs ≡ Some x) xs
unfolding IsDistinct
found_each same self turn [] d = tt
found_each {X} same self turn (x ∷ xs) d = (rw (self x, find) refl, after xs d.0 (found_each same self turn xs d.1))
  where
    after : (ys : List X) → AllByRecursion (λ y. same x y ≡ false) ys
        → AllByRecursion (λ y. find (same y) xs ≡ Some y) ys → AllByRecursion (λ y. find (same y) (x ∷ xs) ≡ Some y) ys
    after [] a f = tt
    after (y ∷ ys) a f = (rw (turn y x ∙ a.0, find) f.0, after ys a.1 f.1)

-- ---- the present mails

-- a present mail is found by its uid and by its id
pub record IsPresent (m : Mailbox) (t : Mail) : Type 0 where
  pub mail : mail_at m t.placed.uid ≡ Some t
  pub first : find (has_id t.placed.card.id) (present m) ≡ Some t

both : {X : Type 0} (P Q R : X → Type 0) → ((x : X) → P x → Q x → R x) → (xs : List X) → AllByRecursion P xs → AllByRecursion Q xs → AllByRecursion R xs
both P Q R f [] p q = tt
both P Q R f (x ∷ xs) p q = (f x p.0 q.0, both P Q R f xs p.1 q.1)

module _ (m : Mailbox) (rules : IsMailbox m) where
  pub each_present : AllByRecursion (IsPresent m) (present m)
  each_present =
      both (λ t. mail_at m t.placed.uid ≡ Some t) (λ t. find (has_id t.placed.card.id) (present m) ≡ Some t) (IsPresent m) (λ t h k. record { mail = h; first = k }) (present m)
      (present_own m rules.uids)
      (found_each same_id (λ t. same_bytes t.placed.card.id) (λ t u. bytes_turn t.placed.card.id u.placed.card.id) (present m) (present_once m))

  -- the card with a uid is that of a present mail
  placed_in : (uid : ℕ) (p : Placed) (ts : List Mail) → find (λ p. p.uid == uid) (map (λ t. t.placed) ts) ≡ Some p
      → (t : Mail) × (find (λ t. t.placed.uid == uid) ts ≡ Some t) × (t.placed ≡ p)
  placed_in uid p [] h = cc
  placed_in uid p (t ∷ ts) h =
      elim (t.placed.uid == uid) as (λ b. cond b (Some t.placed) (find (λ p. p.uid == uid) (map (λ t. t.placed) ts)) ≡ Some p → (u : Mail) × (cond b (Some t) (find (λ t. t.placed.uid == uid) ts) ≡ Some u) × (u.placed ≡ p)) [
        | true ↦ λ k. (t, refl, cc)
        | false ↦ λ k. placed_in uid p ts k
      ] h

  -- a present card is kept under its uid, and is the first with its id
  pub record IsCard (uid : ℕ) (p : Placed) : Type 0 where
    pub own : p.uid ≡ uid
    pub card : card_at m uid ≡ Some p.card
    pub spot : spot_of m p.card.id ≡ Some (spot p)

  pub present_is : (uid : ℕ) (p : Placed) → present_at m uid ≡ Some p → IsCard uid p
  present_is uid p h =
      let at = placed_in uid p (present m) h in
      let is : at.0.placed ≡ p = at.2 in
      let here = found_all (IsPresent m) (λ t. t.placed.uid == uid) (present m) at.0 each_present at.1 in
      let own : at.0.placed.uid ≡ uid = eqb-true at.0.placed.uid uid (found_passes (λ t. t.placed.uid == uid) (present m) at.0 at.1) in
      subst (IsCard uid) is (record {
        own = own;
        card = card_is m uid at.0 (subst (λ n. mail_at m n ≡ Some at.0) own here.mail);
        spot = ap (option_map (λ t. spot t.placed)) here.first;
      })

-- what is there
pub one_of : {X : Type 0} (o : Option X) → is_some o ≡ true → (x : X) × (o ≡ Some x)
one_of None h = cc
one_of (Some x) h = (x, refl)

-- and where it is lent
pub lent : {X : Type 0} (o : Option (Bor X)) (x : X) → option_copied o ≡ Some x → is_some o ≡ true
lent None x h = cc
lent (Some b) x h = refl

pub lent_is : {X : Type 0} (o : Option (Bor X)) (x : X) (b : Bor X) → option_copied o ≡ Some x → o ≡ Some b → b.now ≡ x
lent_is o x b h k = let same : Some b.now ≡ Some x = sym (ap option_copied k) ∙ h in cc

module _ (m : Mailbox) (rules : IsMailbox m) (uid : ℕ) (p : Placed) (here : present_at m uid ≡ Some p) where
  own : IsCard m rules uid p
  own = present_is m rules uid p here

  -- the card that is lent under its uid, and the spot under its id
  pub card_lent : (o : Option (Bor Card)) → option_copied o ≡ card_at m uid → is_some o ≡ true
  card_lent o h = lent o p.card (h ∙ own.card)

  pub same_card : (o : Option (Bor Card)) (b : Bor Card) → option_copied o ≡ card_at m uid → o ≡ Some b → b.now ≡ p.card
  same_card o b h k = lent_is o p.card b (h ∙ own.card) k

  at_id : (o : Option (Bor Spot)) (card : Card) → card ≡ p.card → option_copied o ≡ spot_of m card.id → option_copied o ≡ Some (spot p)
  at_id o card is h = h ∙ ap (λ c. spot_of m c.id) is ∙ own.spot

  pub spot_lent : (o : Option (Bor Spot)) (card : Card) → card ≡ p.card → option_copied o ≡ spot_of m card.id → is_some o ≡ true
  spot_lent o card is h = lent o (spot p) (at_id o card is h)

  pub same_spot : (o : Option (Bor Spot)) (b : Bor Spot) (card : Card) → card ≡ p.card → option_copied o ≡ spot_of m card.id → o ≡ Some b
      → b.now ≡ spot p
  same_spot o b card is h k = lent_is o (spot p) b (at_id o card is h) k
