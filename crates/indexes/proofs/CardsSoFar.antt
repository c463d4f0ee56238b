-- The present mails, one after the other in mail order.
use Rattle.std.proofs.Common.{Bor, ◌≡◌, refl, sym, ap, ◌∙◌, subst, ℕ, suc, ◌<◌, false, Option, Some, List, [], ◌∷◌, ◌++◌, length, map, take, arith}
use Rattle.std.specs.Prelude.{sum_by}
use Rattle.std.specs.Iterator.{Yields}
use Rattle.std.specs.List.{AllByRecursion, IsDistinct}
use Rattle.std.specs.List.Sorted.{IsStrictlySortedBy}
use Rattle.std.specs.Map.Iter.{TakesFirst, deref}
use Rattle.std.proofs.lemmas.List.{length-map}
use Rattle.std.proofs.lemmas.List.Sums.{sum_by-take-le}
use Rattle.std.proofs.lemmas.Map.Iter.{rest_more, rest_so_far}
use Rattle.card_type.specs.declared.card.Card.{Card}
use Rattle.card_type.specs.declared.spot.Spot.{Spot}
use Rattle.mailbox_model.specs.declared.links.Cites.{Cites}
use Rattle.mailbox_model.specs.Chats.{is_id_among}
use Rattle.mailbox_model.specs.Lists.{Bytes}
use Rattle.mailbox_model.specs.Mailbox.{Mailbox, IsMailbox, card_at}
use Rattle.mailbox_model.specs.Present.{Placed, Mail, mail_at, mail_cmp, same_id, spot, present}
use Rattle.mailbox_model.specs.Turns.{with_mail}
use Rattle.mailbox_model.proofs.OneMail.{cards_of, last_mail, last_in_order, last_once}
use Rattle.mailbox_model.proofs.CountLaws.{sum_by-map}
use Rattle.mailbox_model.proofs.PeopleLaws.{few_mentions}
use Rattle.mailbox_model.proofs.PresentLaws.{present_sorted, present_once}
use Rattle.contacts.specs.Kept.{times_in}
use Rattle.thread_links.specs.Linked.{cites_among}
use Rattle.thread_links.proofs.MailLaws.{cites_absent}
use Rattle.indexes.specs.declared.indexes.Indexes.{Indexes}
use Rattle.indexes.specs.Kept.{AreCounted, AreOf}
use Rattle.indexes.proofs.Mails.{IsPresent, each_present, card_is}

-- ---- a list is cut where what it is mapped to is

pub record IsCut {X Y : Type 0} (f : X → Y) (xs : List X) (n : ℕ) (y : Y) : Type 0 where
  pub one : X
  pub after : List X
  pub whole : xs ≡ take n xs ++ one ∷ after
  pub more : take (suc n) xs ≡ take n xs ++ one ∷ []
  pub at : f one ≡ y
  pub within : n < length xs

pub cut : {X Y : Type 0} (f : X → Y) (before : List Y) (y : Y) (after : List Y) (xs : List X) → map f xs ≡ before ++ y ∷ after
    → IsCut f xs (length before) y
cut f [] y after [] h = cc
cut f [] y after (x ∷ xs) h = record { one = x; after = xs; whole = refl; more = refl; at = cc; within = omega arith }
cut f (b ∷ before) y after [] h = cc
cut f (b ∷ before) y after (x ∷ xs) h =
    let rest = cut f before y after xs cc in
    record {
      one = rest.one;
      after = rest.after;
      whole = ap (λ ys. x ∷ ys) rest.whole;
      more = ap (λ ys. x ∷ ys) rest.more;
      at = rest.at;
      within = omega (arith, rest.within);
    }

pub in_middle : {X : Type 0} (P : X → Type 0) (before : List X) (x : X) (after : List X) → AllByRecursion P (before ++ x ∷ after) → P x
in_middle P [] x after a = a.0
in_middle P (b ∷ before) x after a = in_middle P before x after a.1

-- where a walk over the spots of the present mails has come after those of xs, and s is the next
pub next_mail : (m : Mailbox) (keys : List Spot) → keys ≡ map (λ t. spot t.placed) (present m) → (start rest later : List Spot) → start ≡ keys
    → (xs : List (Bor Spot)) → Yields (TakesFirst deref) start xs rest → (r : Option (Bor Spot)) (s : Bor Spot) → r ≡ Some s → TakesFirst deref rest r later
    → IsCut (λ t. spot t.placed) (present m) (length xs) s.now
next_mail m keys are start rest later starts xs yielded r s is steps =
    subst (λ n. IsCut (λ t. spot t.placed) (present m) n s.now) (length-map xs deref)
    (cut (λ t. spot t.placed) (map deref xs) s.now later (present m)
    (sym are ∙ sym starts ∙ rest_so_far deref xs start rest yielded ∙ ap (λ ys. map deref xs ++ ys) (rest_more deref rest later r s is steps)))

-- ---- the next present mail, whose spot follows those of n mails

module _ (m : Mailbox) (rules : IsMailbox m) (n : ℕ) (place : Spot) (next : IsCut (λ t. spot t.placed) (present m) n place) where
  abbrev before : List Mail
  before = take n (present m)

  abbrev t : Mail
  t = next.one

  in_order : IsStrictlySortedBy mail_cmp (before ++ t ∷ next.after)
  in_order = subst (IsStrictlySortedBy mail_cmp) next.whole (present_sorted m rules.uids)

  once : IsDistinct same_id (before ++ t ∷ next.after)
  once = subst (IsDistinct same_id) next.whole (present_once m)

  with_next : with_mail t before ≡ take (suc n) (present m)
  with_next = last_mail before next.after t in_order ∙ sym next.more

  pub its_card : card_at m place.uid ≡ Some t.placed.card
  its_card =
      let here = in_middle (IsPresent m) before t next.after (subst (AllByRecursion (IsPresent m)) next.whole (each_present m rules)) in
      card_is m place.uid t (subst (λ s. mail_at m s.uid ≡ Some t) next.at here.mail)

  pub is_absent : (me : Bytes) (kept : List Cites) → kept ≡ cites_among me before → is_id_among kept place.id ≡ false
  is_absent me kept are =
      subst (λ cites. is_id_among cites place.id ≡ false) (sym are)
      (subst (λ s. is_id_among (cites_among me before) s.id ≡ false) next.at
      (cites_absent me t before (last_once before next.after t in_order once)))

  are_counted : AreCounted (with_mail t before)
  are_counted addr =
      omega (
        arith,
        few_mentions m addr rules,
        ap (λ ts. sum_by (λ (p : Placed). times_in p.card addr) (cards_of ts)) with_next,
        sum_by-map (λ (p : Placed). times_in p.card addr) (λ (u : Mail). u.placed) (take (suc n) (present m)),
        sum_by-map (λ (p : Placed). times_in p.card addr) (λ (u : Mail). u.placed) (present m),
        sum_by-take-le (λ (u : Mail). times_in u.placed.card addr) (present m) (suc n),
      )

  -- what is of those before is of them and it, once its card is added as `add_card` says
  pub one_more : (me : Bytes) → me ≡ m.me → (card : Card) → t.placed.card ≡ card → (x y : Indexes)
      → ((u : Mail) (ts : List Mail) → spot u.placed ≡ place → u.placed.card ≡ card → IsStrictlySortedBy mail_cmp (with_mail u ts)
      → AreCounted (with_mail u ts) → AreOf me ts x → AreOf me (with_mail u ts) y)
      → AreOf m.me before x → (k : ℕ) → k ≡ suc n → AreOf m.me (take k (present m)) y
  one_more me own card same x y added of_those k more =
      subst (λ ts. AreOf m.me ts y) (with_next ∙ ap (λ i. take i (present m)) (sym more))
      (subst (λ a. AreOf a (with_mail t before) y) own
      (added t before next.at same (last_in_order before next.after t in_order) are_counted
      (subst (λ a. AreOf a before x) (sym own) of_those)))

-- what else there is stays
pub rest_stays : (x y z : Indexes) → y ≡ record x { links = y.links; effects = y.effects; contacts = y.contacts }
    → z ≡ record y { links = z.links; effects = z.effects; contacts = z.contacts }
    → z ≡ record x { links = z.links; effects = z.effects; contacts = z.contacts }
rest_stays x y z before now = now ∙ ap (λ (u : Indexes). record u { links = z.links; effects = z.effects; contacts = z.contacts }) before
