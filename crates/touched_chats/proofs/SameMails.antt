-- Mails at one spot that were seen at one moment.
use Rattle.std.proofs.Common.{◌≡◌, refl, ap, ◌∙◌, ℕ, true, ◌&&◌, Option, Some, None}
use Rattle.std.specs.Prelude.{nat_eq, ◌==◌}
use Rattle.std.specs.Option.{option_eq}
use Rattle.std.specs.Str.{bytes_eq}
use Rattle.std.specs.Cmp.Lexicographic.{bytes_decides}
use Rattle.std.proofs.lemmas.Bool.{and_parts, and_from, eq-eqb, eqb-true, false≢true}
use Rattle.card_type.specs.declared.spot.Spot.{Spot}
use Rattle.card_type.specs.Spots.{spot_eq}
use Rattle.mailbox_model.specs.Lists.{Bytes}
use Rattle.mailbox_model.specs.Present.{Mail, spot}
use Rattle.mailbox_model.proofs.ChatLaws.{same_bytes}
use Rattle.touched_chats.specs.Touched.{is_same}

pub same_itself : (t : Mail) → is_same t t ≡ true
same_itself t =
    and_from (spot_eq (spot t.placed) (spot t.placed)) (option_eq nat_eq t.seen t.seen)
    (and_from (t.placed.date == t.placed.date) (bytes_eq t.placed.card.id t.placed.card.id && (t.placed.uid == t.placed.uid)) (eq-eqb t.placed.date t.placed.date refl)
    (and_from (bytes_eq t.placed.card.id t.placed.card.id) (t.placed.uid == t.placed.uid) (same_bytes t.placed.card.id) (eq-eqb t.placed.uid t.placed.uid refl)))
    (seen t.seen)
  where
    seen : (o : Option ℕ) → option_eq nat_eq o o ≡ true
    seen None = refl
    seen (Some s) = eq-eqb s s refl

pub record IsOne (a b : Mail) : Type 0 where
  pub date : a.placed.date ≡ b.placed.date
  pub id : a.placed.card.id ≡ b.placed.card.id
  pub uid : a.placed.uid ≡ b.placed.uid
  pub seen : a.seen ≡ b.seen

one_moment : (a b : Option ℕ) → option_eq nat_eq a b ≡ true → a ≡ b
one_moment None None h = refl
one_moment None (Some y) h = absurd (false≢true h)
one_moment (Some x) None h = absurd (false≢true h)
one_moment (Some x) (Some y) h = ap Some (eqb-true x y h)

pub one_of : (a b : Mail) → is_same a b ≡ true → IsOne a b
one_of a b h =
    let both = and_parts (spot_eq (spot a.placed) (spot b.placed)) (option_eq nat_eq a.seen b.seen) h in
    let dates = and_parts (a.placed.date == b.placed.date) (bytes_eq a.placed.card.id b.placed.card.id && (a.placed.uid == b.placed.uid)) both.0 in
    let ids = and_parts (bytes_eq a.placed.card.id b.placed.card.id) (a.placed.uid == b.placed.uid) dates.1 in
    record {
      date = eqb-true a.placed.date b.placed.date dates.0;
      id = (bytes_decides a.placed.card.id b.placed.card.id).0 ids.0;
      uid = eqb-true a.placed.uid b.placed.uid ids.1;
      seen = one_moment a.seen b.seen both.1;
    }

pub same_turn : (a b : Mail) → is_same a b ≡ true → is_same b a ≡ true
same_turn a b h =
    (λ i. spot_eq (spot b.placed) (at (one.date i) (one.id i) (one.uid i)) && option_eq nat_eq b.seen (one.seen i)) ∙ same_itself b
  where
    one : IsOne a b
    one = one_of a b h

    at : ℕ → Bytes → ℕ → Spot
    at date id uid = record { date = date; id = id; uid = uid }
