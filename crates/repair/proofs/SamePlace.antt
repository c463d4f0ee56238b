-- A card that is at one place in two mailboxes has one uid there, and differs by its mark alone.
use Rattle.std.proofs.Common.{◌≡◌, refl, sym, ap, ◌∙◌, subst, ℕ, Bool, true, false, ◌&&◌, Option, Some, None}
use Rattle.std.specs.Prelude.{◌==◌, if◌then◌else◌, option_map}
use Rattle.std.specs.Str.{bytes_eq}
use Rattle.std.specs.Cmp.Lexicographic.{bytes_decides}
use Rattle.std.proofs.lemmas.Bool.{and_parts, eqb-true}
use Rattle.card_type.specs.declared.key.ChatKey.{ChatKey}
use Rattle.card_type.specs.declared.spot.Spot.{Spot}
use Rattle.card_type.specs.Keys.{key_eq}
use Rattle.card_type.specs.Spots.{spot_eq}
use Rattle.mailbox_model.specs.Chats.{is_chat}
use Rattle.mailbox_model.specs.Lists.{Bytes}
use Rattle.mailbox_model.specs.Mailbox.{Mailbox, IsMailbox}
use Rattle.mailbox_model.specs.States.{Shown, shown_as}
use Rattle.mailbox_model.proofs.ListLaws.{key_same}
use Rattle.repair.specs.declared.place.Place.{Place}
use Rattle.repair.specs.Cards.{card_in, content_at, has_uid_at}
use Rattle.repair.specs.Turned.{NameOneMail}
use Rattle.repair.specs.Places.{IsPlace, place_of, same_place, unmarked}
use Rattle.repair.proofs.Contents.{IsAt, mail_there, placed}
use Rattle.repair.proofs.OneId.{uid_at}

-- ---- two places that are alike are one

spot_same : (a b : Spot) → spot_eq a b ≡ true → a ≡ b
spot_same a b h =
    let dates = and_parts (a.date == b.date) (bytes_eq a.id b.id && (a.uid == b.uid)) h in
    let ids = and_parts (bytes_eq a.id b.id) (a.uid == b.uid) dates.1 in
    λ i. record { date = eqb-true a.date b.date dates.0 i; id = (bytes_decides a.id b.id).0 ids.0 i; uid = eqb-true a.uid b.uid ids.1 i }

-- a card is in one chat, at one spot
pub record AreAt (m n : Mailbox) (id : Bytes) : Type 0 where
  pub key : ChatKey
  pub spot : Spot
  pub before : IsAt m id key spot
  pub after : IsAt n id key spot

pub both_at : (m n : Mailbox) (id : Bytes) (before after : Option Place) → IsPlace m id before → IsPlace n id after
    → same_place (option_map place_of before) (option_map place_of after) ≡ true → AreAt m n id
both_at m n id None after b a h = cc
both_at m n id (Some p) None b a h = cc
both_at m n id (Some p) (Some q) b a h =
    let parts = and_parts (key_eq p.chat q.chat) (spot_eq p.spot.now q.spot.now) h in
    let key = key_same p.chat q.chat parts.0 in
    let spot = spot_same p.spot.now q.spot.now parts.1 in
    record {
      key = p.chat;
      spot = p.spot.now;
      before = placed m id (Some p) p refl b;
      after = subst (λ s. IsAt n id p.chat s) (sym spot) (subst (λ k. IsAt n id k q.spot.now) (sym key) (placed n id (Some q) q refl a));
    }

-- ---- so little differs

abbrev in_chat : ChatKey → Option ChatKey → Option Shown → Option Shown
in_chat k o c = if is_chat k o then c else None

card_as : (m : Mailbox) (id : Bytes) (key : ChatKey) (s : Spot) (is : IsAt m id key s) (k : ChatKey)
    → card_in m k id ≡ in_chat k (Some key) (Some (shown_as m is.mail))
card_as m id key s is k =
    ap (λ o. in_chat k o (option_map (shown_as m) (content_at m id))) is.chat
    ∙ ap (λ o. in_chat k (Some key) (option_map (shown_as m) o)) is.there

module _ (m n : Mailbox) (before : IsMailbox m) (after : IsMailbox n) (one : NameOneMail m n) (id : Bytes) (are : AreAt m n id) where
  same_card : are.before.mail.placed.card ≡ are.after.mail.placed.card
  same_card =
      one are.spot.uid are.before.mail are.after.mail
      (mail_there m before id are.before.mail are.before.there are.spot are.before.spot)
      (mail_there n after id are.after.mail are.after.there are.spot are.after.spot)

  pub same_but_mark : (k : ChatKey) → option_map unmarked (card_in m k id) ≡ option_map unmarked (card_in n k id)
  same_but_mark k =
      ap (option_map unmarked) (card_as m id are.key are.spot are.before k)
      ∙ by (is_chat k (Some are.key))
      ∙ sym (ap (option_map unmarked) (card_as n id are.key are.spot are.after k))
    where
      by : (b : Bool) → option_map unmarked (if b then Some (shown_as m are.before.mail) else None)
          ≡ option_map unmarked (if b then Some (shown_as n are.after.mail) else None)
      by true = λ i. Some ((are.before.spot ∙ sym are.after.spot) i, same_card i)
      by false = refl

  pub same_uid_at : (uid : ℕ) → has_uid_at m id uid ≡ has_uid_at n id uid
  same_uid_at uid = uid_at m id are.key are.spot are.before uid ∙ sym (uid_at n id are.key are.spot are.after uid)
