-- The content card with an id: it is there where its chat is known, and is found by its uid too.
use Rattle.std.proofs.Common.{Bor, ◌≡◌, refl, sym, ap, ◌∙◌, subst, Bool, true, Option, Some, None, [], is_some}
use Rattle.std.specs.Prelude.{◌==◌, find, option_map}
use Rattle.std.specs.Option.{option_and_then, option_copied}
use Rattle.std.specs.Cmp.Lexicographic.{bytes_decides}
use Rattle.std.proofs.lemmas.Bool.{eq-eqb}
use Rattle.std.proofs.lemmas.Option.{some_pair_parts}
use Rattle.std.specs.List.{IsDistinct}
use Rattle.lists.proofs.DistinctLaws.{IsDistinct-filter}
use Rattle.lists.proofs.Inserts.{found_passes, list_any-found}
use Rattle.card_type.specs.declared.key.ChatKey.{ChatKey}
use Rattle.card_type.specs.declared.spot.Spot.{Spot}
use Rattle.mailbox_model.specs.Chats.{chat, cites}
use Rattle.mailbox_model.specs.Lists.{Bytes}
use Rattle.mailbox_model.specs.Mailbox.{Mailbox, IsMailbox, card_at}
use Rattle.mailbox_model.specs.Present.{Mail, has_id, same_id, same_uid, mail_at, spot, spot_of, contents, present}
use Rattle.mailbox_model.proofs.ChatLaws.{is_some-known_chat, same_bytes}
use Rattle.mailbox_model.proofs.MailLaws.{is_alike, uid_alike}
use Rattle.mailbox_model.proofs.PresentLaws.{present_once}
use Rattle.mailbox_model.proofs.UidLaws.{present_own, present_uids}
use Rattle.touched_chats.proofs.Among.{Among, among_all, found_among, found_by_itself, passing_among}
use Rattle.touched_chats.proofs.Exact.{ids_of_cites}
use Rattle.touched_chats.proofs.Near.{is_content_mail}
use Rattle.indexes.specs.Kept.{deadline_among, deadline_of, spot_at}
use Rattle.indexes.proofs.Mails.{card_is, one_of, lent, lent_is}
use Rattle.repair.specs.Cards.{content_at}
use Rattle.repair.specs.Places.{IsPlace, place_in, place_of}
use Rattle.repair.specs.declared.place.Place.{Place}

-- ---- a content card

-- it is found by its uid and by its id
pub record IsContent (m : Mailbox) (t : Mail) : Type 0 where
  pub mail : mail_at m t.placed.uid ≡ Some t
  pub present : find (has_id t.placed.card.id) (present m) ≡ Some t
  pub by_id : content_at m t.placed.card.id ≡ Some t
  pub by_uid : find (λ u. u.placed.uid == t.placed.uid) (contents m) ≡ Some t

module _ (m : Mailbox) (rules : IsMailbox m) where
  ids_once : IsDistinct same_id (contents m)
  ids_once = IsDistinct-filter same_id is_content_mail (present m) (present_once m)

  uids_once : IsDistinct same_uid (contents m)
  uids_once = IsDistinct-filter same_uid is_content_mail (present m) (present_uids m rules.uids)

  among_contents : (t : Mail) → Among t (contents m) → IsContent m t
  among_contents t here =
      let own : (u : Mail) → same_id u u ≡ true = λ u. same_bytes u.placed.card.id in
      let there = (passing_among is_content_mail t (present m) here).0 in
      record {
        mail = among_all (λ u. mail_at m u.placed.uid ≡ Some u) t (present m) (present_own m rules.uids) there;
        present = found_by_itself same_id own is_alike.turn (present m) (present_once m) t there;
        by_id = found_by_itself same_id own is_alike.turn (contents m) ids_once t here;
        by_uid = (λ i. find (λ u. uid_alike.turn u t i) (contents m))
            ∙ found_by_itself same_uid (λ u. eq-eqb u.placed.uid u.placed.uid refl) uid_alike.turn (contents m) uids_once t here;
      }

  pub found_content : (p : Mail → Bool) (t : Mail) → find p (contents m) ≡ Some t → IsContent m t
  found_content p t h = among_contents t (found_among p (contents m) t h)

pub own_id : (m : Mailbox) (id : Bytes) (t : Mail) → content_at m id ≡ Some t → id ≡ t.placed.card.id
own_id m id t h = (bytes_decides id t.placed.card.id).0 (found_passes (has_id id) (contents m) t h)

-- ---- its place

same_there : (m : Mailbox) (id : Bytes) → is_some (chat m id) ≡ is_some (content_at m id)
same_there m id =
    is_some-known_chat [] (cites m) id ∙ ids_of_cites m.me (contents m) id ∙ list_any-found (has_id id) (contents m)

abbrev place_from : Option Mail → Option ChatKey → Option (ChatKey × Spot)
place_from t o = option_and_then (λ k. option_map (λ u. (k, spot u.placed)) t) o

-- the card with an id is in this chat, at this spot
pub record IsAt (m : Mailbox) (id : Bytes) (key : ChatKey) (s : Spot) : Type 0 where
  pub mail : Mail
  pub there : content_at m id ≡ Some mail
  pub chat : chat m id ≡ Some key
  pub spot : spot mail.placed ≡ s

placed_at : (m : Mailbox) (id : Bytes) (key : ChatKey) (s : Spot) → Some (key, s) ≡ place_in m id → IsAt m id key s
placed_at m id key s h = by (chat m id) (content_at m id) refl refl h
  where
    by : (o : Option ChatKey) (t : Option Mail) → chat m id ≡ o → content_at m id ≡ t
        → Some (key, s) ≡ place_from t o → IsAt m id key s
    by None t e f h = cc
    by (Some k) None e f h = cc
    by (Some k) (Some t) e f h =
        let parts = some_pair_parts k key (spot t.placed) s (sym h) in
        record { mail = t; there = f; chat = e ∙ ap Some parts.0; spot = parts.1 }

-- its mail and its card are kept under the uid of that spot
module _ (m : Mailbox) (rules : IsMailbox m) (id : Bytes) (t : Mail) (there : content_at m id ≡ Some t) (s : Spot) (at : spot t.placed ≡ s) where
  uid_is : t.placed.uid ≡ s.uid
  uid_is = ap (λ q. q.uid) at

  pub mail_there : mail_at m s.uid ≡ Some t
  mail_there = subst (λ uid. mail_at m uid ≡ Some t) uid_is (found_content m rules (has_id id) t there).mail

  pub card_there : card_at m s.uid ≡ Some t.placed.card
  card_there = card_is m s.uid t mail_there

  pub spot_there : spot_at m s.uid ≡ Some s
  spot_there = ap (option_map (λ u. spot u.placed)) mail_there ∙ ap Some at

  pub deadline_there : deadline_among m (present m) s.uid ≡ deadline_of m t
  deadline_there =
      ap (λ uid. deadline_among m (present m) uid) (sym uid_is)
      ∙ ap (option_and_then (deadline_of m)) (found_content m rules (has_id id) t there).by_uid

-- there is none where it has no place
not_placed : (m : Mailbox) (id : Bytes) → None ≡ place_in m id → (content_at m id ≡ None) × (chat m id ≡ None)
not_placed m id h = by (chat m id) (content_at m id) refl refl (same_there m id) h
  where
    by : (o : Option ChatKey) (t : Option Mail) → chat m id ≡ o → content_at m id ≡ t → is_some o ≡ is_some t
        → None ≡ place_from t o → (content_at m id ≡ None) × (chat m id ≡ None)
    by None None e f same h = (f, e)
    by None (Some t) e f same h = cc
    by (Some k) None e f same h = cc
    by (Some k) (Some t) e f same h = cc

-- ---- a place that may be missing

pub placed : (m : Mailbox) (id : Bytes) (place : Option Place) (p : Place) → place ≡ Some p → IsPlace m id place → IsAt m id p.chat p.spot.now
placed m id place p is at = placed_at m id p.chat p.spot.now (sym (ap (option_map place_of) is) ∙ at)

pub unplaced : (m : Mailbox) (id : Bytes) (place : Option Place) → place ≡ None → IsPlace m id place → (content_at m id ≡ None) × (chat m id ≡ None)
unplaced m id place is at = not_placed m id (sym (ap (option_map place_of) is) ∙ at)

pub chat_of_place : (m : Mailbox) (id : Bytes) (place : Option Place) → IsPlace m id place → option_map (λ p. p.chat) place ≡ chat m id
chat_of_place m id None at = sym (unplaced m id None refl at).1
chat_of_place m id (Some p) at = sym (placed m id (Some p) p refl at).chat

-- ---- it is that of the present mail with the id

module _ (m : Mailbox) (rules : IsMailbox m) (id : Bytes) (key : ChatKey) (known : chat m id ≡ Some key) (spots : Option (Bor Spot))
    (at : option_copied spots ≡ spot_of m id) where
  found : (t : Mail) × (content_at m id ≡ Some t)
  found = one_of (content_at m id) (sym (same_there m id) ∙ ap is_some known)

  spot_is : spot_of m id ≡ Some (spot found.0.placed)
  spot_is =
      ap (spot_of m) (own_id m id found.0 found.1)
      ∙ ap (option_map (λ t. spot t.placed)) (found_content m rules (has_id id) found.0 found.1).present

  pub spot_lent : is_some spots ≡ true
  spot_lent = lent spots (spot found.0.placed) (at ∙ spot_is)

  pub place_lent : (s : Bor Spot) → spots ≡ Some s → Some (key, s.now) ≡ place_in m id
  place_lent s h =
      let same : s.now ≡ spot found.0.placed = lent_is spots (spot found.0.placed) s (at ∙ spot_is) h in
      (λ i. Some (key, same i)) ∙ sym (ap (place_from (content_at m id)) known ∙ ap (λ t. place_from t (Some key)) found.1)
