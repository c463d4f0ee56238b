-- What is told of moves, and of deadlines that are left, tells which chats are suspect.
use Rattle.std.proofs.Common.{◌≡◌, refl, sym, ap, ◌∙◌, subst, ℕ, ◌<◌, Bool, true, false, ◌||◌, ◌&&◌, Option, Some, None, is_some, List, [], ◌∷◌, ◌++◌, arith, ◌⊎◌, inl, inr}
use Rattle.std.specs.Prelude.{filter, if◌then◌else◌, IfSome, nat_le, find, ◌==◌}
use Rattle.std.specs.List.{list_any, AllByRecursion, IsDistinct}
use Rattle.std.specs.Option.{option_map_or}
use Rattle.std.specs.Str.{bytes_eq}
use Rattle.std.proofs.lemmas.Bool.{or_parts, eq-eqb, true_from_ne_false, both_ways}
use Rattle.std.proofs.lemmas.Bool.Decides.{nat_tests}
use Rattle.lists.specs.Sorted.{insert_by}
use Rattle.lists.proofs.DistinctLaws.{IsDistinct-filter}
use Rattle.lists.proofs.Inserts.{All-filter, list_any-insert_by}
use Rattle.lists.proofs.OneMore.{none_among}
use Rattle.card_type.specs.declared.key.ChatKey.{ChatKey}
use Rattle.mailbox_model.specs.declared.links.Cites.{Cites}
use Rattle.mailbox_model.specs.declared.row.Row.{Row}
use Rattle.mailbox_model.specs.declared.turn.Turn.{Turn}
use Rattle.mailbox_model.specs.Lists.{Bytes}
use Rattle.mailbox_model.specs.Mailbox.{Mailbox, IsMailbox}
use Rattle.mailbox_model.specs.Present.{Mail, mail_at, same_uid, present, contents}
use Rattle.mailbox_model.specs.Chats.{cites_cmp, chat_mails, is_id_among, moves}
use Rattle.mailbox_model.specs.Rows.{expiry, row}
use Rattle.mailbox_model.proofs.Elements.{All-append}
use Rattle.mailbox_model.proofs.UidLaws.{present_own, present_uids}
use Rattle.touched_chats.specs.Suspects.{is_end, is_moved, is_due, has_due, turned}
use Rattle.touched_chats.proofs.Lists.{each_not}
use Rattle.touched_chats.proofs.Moving.{unmoved_among, unmoved_ids}
use Rattle.touched_chats.proofs.Near.{is_content_mail}
use Rattle.touched_chats.proofs.Turned.{is_of}
use Rattle.touched_chats.proofs.Covered.{All-weaker}
use Rattle.touched_chats.proofs.Exact.{none_moved}

-- ---- moves

-- the moves of any list that has all ids
moves_tell : (all before after : List Cites) (key : ChatKey)
    → ((id : Bytes) → is_id_among all id ≡ false → is_id_among before id ≡ false)
    → ((id : Bytes) → is_id_among all id ≡ false → is_id_among after id ≡ false)
    → list_any (is_end key) (moves all before after) ≡ is_moved before after key
moves_tell all before after key old new =
    alike (list_any (is_end key) (moves all before after)) (is_moved before after key)
    (λ h. none_moved key before after (unmoved_among key before after all old new h) (before ++ after))
    (λ h. none_moved key before after (unmoved_ids key before after h) all)
  where
    alike : (b c : Bool) → (b ≡ false → c ≡ false) → (c ≡ false → b ≡ false) → b ≡ c
    alike true true f g = refl
    alike true false f g = g refl
    alike false true f g = sym (f refl)
    alike false false f g = refl

-- those of the cards after, where one came
pub added_tell : (c : Cites) (before after : List Cites) (key : ChatKey) → after ≡ insert_by cites_cmp c before
    → list_any (is_end key) (moves after before after) ≡ is_moved before after key
added_tell c before after key is = moves_tell after before after key old (λ id e. e)
  where
    old : (id : Bytes) → is_id_among after id ≡ false → is_id_among before id ≡ false
    old id e =
        (or_parts (bytes_eq id c.spot.id) (is_id_among before id)
        (sym (ap (λ ts. is_id_among ts id) is ∙ list_any-insert_by cites_cmp (λ t. bytes_eq id t.spot.id) c before) ∙ e)).1

-- those of the cards before, where some left
pub removed_tell : (p : Cites → Bool) (before after : List Cites) (key : ChatKey) → after ≡ filter p before
    → list_any (is_end key) (moves before before after) ≡ is_moved before after key
removed_tell p before after key is = moves_tell before before after key (λ id e. e) new
  where
    new : (id : Bytes) → is_id_among before id ≡ false → is_id_among after id ≡ false
    new id e =
        ap (λ ts. is_id_among ts id) is
        ∙ none_among (λ t. bytes_eq id t.spot.id) (filter p before)
        (All-filter (λ t. bytes_eq id t.spot.id ≡ false) p before (each_not (λ t. bytes_eq id t.spot.id) before e))

-- of two changes in a row, one of them
pub moved_once : (before between after : List Cites) (key : ChatKey) → is_moved before after key ≡ true
    → (is_moved before between key || is_moved between after key) ≡ true
moved_once before between after key h =
    true_from_ne_false (is_moved before between key || is_moved between after key)
    (λ e. let parts = or_parts (is_moved before between key) (is_moved between after key) e in
    both_ways (is_moved before after key)
    (none_moved key before after (λ id. unmoved_ids key before between parts.0 id ∙ unmoved_ids key between after parts.1 id) (before ++ after)) h)

-- ---- deadlines

-- one that is later than the moment is not due
not_due : (o : Option Row) (end left : Option ℕ) (moment : ℕ) → left ≡ (if is_some o then end else None) → IfSome left (λ e. moment < e)
    → (is_some o && option_map_or (λ e. nat_le e moment) end false) ≡ false
not_due None end left moment is later = refl
not_due (Some r) end left moment is later = by end (subst (λ o. IfSome o (λ e. moment < e)) is later)
  where
    by : (o : Option ℕ) → IfSome o (λ e. moment < e) → option_map_or (λ e. nat_le e moment) o false ≡ false
    by None h = refl
    by (Some e) h = grind (arith, nat_tests, h)

pub none_due : (m : Mailbox) (key : ChatKey) (moment : ℕ) (left : ℕ → Option ℕ) → ((uid : ℕ) → IfSome (left uid) (λ end. moment < end))
    → AllByRecursion (λ t. left t.placed.uid ≡ (if is_some (row m t) then expiry m.me t else None)) (chat_mails m key)
    → has_due m moment key ≡ false
none_due m key moment left later is = none_among (is_due m moment) (chat_mails m key) (each (chat_mails m key) is)
  where
    each : (ts : List Mail) → AllByRecursion (λ t. left t.placed.uid ≡ (if is_some (row m t) then expiry m.me t else None)) ts
        → AllByRecursion (λ t. is_due m moment t ≡ false) ts
    each [] a = tt
    each (t ∷ ts) a = (not_due (row m t) (expiry m.me t) (left t.placed.uid) moment a.0 (later t.placed.uid), each ts a.1)

-- each uid stands once, so each content is found by its uid
each_by_uid : (ts : List Mail) → IsDistinct same_uid ts → AllByRecursion (λ t. find (λ u. u.placed.uid == t.placed.uid) ts ≡ Some t) ts
unfolding IsDistinct
each_by_uid [] d = tt
each_by_uid (t ∷ ts) d = (rw (eq-eqb t.placed.uid t.placed.uid refl) refl, behind ts d.0 (each_by_uid ts d.1))
  where
    behind : (us : List Mail) → AllByRecursion (λ u. same_uid t u ≡ false) us → AllByRecursion (λ u. find (λ v. v.placed.uid == u.placed.uid) ts ≡ Some u) us
        → AllByRecursion (λ u. find (λ v. v.placed.uid == u.placed.uid) (t ∷ ts) ≡ Some u) us
    behind [] a b = tt
    behind (u ∷ us) a b = (rw a.0 b.0, behind us a.1 b.1)

pub contents_by_uid : (m : Mailbox) → IsMailbox m → AllByRecursion (λ t. find (λ u. u.placed.uid == t.placed.uid) (contents m) ≡ Some t) (contents m)
contents_by_uid m k = each_by_uid (contents m) (IsDistinct-filter same_uid is_content_mail (present m) (present_uids m k.uids))

-- ---- mails

pub turned_own : (m n : Mailbox) (turn : Turn) → IsMailbox m → IsMailbox n
    → AllByRecursion (λ t. (mail_at m t.placed.uid ≡ Some t) ⊎ (mail_at n t.placed.uid ≡ Some t)) (turned m n turn)
turned_own m n turn k l =
    All-filter Own (is_of turn) (present m ++ present n)
    (All-append Own (present m) (present n)
    (All-weaker (λ t. mail_at m t.placed.uid ≡ Some t) Own (λ t e. inl e) (present m) (present_own m k.uids))
    (All-weaker (λ t. mail_at n t.placed.uid ≡ Some t) Own (λ t e. inr e) (present n) (present_own n l.uids)))
  where
    Own : Mail → Type 0
    Own t = (mail_at m t.placed.uid ≡ Some t) ⊎ (mail_at n t.placed.uid ≡ Some t)
