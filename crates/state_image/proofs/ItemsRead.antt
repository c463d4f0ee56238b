-- The mails of an image, one after the other, as a loop reads them into a mailbox.
use Rattle.std.proofs.Common.{◌≡◌, ℕ, ◌+◌, ◌-◌, ◌<◌, ◌≤◌, List, [], ◌∷◌, ◌++◌, length, Some, Ok, Err, sym, ap, subst, ◌∙◌, length-append, arith}
use Rattle.std.proofs.lemmas.List.{length-map}
use Rattle.std.specs.Prelude.{fold, map, slice_get}
use Rattle.std.specs.List.{AllByRecursion}
use Rattle.mailbox_model.specs.declared.item.Item.{Item}
use Rattle.mailbox_model.specs.Mailbox.{Mailbox, Entry, item_of, max_entries, max_total_weight, weight_read, weights, RiseBelow, IsEntry, IsMailbox}
use Rattle.box_state.specs.Kept.{with_entry}
use Rattle.card_record.specs.Reading.{Read, Fails, times_of}
use Rattle.card_record.specs.declared.fault.ReadFault.{ReadFault}
use Rattle.card_record.specs.declared.fault.ReadFault.TheVariants as unread
use Rattle.card_record.proofs.Loop.{goes_on}
use Rattle.state_image.specs.Images.{last_uid, entry_at, entry_next}
use Rattle.state_image.proofs.ImageLaws.{weights_put}

-- ---- the last mail

last_from : (start : ℕ) (e : Entry) (es : List Entry) (item : Item) → slice_get (map item_of (e ∷ es)) (length es) ≡ Some item
    → fold (λ _ (x : Entry). x.uid) start (e ∷ es) ≡ item.uid
last_from start e [] item is = let same : item_of e ≡ item = cc in ap (λ (i : Item). i.uid) same
last_from start e (x ∷ es) item is = last_from e.uid x es item is

pub last_is : (es : List Entry) (item : Item) → slice_get (map item_of es) (length (map item_of es) - 1) ≡ Some item → last_uid es ≡ item.uid
last_is [] item is = cc
last_is (e ∷ es) item is =
    let size : length (map item_of (e ∷ es)) - 1 ≡ length es = omega (arith, length-map es item_of) in
    last_from 0 e es item (subst (λ n. slice_get (map item_of (e ∷ es)) n ≡ Some item) size is)

-- ---- the rules with one mail more

rise_more : (low last next : ℕ) (es : List Entry) (e : Entry) → low ≤ last + 1 → RiseBelow low es next
    → fold (λ _ (x : Entry). x.uid) last es < e.uid → e.uid < next → RiseBelow low (es ++ e ∷ []) next
rise_more low last next [] e h r above below = (omega arith, omega arith)
rise_more low last next (x ∷ es) e h r above below = (r.0, rise_more (x.uid + 1) x.uid next es e (omega arith) r.1 above below)

all_more : (now : ℕ) (es : List Entry) (e : Entry) → AllByRecursion (IsEntry now) es → IsEntry now e → AllByRecursion (IsEntry now) (es ++ e ∷ [])
all_more now [] e all one = (one, tt)
all_more now (x ∷ es) e all one = (all.0, all_more now es e all.1 one)

-- what a mail keeps that may follow those of a mailbox
pub record Follows (m : Mailbox) (e : Entry) : Type 0 where
  pub above : last_uid m.entries < e.uid
  pub below : e.uid < m.next_uid
  pub entry : IsEntry m.now e
  pub light : weights m.entries + weight_read e.read ≤ max_total_weight
  pub room : length m.entries < max_entries

pub one_keeps : (m : Mailbox) (e : Entry) → IsMailbox m → Follows m e → IsMailbox (with_entry m e)
one_keeps m e rules f = record {
  moment = rules.moment;
  uids = rise_more 1 0 m.next_uid m.entries e (omega arith) rules.uids f.above f.below;
  next = rules.next;
  each = all_more m.now m.entries e rules.each f.entry;
  count_fits = omega (arith, f.room, length-append m.entries (e ∷ []));
  weight_fits = omega (arith, f.light, weights_put m.entries e);
}

-- ---- the loop

-- Some mails were read into a mailbox, and what is still to be read leads to what all leads to.
pub record HasRead (start : Mailbox) (count : ℕ) (total : Read (List Entry)) (i : ℕ) (m : Mailbox) (bytes : List ℕ) : Type 0 where
  pub reads : times_of (entry_at start.now start.next_uid) m.entries (count - i) bytes ≡ total
  pub same : m ≡ record start { entries = m.entries }
  pub some : length m.entries ≡ i

module _ (start : Mailbox) (count : ℕ) (total : Read (List Entry)) (i : ℕ) (m : Mailbox) (bytes : List ℕ) (so_far : HasRead start count total i m bytes) where
  -- the next one reads as the next of these
  next_is : (r : Read Entry) → entry_next m bytes ≡ r → entry_at start.now start.next_uid m.entries bytes ≡ r
  next_is r e = sym (ap (λ (n : Mailbox). entry_at n.now n.next_uid m.entries bytes) so_far.same) ∙ e

  pub one_more : (new : Mailbox) (e : Entry) (after : List ℕ) → i < count → entry_next m bytes ≡ Ok (e, after) → new ≡ with_entry m e
      → HasRead start count total (i + 1) new after
  one_more new e after lt read put =
      let entries : new.entries ≡ m.entries ++ e ∷ [] = ap (λ (n : Mailbox). n.entries) put in
      let goes = goes_on (entry_at start.now start.next_uid) count total m.entries i bytes e after lt (next_is (Ok (e, after)) read) so_far.reads in
      record {
        reads = subst (λ (es : List Entry). times_of (entry_at start.now start.next_uid) es (count - (i + 1)) after ≡ total) (sym entries) goes;
        same = put ∙ ap (λ (n : Mailbox). record n { entries = m.entries ++ e ∷ [] }) so_far.same ∙ ap (λ (es : List Entry). record start { entries = es }) (sym entries);
        some = omega (arith, ap length entries, length-append m.entries (e ∷ []), so_far.some);
      }

  pub fails_next : (fault : ReadFault) → Fails fault (entry_next m bytes) → Fails fault (entry_at start.now start.next_uid m.entries bytes)
  fails_next unread.Memory f = tt
  fails_next (unread.Malformed left) f = next_is (Err left) f
