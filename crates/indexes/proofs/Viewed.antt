-- What is told ahead of a change is so of the mailbox that is seen.
use Rattle.std.proofs.Common.{Bor, ◌≡◌, refl, sym, ap, ◌∙◌, ℕ, true, false, Bool, Option, Some, None}
use Rattle.std.specs.Prelude.{◌==◌, if◌then◌else◌, unwrap_or}
use Rattle.std.specs.Option.{option_copied, option_map, option_or}
use Rattle.std.proofs.lemmas.Bool.{eqb-true}
use Rattle.lists.proofs.Inserts.{found_passes}
use Rattle.mailbox_model.specs.declared.change.Change.{Change}
use Rattle.mailbox_model.specs.declared.item.Item.{Item}
use Rattle.mailbox_model.specs.declared.turn.Turn.{Turn}
use Rattle.mailbox_model.specs.Lists.{Bytes}
use Rattle.mailbox_model.specs.Mailbox.{Mailbox, Entry, after, entry_at, has_uid, item_at, item_of, mark_entry, marked_at, IsMailbox}
use Rattle.mailbox_model.specs.Present.{spot_of}
use Rattle.mailbox_model.specs.Turns.{turn}
use Rattle.mailbox_model.proofs.RuleLaws.{change_keeps}
use Rattle.mailbox_model.proofs.TurnLaws.{turn_law}
use Rattle.touched_chats.specs.Ahead.{entry_ahead, spot_ahead, now_ahead}
use Rattle.touched_chats.proofs.Ahead.{entries_ahead, spots_ahead, moment_ahead}
use Rattle.indexes.specs.declared.view.Coming.{Coming}
use Rattle.indexes.specs.Views.{AllowsComing, IsComing, seen_of, seen_with}

module _ (m : Mailbox) (change : Change) (turns : Turn) (is : IsComing m change turns) where
  pub entry_seen : (uid : ℕ) → entry_ahead m change uid ≡ entry_at (after m change) uid
  entry_seen uid = entries_ahead m change uid is.rules

  pub spot_seen : (id : Bytes) → spot_ahead m turns id ≡ spot_of (after m change) id
  spot_seen id = ap (λ t. spot_ahead m t id) is.turn ∙ sym (spots_ahead m (after m change) (turn m change) id (turn_law m change is.rules.uids))

  pub now_seen : now_ahead m.now turns ≡ (after m change).now
  now_seen = ap (now_ahead m.now) is.turn ∙ sym (moment_ahead m (after m change) (turn m change) (turn_law m change is.rules.uids))

pub rules_seen : (m : Mailbox) (coming : Option Coming) → IsMailbox m → AllowsComing m coming → IsMailbox (seen_with m coming)
rules_seen m None k a = k
rules_seen m (Some c) k a = change_keeps m c.change.now k a.valid a.room

-- what is seen of a mail where one is marked
pub marked_item : (m : Mailbox) (marked uid now : ℕ) (item : Item) → item_at m uid ≡ Some item
    → seen_of (option_map (mark_entry marked now) (entry_at m uid)) ≡ (if uid == marked then option_or item.seen (Some now) else item.seen)
marked_item m marked uid now item h = by (entry_at m uid) refl h
  where
    by : (o : Option Entry) → entry_at m uid ≡ o → option_map item_of o ≡ Some item
        → seen_of (option_map (mark_entry marked now) o) ≡ (if uid == marked then option_or item.seen (Some now) else item.seen)
    by None k h = cc
    by (Some e) k h =
        let own : e.uid ≡ uid = eqb-true e.uid uid (found_passes (has_uid uid) m.entries e k) in
        let seen : e.seen ≡ item.seen = let same : item_of e ≡ item = cc in ap (λ i. i.seen) same in
        at (e.uid == marked) ∙ (λ i. if own i == marked then option_or (seen i) (Some now) else seen i)
      where
        at : (b : Bool) → (if b then record e { seen = marked_at now e.seen } else e).seen ≡ (if b then option_or e.seen (Some now) else e.seen)
        at true = refl
        at false = refl

pub seen_or : (seen : Option ℕ) (now : ℕ) → Some (unwrap_or seen now) ≡ option_or seen (Some now)
seen_or None now = refl
seen_or (Some n) now = refl

pub item_there : {X : Type 0} (o : Option (Bor X)) (b : Bor X) (q : Option X) → option_copied o ≡ q → o ≡ Some b → q ≡ Some b.now
item_there o b q h k = sym h ∙ ap option_copied k
