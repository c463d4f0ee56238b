-- The mailbox, how a change changes it, and the rules that it keeps. An item is an entry without its card.
use Rattle.std.specs.Prelude.{◌≡◌, ℕ, ◌+◌, ◌≤◌, max, Bool, false, not, ◌||◌, ◌==◌, nat_le, nat_lt, if◌then◌else◌, Option, Some, None, IfSome, Result, Ok, Err, IfOk, IsTrue, List, [], ◌∷◌, ◌++◌, length, map, filter, find, option_map, sum_by}
use Rattle.std.specs.List.{AllByRecursion}
use Rattle.std.specs.Option.{option_or}
use Rattle.std.specs.Result.{result_ok}
use Rattle.kit.specs.Options.{◌>>=◌}
use Rattle.kit.specs.Moments.{last_moment}
use Rattle.card_type.specs.declared.card.Card.{Card}
use Rattle.card_type.specs.Records.{weight}
use Rattle.card_type.specs.Rules.{is_valid}
use Rattle.mailbox_model.specs.declared.change.Fault.{Fault}
use Rattle.mailbox_model.specs.declared.change.Change.{Change}
use Rattle.mailbox_model.specs.declared.change.Change.TheVariants.{Arrive, ArriveFault, Expunge, Seen, At}
use Rattle.mailbox_model.specs.declared.item.Held.{Held}
use Rattle.mailbox_model.specs.declared.item.Held.TheVariants as is_held
use Rattle.mailbox_model.specs.declared.item.Item.{Item}
use Rattle.mailbox_model.specs.Lists.{Bytes}

-- one mail: when it arrived and when it was seen, if it was; its card, or why it has none
pub record Entry : Type 0 where
  pub uid : ℕ
  pub arrival : ℕ
  pub seen : Option ℕ
  pub read : Result Card Fault

-- what an item holds of a mail that was read so
abbrev pub held : Result Card Fault → Held
held (Ok card) = is_held.Card
held (Err fault) = is_held.Fault fault

-- an entry without its card
abbrev pub item_of : Entry → Item
item_of entry = record { uid = entry.uid; arrival = entry.arrival; seen = entry.seen; held = held entry.read }

-- what was read of a mail, where this is held of it and this is its card
abbrev pub read_of : Held → Option Card → Option (Result Card Fault)
read_of is_held.Card card = option_map Ok card
read_of (is_held.Fault fault) card = Some (Err fault)

-- an item with its card is an entry again; none where the card is missing
abbrev pub entry_of : Item → Option Card → Option Entry
entry_of item card =
    option_map (λ read. record { uid = item.uid; arrival = item.arrival; seen = item.seen; read = read }) (read_of item.held card)

-- the own address, the moment, the next uid and the entries
pub record Mailbox : Type 0 where
  pub me : Bytes
  pub now : ℕ
  pub next_uid : ℕ
  pub entries : List Entry

abbrev pub empty_mailbox : Bytes → Mailbox
empty_mailbox me = record { me = me; now = 0; next_uid = 1; entries = [] }

-- ---- what has a uid

abbrev pub has_uid : ℕ → Entry → Bool
has_uid uid entry = entry.uid == uid

abbrev pub entry_at : Mailbox → ℕ → Option Entry
entry_at m uid = find (has_uid uid) m.entries

abbrev pub item_at : Mailbox → ℕ → Option Item
item_at m uid = option_map item_of (entry_at m uid)

abbrev pub card_at : Mailbox → ℕ → Option Card
card_at m uid = entry_at m uid >>= λ entry. result_ok entry.read

-- ---- changes

-- what arrives now
abbrev pub new_entry : Mailbox → Result Card Fault → Entry
new_entry m read = record { uid = m.next_uid; arrival = m.now; seen = None; read = read }

abbrev pub with_arrival : Mailbox → Result Card Fault → Mailbox
with_arrival m read = record m { next_uid = m.next_uid + 1; entries = m.entries ++ new_entry m read ∷ [] }

-- the first mark counts
abbrev pub marked_at : ℕ → Option ℕ → Option ℕ
marked_at now seen = option_or seen (Some now)

abbrev pub mark_entry : ℕ → ℕ → Entry → Entry
mark_entry uid now entry = if has_uid uid entry then record entry { seen = marked_at now entry.seen } else entry

abbrev pub after : Mailbox → Change → Mailbox
after m (Arrive card) = with_arrival m (Ok card)
after m (ArriveFault fault) = with_arrival m (Err fault)
after m (Expunge uid) = record m { entries = filter (λ entry. not (has_uid uid entry)) m.entries }
after m (Seen uid) = record m { entries = map (mark_entry uid m.now) m.entries }
after m (At moment) = record m { now = max m.now moment }

abbrev pub after_all : Mailbox → List Change → Mailbox
after_all m [] = m
after_all m (change ∷ changes) = after_all (after m change) changes

-- ---- limits

abbrev pub max_entries : ℕ
max_entries = 65536

abbrev pub max_total_weight : ℕ
max_total_weight = 268435456

-- no mail has this uid
abbrev pub end_of_uids : ℕ
end_of_uids = 4294967295

abbrev pub weight_read : Result Card Fault → ℕ
weight_read (Ok card) = weight card
weight_read (Err fault) = 0

abbrev pub weights : List Entry → ℕ
weights entries = sum_by (λ entry. weight_read entry.read) entries

abbrev pub lacks_room : Mailbox → ℕ → Bool
lacks_room m more = nat_le max_entries (length m.entries) || nat_le end_of_uids m.next_uid || nat_lt max_total_weight (weights m.entries + more)

-- only an arrival is ever refused
abbrev pub full : Mailbox → Change → Bool
full m (Arrive card) = lacks_room m (weight card)
full m (ArriveFault fault) = lacks_room m 0
full m (Expunge uid) = false
full m (Seen uid) = false
full m (At moment) = false

-- ---- rules

-- the uids rise, from low on, and stay below the next one
abbrev pub RiseBelow : ℕ → List Entry → ℕ → Type 0
RiseBelow low [] next = low ≤ next
RiseBelow low (entry ∷ entries) next = (low ≤ entry.uid) × RiseBelow (entry.uid + 1) entries next

-- a mail arrived by now and was seen since, and its card is valid
pub record IsEntry (now : ℕ) (entry : Entry) : Type 0 where
  pub arrived : entry.arrival ≤ now
  pub seen_after : IfSome entry.seen (λ seen. entry.arrival ≤ seen)
  pub seen_by : IfSome entry.seen (λ seen. seen ≤ now)
  pub valid : IfOk entry.read (λ card. IsTrue (is_valid card))

pub record IsMailbox (m : Mailbox) : Type 0 where
  pub moment : m.now ≤ last_moment
  pub uids : RiseBelow 1 m.entries m.next_uid
  pub next : m.next_uid ≤ end_of_uids
  pub each : AllByRecursion (IsEntry m.now) m.entries
  pub count_fits : length m.entries ≤ max_entries
  pub weight_fits : weights m.entries ≤ max_total_weight

abbrev pub IsValidChange : Change → Type 0
IsValidChange (Arrive card) = IsTrue (is_valid card)
IsValidChange (ArriveFault fault) = Unit {0}
IsValidChange (Expunge uid) = Unit {0}
IsValidChange (Seen uid) = Unit {0}
IsValidChange (At moment) = moment ≤ last_moment

-- each of these is valid, and not full where it comes
abbrev pub AreAllowed : Mailbox → List Change → Type 0
AreAllowed m [] = Unit {0}
AreAllowed m (change ∷ changes) = IsValidChange change × (full m change ≡ false) × AreAllowed (after m change) changes
