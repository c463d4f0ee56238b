-- Images: how a mailbox and a position are spelled together, and how bytes are read as an image.
use Rattle.std.specs.Prelude.{◌≡◌, ℕ, ◌+◌, ◌-◌, ◌^◌, ◌<◌, ◌≤◌, Bool, true, false, ◌&&◌, nat_le, nat_lt, nat_eq, ◌==◌, codes, List, [], ◌++◌, length, map, drop, fold, sum_by, Option, Some, None, option_map, Result, Ok, Err, IsTrue, if◌then◌else◌}
use Rattle.std.specs.Int.{w32, w64}
use Rattle.std.specs.List.{starts_with}
use Rattle.kit.specs.Addresses.{is_addr}
use Rattle.kit.specs.Chains.{first_value}
use Rattle.card_type.specs.Records as records
use Rattle.card_type.specs.declared.card.Card.{Card}
use Rattle.mailbox_model.specs.declared.change.Fault.{Fault}
use Rattle.mailbox_model.specs.declared.item.Held.{Held}
use Rattle.mailbox_model.specs.declared.item.Held.TheVariants as is_held
use Rattle.mailbox_model.specs.declared.item.Item.{Item}
use Rattle.mailbox_model.specs.Mailbox.{Mailbox, Entry, item_of, card_at, max_entries, max_total_weight, weights, IsMailbox}
use Rattle.box_state.specs.Kept.{Kept}
use Rattle.card_record.specs.Reading.{◌>>=◌, Read, byte_at, number_at, ruled, block_of, moment_at, opt_of, run_at, times_of}
use Rattle.card_record.specs.Cards.{record_at}
use Rattle.state_image.specs.declared.fault.ImageFault.{ImageFault}
use Rattle.state_image.specs.declared.fault.ImageFault.TheVariants as faults
use Rattle.state_image.specs.declared.position.Position.{Position}
use Rattle.state_image.specs.declared.read.Counts.{Counts}
use Rattle.state_image.specs.declared.read.Head.{Head}
use Rattle.state_image.specs.Faults.{code_of, fault_of}
use Rattle.state_image.specs.Changes.{or_malformed}

-- the name of an image, which tells its version: whether it has traces
abbrev pub name_of : Bool → List ℕ
name_of false = codes "CHATSIM1"
name_of true = codes "CHATSIM2"

-- in place of a trace that is not kept
abbrev pub no_trace : List ℕ
no_trace = first_value

-- ---- spelling

-- 0 and a card, or the code of a fault
abbrev pub mail_spelled : Result Card Fault → List ℕ
mail_spelled (Ok card) = records.b8 0 ++ records.record_of card
mail_spelled (Err fault) = records.b8 (code_of fault)

abbrev pub entry_spelled : Entry → List ℕ
entry_spelled entry =
    records.b32 entry.uid ++ records.b64 entry.arrival ++ records.opt records.b64 entry.seen ++ mail_spelled entry.read

abbrev pub counts_of : Position → Counts
counts_of p = record { count = p.count; mbox = p.mbox; steps = p.steps; lines = p.lines }

abbrev pub position_of : Counts → List ℕ × List ℕ → Position
position_of c traces = record { count = c.count; mbox = c.mbox; steps = c.steps; lines = c.lines; mbox_trace = traces.0; steps_trace = traces.1 }

abbrev pub counts_written : Counts → List ℕ
counts_written c = records.b64 c.count ++ records.b64 c.mbox ++ records.b64 c.steps ++ records.b64 c.lines

abbrev pub traces_spelled : Bool → List ℕ × List ℕ → List ℕ
traces_spelled false traces = []
traces_spelled true traces = traces.0 ++ traces.1

abbrev pub position_spelled : Bool → Position → List ℕ
position_spelled traced p = counts_written (counts_of p) ++ traces_spelled traced (p.mbox_trace, p.steps_trace)

-- in either version
abbrev pub image_in : Bool → Mailbox → Position → List ℕ
image_in traced m p =
    name_of traced ++ records.block m.me ++ position_spelled traced p ++ records.b64 m.now ++ records.b32 m.next_uid
    ++ records.list entry_spelled m.entries

-- in the version that is written
abbrev pub image : Mailbox → Position → List ℕ
image m p = image_in true m p

-- neither input has a trace
pub record IsUntraced (p : Position) : Type 0 where
  pub mbox : p.mbox_trace ≡ no_trace
  pub steps : p.steps_trace ≡ no_trace

-- a position that an image has: the numbers of a position have 64 bits
pub record IsPosition (p : Position) : Type 0 where
  pub some : 1 ≤ p.count
  pub few : p.count ≤ 2 ^ 62
  pub mbox : p.mbox < 2 ^ 64
  pub steps : p.steps < 2 ^ 64
  pub lines : p.lines ≤ p.steps
  pub mbox_trace : length p.mbox_trace ≡ 32
  pub steps_trace : length p.steps_trace ≡ 32

-- and in this version: one without traces where the version has none
pub record FitsPosition (traced : Bool) (p : Position) : Type 0 where
  pub is : IsPosition p
  pub traces : traced ≡ false → IsUntraced p

-- the bytes are an image of these, of either version
pub record IsImage (bytes : List ℕ) (m : Mailbox) (p : Position) : Type 0 where
  pub traced : Bool
  pub text : bytes ≡ image_in traced m p
  pub fits : FitsPosition traced p

-- a mailbox and a position that have an image
pub record HasImage (m : Mailbox) (p : Position) : Type 0 where
  pub me : IsTrue (is_addr m.me)
  pub rules : IsMailbox m
  pub position : IsPosition p

-- ---- reading

abbrev pub count_at : List ℕ → Read ℕ
count_at bytes = ruled (λ n. nat_le 1 n && nat_le n (2 ^ 62)) (number_at w64) bytes

-- there are no more lines than bytes
abbrev pub lines_at : ℕ → List ℕ → Read ℕ
lines_at steps bytes = ruled (λ n. nat_le n steps) (number_at w64) bytes

unfoldable pub counts_at : List ℕ → Read Counts
counts_at bytes = do
  count ← count_at bytes
  mbox ← number_at w64 count.1
  steps ← number_at w64 mbox.1
  lines ← lines_at steps.0 steps.1
  Ok (record { count = count.0; mbox = mbox.0; steps = steps.0; lines = lines.0 }, lines.1)

unfoldable pub both_traces_at : List ℕ → Read (List ℕ × List ℕ)
both_traces_at bytes = do
  mbox ← run_at 32 bytes
  steps ← run_at 32 mbox.1
  Ok ((mbox.0, steps.0), steps.1)

abbrev pub traces_at : Bool → List ℕ → Read (List ℕ × List ℕ)
traces_at false bytes = Ok ((no_trace, no_trace), bytes)
traces_at true bytes = both_traces_at bytes

unfoldable pub position_at : Bool → List ℕ → Read Position
position_at traced bytes = do
  counts ← counts_at bytes
  traces ← traces_at traced counts.1
  Ok (position_of counts.0 traces.0, traces.1)

abbrev pub next_uid_at : List ℕ → Read ℕ
next_uid_at bytes = ruled (λ n. nat_le 1 n) (number_at w32) bytes

-- all before the items
unfoldable pub head_at : Bool → List ℕ → Read Head
head_at traced bytes = do
  me ← block_of is_addr bytes
  position ← position_at traced me.1
  moment ← moment_at position.1
  next_uid ← next_uid_at moment.1
  Ok (record { me = me.0; position = position.0; moment = moment.0; next_uid = next_uid.0 }, next_uid.1)

-- a card with which the weights stay within their limit, where those before it weigh so much
abbrev pub card_after : ℕ → List ℕ → Read Card
card_after weight bytes = ruled (λ card. nat_le (weight + records.weight card) max_total_weight) record_at bytes

unfoldable pub mail_after : ℕ → List ℕ → Read (Result Card Fault)
mail_after weight bytes = do
  code ← byte_at bytes
  if code.0 == 0 then (card_after weight code.1 >>= λ x. Ok (Ok x.0, x.1))
      else or_malformed (length bytes) (option_map Err (fault_of code.0)) code.1

abbrev pub uid_between : ℕ → ℕ → List ℕ → Read ℕ
uid_between last next bytes = ruled (λ n. nat_lt last n && nat_lt n next) (number_at w32) bytes

abbrev pub arrival_by : ℕ → List ℕ → Read ℕ
arrival_by now bytes = ruled (λ n. nat_le n now) (number_at w64) bytes

abbrev pub seen_between : ℕ → ℕ → List ℕ → Read ℕ
seen_between arrival now bytes = ruled (λ n. nat_le arrival n && nat_le n now) (number_at w64) bytes

-- an item with its card, where the last uid before it and the weights before it are these
unfoldable pub entry_after : ℕ → ℕ → ℕ → ℕ → List ℕ → Read Entry
entry_after now next last weight bytes = do
  uid ← uid_between last next bytes
  arrival ← arrival_by now uid.1
  seen ← opt_of (seen_between arrival.0 now) arrival.1
  mail ← mail_after weight seen.1
  Ok (record { uid = uid.0; arrival = arrival.0; seen = seen.0; read = mail.0 }, mail.1)

-- the last uid of some entries, and 0 where there is none
abbrev pub last_uid : List Entry → ℕ
last_uid entries = fold (λ _ entry. entry.uid) 0 entries

abbrev pub entry_at : ℕ → ℕ → List Entry → List ℕ → Read Entry
entry_at now next front bytes = entry_after now next (last_uid front) (weights front) bytes

-- the mail that follows those of a mailbox
abbrev pub entry_next : Mailbox → List ℕ → Read Entry
entry_next m bytes = entry_at m.now m.next_uid m.entries bytes

abbrev pub item_count_at : List ℕ → Read ℕ
item_count_at bytes = ruled (λ n. nat_le n max_entries) (number_at w32) bytes

unfoldable pub entries_at : ℕ → ℕ → List ℕ → Read (List Entry)
entries_at now next bytes = do
  count ← item_count_at bytes
  times_of (entry_at now next) [] count.0 count.1

-- all after the name; nothing may follow it
unfoldable pub body_at : Bool → List ℕ → Read (Head × List Entry)
body_at traced bytes = do
  head ← head_at traced bytes
  entries ← entries_at head.0.moment head.0.next_uid head.1
  if length entries.1 == 0 then Ok ((head.0, entries.0), entries.1) else Err (length entries.1)

abbrev pub mailbox_by : Head → List Entry → Mailbox
mailbox_by head entries = record { me = head.me; now = head.moment; next_uid = head.next_uid; entries = entries }

-- what an image of a mailbox and a position has before the items
abbrev pub head_of : Mailbox → Position → Head
head_of m p = record { me = m.me; position = p; moment = m.now; next_uid = m.next_uid }

-- a reading of the last bytes among so many, by the offset of the first field that is malformed
abbrev pub from_body : ℕ → Read (Head × List Entry) → Result (Mailbox × Position) ImageFault
from_body size (Ok x) = Ok (mailbox_by x.0.0 x.0.1, x.0.0.position)
from_body size (Err left) = Err (faults.Malformed (size - left))

-- the mailbox and the position whose image these bytes are, or why they are none
abbrev pub image_with : Bool → List ℕ → Result (Mailbox × Position) ImageFault
image_with traced bytes = from_body (length bytes) (body_at traced (drop 8 bytes))

abbrev pub begins_as : Bool → List ℕ → Bool
begins_as traced bytes = starts_with nat_eq bytes (name_of traced)

abbrev pub image_of : List ℕ → Result (Mailbox × Position) ImageFault
image_of bytes =
    if begins_as true bytes then image_with true bytes
    else if begins_as false bytes then image_with false bytes else Err faults.Version

-- What is answered is what is read, unless memory ran out.
abbrev pub GivesImage : Result (Kept × Position) ImageFault → Result (Mailbox × Position) ImageFault → Type 0
GivesImage (Ok x) read = read ≡ Ok (x.0.mailbox, x.1)
GivesImage (Err (faults.Malformed at)) read = read ≡ Err (faults.Malformed at)
GivesImage (Err faults.Version) read = read ≡ Err faults.Version
GivesImage (Err faults.Memory) read = Unit {0}

-- ---- the cost of writing

abbrev pub is_card : Held → Bool
is_card is_held.Card = true
is_card (is_held.Fault fault) = false

-- how many cards an item has
abbrev pub cards_of : Item → ℕ
cards_of item = if is_card item.held then 1 else 0

abbrev pub cards_in : Mailbox → ℕ
cards_in m = sum_by cards_of (map item_of m.entries)

-- ---- what private functions cite

-- an item as it is written, with its card
abbrev pub held_spelled : Held → Option Card → List ℕ
held_spelled is_held.Card (Some card) = records.b8 0 ++ records.record_of card
held_spelled is_held.Card None = []
held_spelled (is_held.Fault fault) card = records.b8 (code_of fault)

abbrev pub numbers_spelled : Item → List ℕ
numbers_spelled item = records.b32 item.uid ++ records.b64 item.arrival ++ records.opt records.b64 item.seen

abbrev pub item_spelled : Mailbox → Item → List ℕ
item_spelled m item = numbers_spelled item ++ held_spelled item.held (card_at m item.uid)

-- what is between the name and the first item
abbrev pub names_spelled : Mailbox → Position → List ℕ
names_spelled m p = records.block m.me ++ position_spelled true p

abbrev pub counts_spelled : Mailbox → List ℕ
counts_spelled m = records.b64 m.now ++ records.b32 m.next_uid ++ records.b32 (length m.entries)
