-- The list of chats, and of the mails that have no card.
use Rattle.std.specs.Prelude.{ℕ, Option, Some, None, option_map, Result, Ok, Err, [], map, filter_map, count_by}
use Rattle.std.specs.Option.{option_map_or, option_cmp}
use Rattle.std.specs.declared.cmp.Ordering.{Ordering}
use Rattle.std.specs.Ordering.{nat_cmp, on, then_cmp, flip_args}
use Rattle.card_type.specs.declared.card.Card.{Card}
use Rattle.card_type.specs.declared.key.ChatKey.{ChatKey}
use Rattle.card_type.specs.Keys.{key_cmp}
use Rattle.mailbox_model.specs.declared.change.Fault.{Fault}
use Rattle.mailbox_model.specs.declared.list.ListRow.{ListRow}
use Rattle.mailbox_model.specs.declared.list.FaultRow.{FaultRow}
use Rattle.mailbox_model.specs.declared.list.ListPage.{ListPage}
use Rattle.lists.specs.Sorted.{sorted_by}
use Rattle.mailbox_model.specs.declared.row.Row.{Row}
use Rattle.mailbox_model.specs.Lists.{Bytes, last_of}
use Rattle.mailbox_model.specs.Mailbox.{Mailbox}
use Rattle.mailbox_model.specs.Rows.{is_fresh}
use Rattle.mailbox_model.specs.Bodies.{body}
use Rattle.mailbox_model.specs.Names.{name}
use Rattle.mailbox_model.specs.Pages.{keys, shown_rows}

-- how many rows are fresh, and the last one that is shown
abbrev pub list_row_by : ChatKey → Bytes → ℕ → Option Row → ListRow
list_row_by key name fresh last =
    record { key = key; name = name; fresh = fresh; time = option_map (λ r. r.date) last; body = option_map_or body last [] }

abbrev pub list_row : Mailbox → ChatKey → ListRow
list_row m key =
    let rows = shown_rows m key in
    list_row_by key (name m key) (count_by is_fresh rows) (last_of rows)

-- ---- the order of chats

-- the latest first; none, which comes before every moment, last
abbrev pub latest_cmp : Option ℕ → Option ℕ → Ordering
latest_cmp = flip_args (option_cmp nat_cmp)

-- a chat, with the date of its last shown row
abbrev pub Dated : Type 0
Dated = ChatKey × Option ℕ

-- by that date, and then by key
abbrev pub dated_cmp : Dated → Dated → Ordering
dated_cmp = then_cmp (on (λ d. d.1) latest_cmp) (on (λ d. d.0) key_cmp)

abbrev pub list_cmp : ListRow → ListRow → Ordering
list_cmp = on (λ r. (r.key, r.time)) dated_cmp

-- ---- the list

abbrev pub fault_by : ℕ → Result Card Fault → Option FaultRow
fault_by uid (Ok card) = None
fault_by uid (Err fault) = Some (record { uid = uid; fault = fault })

abbrev pub list_page : Mailbox → ListPage
list_page m =
    record {
      rows = sorted_by list_cmp (map (list_row m) (keys m));
      faults = filter_map (λ entry. fault_by entry.uid entry.read) m.entries;
    }
