-- Which pages have a text: those whose dates are moments, of a year up to 9999.
use Rattle.std.specs.Prelude.{ℕ, ◌≤◌, All, IfSome}
use Rattle.kit.specs.Moments.{last_moment}
use Rattle.mailbox_model.specs.declared.list.ListRow.{ListRow}
use Rattle.mailbox_model.specs.declared.list.ListPage.{ListPage}
use Rattle.mailbox_model.specs.declared.page.ChatPage.{ChatPage}
use Rattle.mailbox_model.specs.declared.row.Row.{Row}
use Rattle.mailbox_model.specs.Lists.{Bytes}

abbrev pub IsMoment : ℕ → Type 0
IsMoment n = n ≤ last_moment

abbrev pub HasMoment : ListRow → Type 0
HasMoment r = IfSome r.time IsMoment

abbrev pub ListHasMoments : ListPage → Type 0
ListHasMoments page = All HasMoment page.rows

abbrev pub ReaderHasMoment : Bytes × ℕ → Type 0
ReaderHasMoment reader = IsMoment reader.1

abbrev pub RowHasMoments : Row → Type 0
RowHasMoments r = IsMoment r.date × All ReaderHasMoment r.readers

abbrev pub ChatHasMoments : ChatPage → Type 0
ChatHasMoments page = All RowHasMoments page.rows
