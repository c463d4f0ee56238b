-- What a listener hears of the updates of an app.
use Rattle.std.specs.Prelude.{ℕ, max, Bool, ◌&&◌, ◌==◌, nat_lt, nat_le, List, [], filter, map, unwrap_or, refl}
use Rattle.std.specs.Coded.{Coded, code_by, coded×, coded_list, coded_ℕ}
use Rattle.std.specs.List.{common_prefix_len}
use Rattle.mailbox_model.specs.declared.row.UpdateRow.{UpdateRow}
use Rattle.mailbox_model.specs.Lists.{Bytes}
use Rattle.mailbox_model.specs.Mailbox.{Mailbox}
use Rattle.mailbox_model.specs.Pages.{updates}
use Rattle.app_listener.specs.declared.heard.Origin.{Origin}

-- a listener: its app, over which serial it listens, its test, and the origins of the updates that it heard of last
pub record Listening (T : Type 0) : Type 0 where
  pub id : Bytes
  pub from_serial : ℕ
  pub test : T
  pub heard : List Origin

-- ---- what it hears

abbrev pub origin : UpdateRow → Origin
origin row = record { uid = row.uid; part = row.part }

abbrev pub is_origin : Origin → UpdateRow → Bool
is_origin o row = (o.uid == row.uid) && (o.part == row.part)

-- the updates of an app, and none where it is not shown
abbrev pub shown_updates : Mailbox → Bytes → List UpdateRow
shown_updates m id = unwrap_or (updates m id) []

-- how many of the first updates are those that were heard of, or the serial over which it listens where that is greater
abbrev pub back_to : ℕ → List Origin → List UpdateRow → ℕ
back_to from heard rows = max from (common_prefix_len is_origin heard rows)

-- the rows over a serial, and the others
abbrev pub over : ℕ → List UpdateRow → List UpdateRow
over serial rows = filter (λ row. nat_lt serial row.serial) rows

abbrev pub up_to : ℕ → List UpdateRow → List UpdateRow
up_to serial rows = filter (λ row. nat_le row.serial serial) rows

abbrev pub wanted_over : (UpdateRow → Bool) → ℕ → List UpdateRow → List UpdateRow
wanted_over wanted serial rows = filter wanted (over serial rows)

-- a listener that has heard of these updates
abbrev pub having_heard : {T : Type 0} → List UpdateRow → Listening T → Listening T
having_heard rows l = record l { heard = map origin rows }

-- ---- how a proof tells two listeners apart, where it can tell two tests apart

abbrev pub origin_code : Coded Origin
origin_code = code_by (ℕ × ℕ) (coded× coded_ℕ coded_ℕ) (λ o. (o.uid, o.part)) (λ p. record { uid = p.0; part = p.1 }) (λ _. refl)

abbrev pub listening_code : {T : Type 0} → Coded T → Coded (Listening T)
listening_code {T} code =
    code_by (Bytes × (ℕ × (T × List Origin))) (coded× (coded_list coded_ℕ) (coded× coded_ℕ (coded× code (coded_list origin_code))))
    (λ l. (l.id, (l.from_serial, (l.test, l.heard))))
    (λ p. record { id = p.0; from_serial = p.1.0; test = p.1.1.0; heard = p.1.1.1 }) (λ _. refl)
