-- What is put of the updates of an app, as a listener hears them.
use Rattle.std.proofs.Common.{◌≡◌, refl, sym, ap, subst, ◌∙◌, ℕ, ◌+◌, ◌<◌, Bool, true, false, Option, Some, None, is_some, Ok, Err, ok_or, List, [], ◌∷◌, length, arith}
use Rattle.std.specs.Prelude.{filter, unwrap_or}
use Rattle.std.proofs.lemmas.Bool.{lt-ltb}
use Rattle.std.specs.Io.KnownBytes.{Appends}
use Rattle.outside.specs.Bytes.{AppendsPrefix}
use Rattle.outside.specs.declared.faults.PrintFault.{PrintFault}
use Rattle.outside.specs.declared.faults.PrintFault.TheVariants as print
use Rattle.kit.specs.Ids.{is_id}
use Rattle.kit.specs.Reading.{read_as}
use Rattle.mailbox_model.specs.declared.row.UpdateRow.{UpdateRow}
use Rattle.mailbox_model.specs.Answers.{answer}
use Rattle.mailbox_model.specs.Lists.{Bytes}
use Rattle.mailbox_model.specs.Mailbox.{Mailbox}
use Rattle.mailbox_model.specs.Pages.{updates}
use Rattle.mailbox_model.specs.Printed.{updates_text}
use Rattle.app_listener.specs.declared.heard.Heard.{Heard}
use Rattle.app_listener.specs.Hearing.{back_to, over, shown_updates, wanted_over}
use Rattle.app_listener.proofs.Brought.{follow, shown}
use Rattle.app_listener.proofs.Rejoined.{Follow}
use Rattle.answers.specs.declared.fault.AnswerFault.TheVariants as fault
use Rattle.answers.specs.declared.question.Question.TheVariants as question
use Rattle.answers.specs.Answers.{Puts, answer_of, is_wanted, print_fault, updates_asked}
use Rattle.answers.proofs.ChatAnswers.{puts_memory}

-- serials begin at 1, so all updates are over 0
all_over : (j : ℕ) (rows : List UpdateRow) → Follow j rows → over 0 rows ≡ rows
all_over j [] f = refl
all_over j (row ∷ rows) f =
    let over_zero : 0 < row.serial = omega (arith, f.0) in
    rw (lt-ltb 0 row.serial over_zero) (ap (λ more. row ∷ more) (all_over (j + 1) rows f.1))

-- where no info is asked for all are wanted
all_wanted : (rows : List UpdateRow) → filter (is_wanted false) rows ≡ rows
all_wanted [] = refl
all_wanted (row ∷ rows) = ap (λ more. row ∷ more) (all_wanted rows)

-- the updates that are asked for, of those of an app
its_answer : (m : Mailbox) (id : Bytes) (info : Bool) (rows : List UpdateRow) → updates m id ≡ Some rows
    → answer m (updates_asked info id) ≡ Some (updates_text (length rows) (filter (is_wanted info) rows))
its_answer m id false rows is = rw is (ap (λ wanted. Some (updates_text (length rows) wanted)) (sym (all_wanted rows)))
its_answer m id true rows is = rw is refl

-- what is heard at first over serial 0
pub heard_answer : (m : Mailbox) (id : Bytes) (info : Bool) (h : Heard) → is_some (updates m id) ≡ true
    → h.back_to ≡ back_to 0 [] (shown_updates m id) → h.rows ≡ wanted_over (is_wanted info) h.back_to (shown_updates m id) → h.max ≡ length (shown_updates m id)
    → answer m (updates_asked info id) ≡ Some (updates_text h.max h.rows)
heard_answer m id info h there back_is rows_are max_is = by (updates m id) refl there
  where
    by : (o : Option (List UpdateRow)) → updates m id ≡ o → is_some o ≡ true → answer m (updates_asked info id) ≡ Some (updates_text h.max h.rows)
    by None e there = absurd cc
    by (Some rows) e there =
        let all : shown_updates m id ≡ rows = ap (λ o. unwrap_or o []) e in
        let heard = rows_are ∙ ap (λ serial. wanted_over (is_wanted info) serial (shown_updates m id)) back_is
        ∙ ap (wanted_over (is_wanted info) 0) all ∙ ap (filter (is_wanted info)) (all_over 0 rows (follow m rows (shown m id rows e))) in
        its_answer m id info rows e ∙ (λ i. Some (updates_text (sym (max_is ∙ ap length all) i) (sym heard i)))

-- ---- what the printing answers

answered : (m : Mailbox) (text id : Bytes) (info : Bool) (h : Heard) → read_as is_id text ≡ Some id → answer m (updates_asked info id) ≡ Some (updates_text h.max h.rows)
    → answer_of m (question.Updates text info) ≡ Ok (updates_text h.max h.rows)
answered m text id info h is heard = rw is (ap (λ o. ok_or o fault.NoApp) heard)

pub not_printed : (m : Mailbox) (text id : Bytes) (info : Bool) (h : Heard) (old new : Option Bytes) (why : PrintFault) → read_as is_id text ≡ Some id
    → answer m (updates_asked info id) ≡ Some (updates_text h.max h.rows) → (why ≡ print.Write → AppendsPrefix old new (updates_text h.max h.rows))
    → Puts (answer_of m (question.Updates text info)) old new (Err (print_fault why))
not_printed m text id info h old new print.Write is heard put =
    subst (λ a. Puts a old new (Err fault.Write)) (sym (answered m text id info h is heard)) (put refl)
not_printed m text id info h old new print.Memory is heard put = puts_memory (answer_of m (question.Updates text info)) old new

pub printed : (m : Mailbox) (text id : Bytes) (info : Bool) (h : Heard) (old new : Option Bytes) → read_as is_id text ≡ Some id
    → answer m (updates_asked info id) ≡ Some (updates_text h.max h.rows) → Appends old new (updates_text h.max h.rows) → Puts (answer_of m (question.Updates text info)) old new (Ok tt)
printed m text id info h old new is heard put = subst (λ a. Puts a old new (Ok tt)) (sym (answered m text id info h is heard)) put
