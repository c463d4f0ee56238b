use Rattle.std.proofs.lemmas.Result.{err_from_is_err_and}
use Rattle.std.proofs.Common.{ap, subst, sym, ◌∙◌}
use Rattle.mailbox_model.specs.Mailbox.{Mailbox}
use Rattle.trial.specs.Faults.{IsUnmade}
use Rattle.trial.proofs.ArrivalLaws.{arrival_made, arrival_unmade, fewer_left, none_arrives}
use Rattle.trial.proofs.MakingCosts.{arrival_spent, arrival_within}
use Rattle.trial.proofs.made.arrive_all.Goals as goal

pub loop-change-smaller : goal.loop-change-smaller
loop-change-smaller g c =
    fewer_left c.next_uid-uid.result c.loop-change.mails.mails c.next_arrival.new.self.mails c.in_ok-change.field-0 c.in-Some.change c.in-Some.is c.in_ok-change.ensures.next

pub loop-change-preserved : goal.loop-change-preserved
loop-change-preserved g c =
    let uid = c.next_uid-uid.ensures ∙ ap (λ (m : Mailbox). m.next_uid) c.mailbox.ensures in
    record {
      current = c.in_ok-make.ensures.current;
      usable = c.in_ok-change.ensures.usable;
      same = c.loop-change.invariant.same
          ∙ arrival_made c.loop-change.engine.mailbox c.make.new.engine.mailbox c.next_uid-uid.result c.loop-change.mails.mails c.next_arrival.new.self.mails
          c.in_ok-change.field-0 c.in-Some.change c.in-Some.is uid c.in_ok-change.ensures.next c.in_ok-make.ensures.made;
      cost = arrival_spent c.loop-change.engine.mailbox c.make.new.engine.mailbox c.next_uid-uid.result c.loop-change.mails.mails c.next_arrival.new.self.mails
          c.in_ok-change.field-0 c.in-Some.change _ _ _ c.in-Some.is uid c.in_ok-change.ensures.next c.in_ok-make.ensures.made c.loop-change.invariant.cost c.make.ensures.cost;
    }

pub returns-in_err-make-clause-made : goal.returns-in_err-make-clause-made
returns-in_err-make-clause-made g c =
    let p = err_from_is_err_and c.from_residual-in_err-make.result c.from_residual-in_err-make.ensures.1 in
    let uid = c.next_uid-uid.ensures ∙ ap (λ (m : Mailbox). m.next_uid) c.mailbox.ensures in
    let why = c.in_err-make.field-0.0 in
    rw (p.1, p.2) (subst (λ o. IsUnmade o why) (sym c.loop-change.invariant.same)
    (arrival_unmade c.loop-change.engine.mailbox c.next_uid-uid.result c.loop-change.mails.mails c.next_arrival.new.self.mails c.in_ok-change.field-0 c.in-Some.change why
    c.in-Some.is uid c.in_ok-change.ensures.next c.in_err-make.ensures.made))

pub returns-in_default-clause-made : goal.returns-in_default-clause-made
returns-in_default-clause-made g c =
    c.loop-change.invariant.same
    ∙ none_arrives c.loop-change.engine.mailbox c.next_uid-uid.result c.loop-change.mails.mails c.next_arrival.new.self.mails c.in_ok-change.field-0 c.in_default.is c.in_ok-change.ensures.next

pub returns-in_err-make-clause-cost : goal.returns-in_err-make-clause-cost
returns-in_err-make-clause-cost g c =
    let uid = c.next_uid-uid.ensures ∙ ap (λ (m : Mailbox). m.next_uid) c.mailbox.ensures in
    arrival_within c.loop-change.engine.mailbox c.next_uid-uid.result c.loop-change.mails.mails c.next_arrival.new.self.mails c.in_ok-change.field-0 c.in-Some.change _ _ _
    c.in-Some.is uid c.in_ok-change.ensures.next c.loop-change.invariant.cost c.make.ensures.cost
