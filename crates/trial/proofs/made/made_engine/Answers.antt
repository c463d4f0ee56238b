use Rattle.std.proofs.lemmas.Result.{err_from_is_err_and}
use Rattle.std.proofs.Common.{ap, subst, sym, ◌∙◌}
use Rattle.trial.specs.Ahead.{Ahead}
use Rattle.trial.specs.Faults.{IsUnmade}
use Rattle.trial.specs.Trials.{trial_mailbox}
use Rattle.trial.proofs.ArrivalLaws.{moment_made, trial_made}
use Rattle.trial.proofs.MakingCosts.{moment_within, trial_spent}
use Rattle.trial.proofs.made.made_engine.Goals as goal

pub returns-in_err-make-clause-made : goal.returns-in_err-make-clause-made
returns-in_err-make-clause-made g c =
    let p = err_from_is_err_and c.from_residual-in_err-make.result c.from_residual-in_err-make.ensures.1 in
    rw (p.1, p.2) (moment_made c.new-engine.result.mailbox 1706745600 (trial_mailbox c.args.me c.args.number) c.in_err-make.field-0.0 c.in_err-make.ensures.made)

pub returns-in_err-arrive_all-clause-made : goal.returns-in_err-arrive_all-clause-made
returns-in_err-arrive_all-clause-made g c =
    let p = err_from_is_err_and c.from_residual-in_err-arrive_all.result c.from_residual-in_err-arrive_all.ensures.1 in
    let why = c.in_err-arrive_all.field-0.0 in
    let made = trial_made c.args.me c.args.number c.new-engine.result.mailbox c.make.new.engine.mailbox c.in_ok-mails.mails.mails c.in_ok-bytes.bytes.items c.new-engine.ensures.mailbox
    c.in_ok-make.ensures.made (ap (λ (a : Ahead). a.mails) c.in_ok-mails.ensures) c.in_ok-bytes.ensures in
    rw (p.1, p.2) (subst (λ o. IsUnmade o why) (sym made) c.in_err-arrive_all.ensures.made)

pub returns-clause-made : goal.returns-clause-made
returns-clause-made g c =
    trial_made c.args.me c.args.number c.new-engine.result.mailbox c.make.new.engine.mailbox c.in_ok-mails.mails.mails c.in_ok-bytes.bytes.items c.new-engine.ensures.mailbox
    c.in_ok-make.ensures.made (ap (λ (a : Ahead). a.mails) c.in_ok-mails.ensures) c.in_ok-bytes.ensures
    ∙ c.in_ok-arrive_all.ensures.made

pub returns-in_err-make-clause-cost : goal.returns-in_err-make-clause-cost
returns-in_err-make-clause-cost g c =
    moment_within c.args.me c.args.number c.new-engine.result.mailbox _ _ c.new-engine.ensures.mailbox c.in_err-make.ensures.cost

pub returns-in_err-arrive_all-clause-cost : goal.returns-in_err-arrive_all-clause-cost
returns-in_err-arrive_all-clause-cost g c =
    trial_spent c.args.me c.args.number c.new-engine.result.mailbox c.make.new.engine.mailbox c.in_ok-mails.mails.mails c.in_ok-bytes.bytes.items _ _ _ c.new-engine.ensures.mailbox
    c.in_ok-make.ensures.made (ap (λ (a : Ahead). a.mails) c.in_ok-mails.ensures) c.in_ok-bytes.ensures c.in_ok-make.ensures.cost c.in_err-arrive_all.ensures.cost

pub returns-clause-cost : goal.returns-clause-cost
returns-clause-cost g c =
    trial_spent c.args.me c.args.number c.new-engine.result.mailbox c.make.new.engine.mailbox c.in_ok-mails.mails.mails c.in_ok-bytes.bytes.items _ _ _ c.new-engine.ensures.mailbox
    c.in_ok-make.ensures.made (ap (λ (a : Ahead). a.mails) c.in_ok-mails.ensures) c.in_ok-bytes.ensures c.in_ok-make.ensures.cost c.in_ok-arrive_all.ensures.cost
