use Rattle.std.proofs.Common.{rules, ◌≡◌, Err, subst}
use Rattle.outside.specs.Causes.{Rose}
use Rattle.follow.specs.Outcome.{CauseOf, Gave, KeptFor, LastIf, given_in, outcome}
use Rattle.follow.specs.Replies.{Puts}
use Rattle.follow.specs.Statuses.{status_of}
use Rattle.follow.specs.Words.{request}
use Rattle.follow.specs.declared.status.Refusal.{Refusal}
use Rattle.follow.specs.declared.status.Refusal.TheVariants as refusal
use Rattle.follow.proofs.Clocks.{AsksClock-weaker}
use Rattle.follow.proofs.Refused.{PutsSaid, agrees_ok, agrees_refused, agrees_write, bare_said, last_said, not_memory, puts_ok, puts_refused, puts_write, refused_line, said_memory}
use Rattle.follow.proofs.top.run_given.Goals as goal

pub returns-in-Ok-clause-clock : goal.returns-in-Ok-clause-clock
returns-in-Ok-clause-clock g c = AsksClock-weaker _ _ _ _ _ _ (λ memory. absurd cc) c.in-Ok.ensures.clock

pub returns-in-Err-clause-clock : goal.returns-in-Err-clause-clock
returns-in-Err-clause-clock g c =
    let is : c.in-Err.why ≡ refusal.Write = search rules in
    AsksClock-weaker _ _ _ _ _ _ (λ memory. absurd (not_memory c.in-Err.why is memory)) c.in-Err.ensures.clock

pub returns-in-Ok-clause-status : goal.returns-in-Ok-clause-status
returns-in-Ok-clause-status g c = λ found told.
    agrees_ok (outcome c.args.words.now found) (g.K.Sink.held c.args.out.now) (g.K.Sink.held c.reply.new.out) (c.in-Ok.ensures.puts found told)

pub returns-in-Ok-clause-answer : goal.returns-in-Ok-clause-answer
returns-in-Ok-clause-answer g c = λ found told.
    puts_ok (outcome c.args.words.now found) (g.K.Sink.held c.args.out.now) (g.K.Sink.held c.reply.new.out) _ (c.in-Ok.ensures.puts found told)

pub returns-in-Ok-clause-lasting : goal.returns-in-Ok-clause-lasting
returns-in-Ok-clause-lasting g c = c.in-Ok.ensures.lasting

pub returns-in-Err-clause-status : goal.returns-in-Err-clause-status
returns-in-Err-clause-status g c = λ found told.
    let is : c.in-Err.why ≡ refusal.Write = search rules in
    let old = g.K.Sink.held c.args.out.now in
    let new = g.K.Sink.held c.reply.new.out in
    agrees_write (outcome c.args.words.now found) old new
    (subst (λ (why : Refusal). Puts (outcome c.args.words.now found) old new (Err why)) is (c.in-Err.ensures.puts found told))

pub returns-in-Err-clause-answer : goal.returns-in-Err-clause-answer
returns-in-Err-clause-answer g c = λ found told.
    let is : c.in-Err.why ≡ refusal.Write = search rules in
    let old = g.K.Sink.held c.args.out.now in
    let new = g.K.Sink.held c.reply.new.out in
    puts_write (outcome c.args.words.now found) old new _
    (subst (λ (why : Refusal). Puts (outcome c.args.words.now found) old new (Err why)) is (c.in-Err.ensures.puts found told))

pub returns-in-Err-2-clause-status : goal.returns-in-Err-2-clause-status
returns-in-Err-2-clause-status g c = λ found told.
    agrees_refused (outcome c.args.words.now found) (g.K.Sink.held c.args.out.now) (g.K.Sink.held c.reply.new.out) c.in-Err.why c.refuse.result
    (c.in-Err.ensures.puts found told) c.refuse.ensures.status

pub returns-in-Err-2-clause-answer : goal.returns-in-Err-2-clause-answer
returns-in-Err-2-clause-answer g c = λ found told.
    let other : c.in-Err.why ≡ refusal.Write → ⊥ = search rules in
    let o = outcome c.args.words.now found in
    let K = g.K.Sink in
    let nothing = c.in-Err.ensures.nothing other in
    puts_refused o (K.held c.args.out.now) (K.held c.refuse.new.out) (Rose (K.faults c.args.out.now) (K.faults c.refuse.new.out)) c.in-Err.why c.refuse.result other
    (subst (λ out. Puts o (K.held c.args.out.now) (K.held out) (Err c.in-Err.why)) nothing (c.in-Err.ensures.puts found told))
    (subst (λ before. PutsSaid (K.held before) (K.held c.refuse.new.out) (Rose (K.faults before) (K.faults c.refuse.new.out)) c.in-Err.why c.refuse.result) nothing c.refuse.ensures.line)

pub returns-in-Err-2-clause-line : goal.returns-in-Err-2-clause-line
returns-in-Err-2-clause-line g c =
    let other : c.in-Err.why ≡ refusal.Write → ⊥ = search rules in
    let K = g.K.Sink in
    let cause : Refusal → Type 0 = CauseOf (Rose (g.M.Source.faults c.args.mbox.now) (g.M.Source.faults c.reply.new.mbox)) (Rose (g.S.Source.faults c.args.steps_file.now) (g.S.Source.faults c.reply.new.steps_file))
    (Rose (g.H.Shelf.faults c.args.shelf.now) (g.H.Shelf.faults c.reply.new.shelf)) (Gave (g.M.Source.left c.args.mbox.now) (g.M.Source.left c.reply.new.mbox)) (Gave (g.S.Source.left c.args.steps_file.now) (g.S.Source.left c.reply.new.steps_file))
    (KeptFor (request c.args.words.now) (g.H.Shelf.seen c.args.shelf.now)) in
    refused_line (K.held c.args.out.now) (K.held c.refuse.new.out) cause (Rose (K.faults c.args.out.now) (K.faults c.refuse.new.out)) c.in-Err.why c.refuse.result c.in-Err.ensures.cause tt
    (subst (λ before. PutsSaid (K.held before) (K.held c.refuse.new.out) (Rose (K.faults before) (K.faults c.refuse.new.out)) c.in-Err.why c.refuse.result) (c.in-Err.ensures.nothing other) c.refuse.ensures.line)

pub returns-in-Err-2-clause-clock : goal.returns-in-Err-2-clause-clock
returns-in-Err-2-clause-clock g c = AsksClock-weaker _ _ _ _ _ _ (λ memory. said_memory c.in-Err.why c.refuse.result c.refuse.ensures.status memory) c.in-Err.ensures.clock

-- ---- what is kept

pub returns-in-Err-clause-lasting : goal.returns-in-Err-clause-lasting
returns-in-Err-clause-lasting g c = λ found told.
    let is : c.in-Err.why ≡ refusal.Write = search rules in
    let o = given_in (request c.args.words.now) found in
    subst (λ (why : Refusal). LastIf o (status_of why) (g.H.Shelf.may_leave c.reply.new.shelf)) is (c.in-Err.ensures.lasting found told)

pub returns-in-Err-2-clause-lasting : goal.returns-in-Err-2-clause-lasting
returns-in-Err-2-clause-lasting g c = λ found told.
    last_said (given_in (request c.args.words.now) found) (g.H.Shelf.may_leave c.reply.new.shelf) c.in-Err.why c.refuse.result c.refuse.ensures.status
    (c.in-Err.ensures.lasting found told)

-- ---- a run that follows no files

pub returns-in-Err-2-clause-bare : goal.returns-in-Err-2-clause-bare
returns-in-Err-2-clause-bare g c = λ bare. bare_said c.in-Err.why c.refuse.result c.refuse.ensures.status (c.in-Err.ensures.bare bare)
