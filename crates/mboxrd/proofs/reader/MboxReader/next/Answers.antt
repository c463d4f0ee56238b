use Rattle.std.proofs.Common.{◌≡◌, ◌++◌, true, arith, sym, ◌∙◌}
use Rattle.std.proofs.lemmas.Result.{err_from_is_err_and}
use Rattle.mboxrd.specs.declared.taken.Taken.TheVariants as taken
use Rattle.source_buffer.proofs.Positions.{at_position}
use Rattle.source_buffer.proofs.Taking.{BufferTakes_more, holds_rest_more}
use Rattle.mboxrd.specs.Reading.{buffered}
use Rattle.mboxrd.proofs.Answered.{both_most, answers_long, answers_mail, answer_known, given_some}
use Rattle.mboxrd.proofs.Tracing.{goes_more, stays_traced, traced_both}
use Rattle.mboxrd.proofs.reader.MboxReader.next.Goals as goal

pub returns-in_err-bytes-clause-took : goal.returns-in_err-bytes-clause-took
returns-in_err-bytes-clause-took g c =
    let s = c.in_ok-found.ensures.took in
    let t = c.in_err-bytes.ensures.took in
    let p = err_from_is_err_and c.from_residual-in_err-bytes.result c.from_residual-in_err-bytes.ensures.1 in
    let q = p.2 in
    let met : c.reach.new.self.at_separator ≡ true = sym c.in_ok-found.ensures.found ∙ c.if-not-found.false in (
      s.0 ++ t.0,
      BufferTakes_more _ _ _ (buffered c.args.self.now) (buffered c.reach.new.self) (buffered c.read_mail.new.self) s.0 t.0 s.1 t.1,
      rw p.1 (λ e. both_most c.args.self.now c.reach.new.self s.0 t.0 met s.2.0 (t.2 (sym q ∙ e))),
    )

pub returns-then-len-gt-MAX_MAIL_LEN-clause-took : goal.returns-then-len-gt-MAX_MAIL_LEN-clause-took
returns-then-len-gt-MAX_MAIL_LEN-clause-took g c =
    let s = c.in_ok-found.ensures.took in
    let t = c.in_ok-bytes.ensures.took in
    let met : c.reach.new.self.at_separator ≡ true = sym c.in_ok-found.ensures.found ∙ c.if-not-found.false in (
      s.0 ++ t.0,
      BufferTakes_more _ _ _ (buffered c.args.self.now) (buffered c.reach.new.self) (buffered c.read_mail.new.self) s.0 t.0 s.1 t.1,
      (
        answers_long c.args.self.now c.reach.new.self c.read_mail.new.self s.0 t.0 t.2.0 c.in_ok-bytes.bytes.items met s.2.0 t.2.2 c.in_ok-bytes.ensures.place t.2.1
            (omega (arith, c.if-len-gt-MAX_MAIL_LEN.true, c.len.ensures)),
        holds_rest_more c.args.self.now.held c.reach.new.self.held c.read_mail.new.self.held s.0 t.0 s.2.1 t.2.3,
        goes_more c.args.self.now c.reach.new.self c.read_mail.new.self s.0 t.0 (s.2.2 c.if-not-found.false) t.2.4,
      ),
    )

pub returns-then-len-gt-MAX_MAIL_LEN-clause-answer : goal.returns-then-len-gt-MAX_MAIL_LEN-clause-answer
returns-then-len-gt-MAX_MAIL_LEN-clause-answer g c =
    let w = returns-then-len-gt-MAX_MAIL_LEN-clause-took g c in
    answer_known (g.S.Source.left c.args.source.now) (g.S.Source.left c.read_mail.new.source) c.args.self.now c.read_mail.new.self w.0 taken.TooLong w.1 c.in_ok-bytes.ensures.end w.2.0

pub returns-then-len-gt-MAX_MAIL_LEN-clause-position : goal.returns-then-len-gt-MAX_MAIL_LEN-clause-position
returns-then-len-gt-MAX_MAIL_LEN-clause-position g c =
    let w = returns-then-len-gt-MAX_MAIL_LEN-clause-took g c in
    at_position (g.S.Source.left c.args.source.now) (g.S.Source.left c.read_mail.new.source) (buffered c.args.self.now) (buffered c.read_mail.new.self) w.0 c.in_ok-found.ensures.before c.in_ok-bytes.ensures.fewer w.1 w.2.1

pub returns-clause-took : goal.returns-clause-took
returns-clause-took g c =
    let s = c.in_ok-found.ensures.took in
    let t = c.in_ok-bytes.ensures.took in
    let met : c.reach.new.self.at_separator ≡ true = sym c.in_ok-found.ensures.found ∙ c.if-not-found.false in (
      s.0 ++ t.0,
      BufferTakes_more _ _ _ (buffered c.args.self.now) (buffered c.reach.new.self) (buffered c.read_mail.new.self) s.0 t.0 s.1 t.1,
      (
        answers_mail c.args.self.now c.reach.new.self c.read_mail.new.self s.0 t.0 t.2.0 c.in_ok-bytes.bytes met s.2.0 t.2.2 c.in_ok-bytes.ensures.place t.2.1
            (omega (arith, c.if-len-gt-MAX_MAIL_LEN.false, c.len.ensures)),
        holds_rest_more c.args.self.now.held c.reach.new.self.held c.read_mail.new.self.held s.0 t.0 s.2.1 t.2.3,
        goes_more c.args.self.now c.reach.new.self c.read_mail.new.self s.0 t.0 (s.2.2 c.if-not-found.false) t.2.4,
      ),
    )

pub returns-clause-answer : goal.returns-clause-answer
returns-clause-answer g c =
    let w = returns-clause-took g c in
    answer_known (g.S.Source.left c.args.source.now) (g.S.Source.left c.read_mail.new.source) c.args.self.now c.read_mail.new.self w.0 (taken.Mail c.in_ok-bytes.bytes) w.1 c.in_ok-bytes.ensures.end w.2.0

pub returns-clause-position : goal.returns-clause-position
returns-clause-position g c =
    let w = returns-clause-took g c in
    at_position (g.S.Source.left c.args.source.now) (g.S.Source.left c.read_mail.new.source) (buffered c.args.self.now) (buffered c.read_mail.new.self) w.0 c.in_ok-found.ensures.before c.in_ok-bytes.ensures.fewer w.1 w.2.1

pub returns-then-not-found-clause-position : goal.returns-then-not-found-clause-position
returns-then-not-found-clause-position g c =
    let s = c.in_ok-found.ensures.took in
    at_position (g.S.Source.left c.args.source.now) (g.S.Source.left c.reach.new.source) (buffered c.args.self.now) (buffered c.reach.new.self) s.0 c.in_ok-found.ensures.before c.in_ok-found.ensures.fewer s.1 s.2.1

pub returns-then-len-gt-MAX_MAIL_LEN-clause-traced : goal.returns-then-len-gt-MAX_MAIL_LEN-clause-traced
returns-then-len-gt-MAX_MAIL_LEN-clause-traced g c =
    let w = returns-then-len-gt-MAX_MAIL_LEN-clause-took g c in
    traced_both _ (g.S.Source.left c.args.source.now) (g.S.Source.left c.read_mail.new.source) c.args.self.now c.read_mail.new.self
    (stays_traced (g.S.Source.left c.args.source.now) (g.S.Source.left c.read_mail.new.source) c.args.self.now c.read_mail.new.self w.0 c.in_ok-found.ensures.before c.in_ok-bytes.ensures.fewer w.1 w.2.2 c.in_ok-bytes.ensures.place)

pub returns-clause-traced : goal.returns-clause-traced
returns-clause-traced g c =
    let w = returns-clause-took g c in
    traced_both _ (g.S.Source.left c.args.source.now) (g.S.Source.left c.read_mail.new.source) c.args.self.now c.read_mail.new.self
    (stays_traced (g.S.Source.left c.args.source.now) (g.S.Source.left c.read_mail.new.source) c.args.self.now c.read_mail.new.self w.0 c.in_ok-found.ensures.before c.in_ok-bytes.ensures.fewer w.1 w.2.2 c.in_ok-bytes.ensures.place)

pub returns-then-len-gt-MAX_MAIL_LEN-clause-given : goal.returns-then-len-gt-MAX_MAIL_LEN-clause-given
returns-then-len-gt-MAX_MAIL_LEN-clause-given g c = λ some.
    let w = returns-then-len-gt-MAX_MAIL_LEN-clause-took g c in
    given_some c.args.self.now c.read_mail.new.self w.0 taken.TooLong some w.2.0 c.in_ok-found.ensures.before w.1.taken

pub returns-clause-given : goal.returns-clause-given
returns-clause-given g c = λ some.
    let w = returns-clause-took g c in
    given_some c.args.self.now c.read_mail.new.self w.0 (taken.Mail c.in_ok-bytes.bytes) some w.2.0 c.in_ok-found.ensures.before w.1.taken
