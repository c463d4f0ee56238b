use Rattle.std.proofs.Common.{ap, ◌∙◌}
use Rattle.mailbox_model.specs.Mailbox.{Mailbox}
use Rattle.arrivals.specs.Arrivals.{arrival_taken}
use Rattle.follower.specs.Following.{Following}
use Rattle.follower.proofs.Turning.{next_known, next_stands, no_arrival}
use Rattle.follower.proofs.follower.Follower.next_arrival.Goals as goal

pub returns-clause-next : goal.returns-clause-next
returns-clause-next g c =
    let now : Following = record {
      keeper = c.self.inside.keeper;
      mbox = c.next.new.self;
      lines = c.self.inside.lines;
      failed = c.self.inside.failed;
    } in
    let uid = c.next_uid-uid.ensures ∙ ap (λ (m : Mailbox). m.next_uid) (c.mailbox.ensures ∙ c.engine.ensures.mailbox) ∙ ap (λ (f : Following). f.keeper.state.mailbox.next_uid) c.self.view_is in
    let change = c.in_ok-arrival_of.ensures.change ∙ ap (λ uid. arrival_taken uid c.in_ok-taken.taken) uid in
    next_known (g.M.Source.left c.args.mbox.now) (g.M.Source.left c.next.new.source) c.args.self.now now c.self.inside.mbox c.in_ok-taken.taken c.in_ok-arrival_of.field-0
    (ap (λ (f : Following). f.mbox) c.self.view_is) change c.in_ok-taken.ensures.answer

pub returns-clause-stands : goal.returns-clause-stands
returns-clause-stands g c =
    let now : Following = record {
      keeper = c.self.inside.keeper;
      mbox = c.next.new.self;
      lines = c.self.inside.lines;
      failed = c.self.inside.failed;
    } in
    next_stands (g.M.Source.left c.args.mbox.now) (g.M.Source.left c.next.new.source) c.args.self.now now c.self.inside.mbox c.next_uid-uid.result c.in_ok-taken.taken c.in_ok-arrival_of.field-0
    (ap (λ (f : Following). f.mbox) c.self.view_is) c.in_ok-arrival_of.ensures.change c.in_ok-taken.ensures.position c.in_ok-taken.ensures.traced

pub returns-clause-given : goal.returns-clause-given
returns-clause-given g c = λ some.
    c.in_ok-taken.ensures.given (λ end. no_arrival c.next_uid-uid.result c.in_ok-taken.taken c.in_ok-arrival_of.field-0 end c.in_ok-arrival_of.ensures.change some)
