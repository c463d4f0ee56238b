use Rattle.std.proofs.Common.{rules, ◌≡◌, ◌++◌}
use Rattle.compose.specs.Intended.{notification}
use Rattle.compose.specs.Written.{body_text}
use Rattle.compose.proofs.ReportWriting.{report_put}
use Rattle.compose.proofs.content.push_report.Goals as goal

pub returns : goal.returns
returns c =
    let text : c.push_body.new.out.items ≡ c.extend_from_slice.new.self.items ++ body_text c.args.text.now = search rules in
    report_put c.args.out.now.items (body_text c.args.text.now) (notification c.args.from.now c.args.id.now) c.extend_from_slice.new.self.items c.push_body.new.out.items
    c.extend_from_slice-2.new.self.items c.push_notification.new.out.items c.extend_from_slice-3.new.self.items
    c.in_ok-extend_from_slice.ensures.items text c.in_ok-extend_from_slice-2.ensures.items c.in_ok-push_notification.ensures c.in_ok-extend_from_slice-3.ensures.items
