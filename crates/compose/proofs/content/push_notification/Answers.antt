use Rattle.std.proofs.Common.{rules, ◌≡◌, ◌++◌}
use Rattle.compose.proofs.ReportWriting.{note_put}
use Rattle.compose.proofs.content.push_notification.Goals as goal

pub returns : goal.returns
returns c =
    let from : c.extend_from_slice-2.new.self.items ≡ c.extend_from_slice.new.self.items ++ c.args.from.now = search rules in
    let id : c.extend_from_slice-4.new.self.items ≡ c.extend_from_slice-3.new.self.items ++ c.args.id.now = search rules in
    note_put c.args.out.now.items c.args.from.now c.args.id.now c.extend_from_slice.new.self.items c.extend_from_slice-2.new.self.items c.extend_from_slice-3.new.self.items
    c.extend_from_slice-4.new.self.items c.extend_from_slice-5.new.self.items
    c.in_ok-extend_from_slice.ensures.items from c.in_ok-extend_from_slice-3.ensures.items id c.in_ok-extend_from_slice-5.ensures.items
