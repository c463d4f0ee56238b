use Rattle.std.proofs.Common.{◌≡◌, sym, ◌∙◌, ◌||◌}
use Rattle.card_type.specs.declared.key.ChatKey.{ChatKey}
use Rattle.mailbox_model.specs.Chats.{chat, is_chat}
use Rattle.chat_states.specs.States.{has_key}
use Rattle.indexes.proofs.Grown.{on_ok_of}
use Rattle.repair.proofs.Between.{moved, noted_both, on_ok_four, on_ok_five, rest_through, stayed}
use Rattle.repair.proofs.SamePlace.{both_at}
use Rattle.repair.proofs.settle.settle.Goals as goal
use Rattle.repair.proofs.settle.settle.Given.{Over}
use Rattle.repair.proofs.settle.settle.Goals.{In_ok-note-2}

touched : (g : Over) (c : In_ok-note-2 g) (key : ChatKey) → has_key c.note-2.new.self.touched key
    ≡ (has_key c.args.noted.now.touched key
    || (is_chat key (chat c.args.mailbox.now.mailbox c.args.id.now) || is_chat key (chat c.args.view.now c.args.id.now)))
touched g c =
    noted_both c.args.mailbox.now.mailbox c.args.view.now c.args.id.now c.place_before-before.result c.in_ok-after.after
    c.place_before-before.ensures c.in_ok-after.ensures
    c.args.noted.now.touched c.note.new.self.touched c.note-2.new.self.touched c.in_ok-note.ensures.touched c.in_ok-note-2.ensures.touched

pub returns-then-is_same-clause-between : goal.returns-then-is_same-clause-between
returns-then-is_same-clause-between g c =
    let m = c.args.mailbox.now.mailbox in
    let n = c.args.view.now in
    let id = c.args.id.now in
    let are = both_at m n id c.place_before-before.result c.in_ok-after.after c.place_before-before.ensures c.in_ok-after.ensures
    (sym c.is_same.ensures ∙ c.if-is_same.true) in
    let unchanged = c.in_ok-note-2.ensures.unsettled ∙ c.in_ok-note.ensures.unsettled in
    let noted = touched g (goal.at.returns-then-is_same-clause-between g c).In_ok-note-2 in
    let made = c.remark.ensures in
    on_ok_four c.remark.result made.states made.others made.timers made.rest (λ states others timers rest pending start new kept.
    stayed m n c.keeps_rules.ensures c.keeps_rules-2.ensures c.requires.uids id pending new c.args.noted.now c.note-2.new.self start
    c.args.indexes.now c.remark.new.indexes kept noted rest are unchanged states others timers)

pub returns-then-is_same-clause-touched : goal.returns-then-is_same-clause-touched
returns-then-is_same-clause-touched g c = on_ok_of c.remark.result (touched g (goal.at.returns-then-is_same-clause-touched g c).In_ok-note-2)

pub returns-clause-between : goal.returns-clause-between
returns-clause-between g c =
    let m = c.args.mailbox.now.mailbox in
    let n = c.args.view.now in
    let id = c.args.id.now in
    let left = c.in_ok-take_from_chat.ensures in
    let unchanged = c.in_ok-note-2.ensures.unsettled ∙ c.in_ok-note.ensures.unsettled in
    let noted = record c.note-2.new.self { unsettled = c.put_into_chat.new.unsettled } in
    let both = touched g (goal.at.returns-clause-between g c).In_ok-note-2 in
    let made = c.put_into_chat.ensures in
    on_ok_five c.put_into_chat.result made.states made.others made.notes made.timers made.rest (λ states others notes timers rest pending start new kept.
    moved m n c.keeps_rules.ensures c.keeps_rules-2.ensures c.requires.uids id pending new c.args.noted.now noted start
    c.args.indexes.now c.put_into_chat.new.indexes kept both (rest_through c.args.indexes.now c.take_from_chat.new.indexes c.put_into_chat.new.indexes left.rest rest)
    c.take_from_chat.new.indexes c.note-2.new.self.unsettled c.take_from_chat.new.unsettled unchanged
    left.states states left.others others left.notes notes left.timers timers)

pub returns-clause-touched : goal.returns-clause-touched
returns-clause-touched g c = on_ok_of c.put_into_chat.result (touched g (goal.at.returns-clause-touched g c).In_ok-note-2)
