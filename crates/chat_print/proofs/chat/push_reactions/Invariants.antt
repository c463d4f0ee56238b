use Rattle.std.proofs.Common.{◌≡◌, ◌++◌, take, flat_map, string_bytes}
use Rattle.mailbox_model.specs.Printed.{reaction_line}
use Rattle.chat_print.proofs.chat.push_reactions.Given as goal

abbrev pub invariant-loop-reaction : goal.invariant-loop-reaction
invariant-loop-reaction l = string_bytes l.text ≡ string_bytes l.fn.text ++ flat_map reaction_line (take l.reaction-index l.reactions)
