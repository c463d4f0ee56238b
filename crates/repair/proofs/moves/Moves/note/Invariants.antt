use Rattle.std.proofs.Common.{◌≡◌}
use Rattle.std.specs.Map.{lookup}
use Rattle.std.specs.Option.{option_or}
use Rattle.std.specs.Str.{bytes_eq}
use Rattle.mailbox_model.specs.Lists.{Bytes}
use Rattle.repair.proofs.Noted.{told_before}
use Rattle.repair.proofs.moves.Moves.note.Given as goal

-- the moves so far are noted after what was noted before
abbrev pub invariant-loop-one : goal.invariant-loop-one
invariant-loop-one l = (id : Bytes) → lookup (bytes_eq id) l.self ≡ option_or (lookup (bytes_eq id) l.fn.self) (told_before l.yielded id)
