use Rattle.std.proofs.Common.{◌≡◌, ◌||◌, map}
use Rattle.std.specs.List.{list_any}
use Rattle.std.specs.Map.Iter.{deref_pair}
use Rattle.std.specs.Str.{bytes_eq}
use Rattle.mailbox_model.specs.Lists.{Bytes}
use Rattle.repair.proofs.Changed.{is_changed}
use Rattle.repair.proofs.moves.Moves.changed.Given as goal

-- of the entries so far the ids are there whose chat is another one
abbrev pub invariant-loop-id : goal.invariant-loop-id
invariant-loop-id l =
    (id : Bytes) → list_any (bytes_eq id) l.ids.keys ≡ (list_any (bytes_eq id) l.fn.ids.keys || list_any (is_changed l.links.cites id) (map deref_pair l.yielded))
