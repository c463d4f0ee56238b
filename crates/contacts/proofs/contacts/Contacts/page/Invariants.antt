use Rattle.std.proofs.Common.{◌≡◌, map}
use Rattle.contacts.specs.Kept.{contact_row}
use Rattle.contacts.proofs.contacts.Contacts.page.Given as goal

-- the addresses so far have their rows
abbrev pub invariant-loop-addr : goal.invariant-loop-addr
invariant-loop-addr l = l.rows.items ≡ map (contact_row l.fn.self) l.yielded
