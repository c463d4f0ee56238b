use Rattle.std.proofs.Common.{◌≡◌, map}
use Rattle.chat_card.proofs.envelope.addresses_of.Given as goal

abbrev pub invariant-loop-person : goal.invariant-loop-person
invariant-loop-person l = l.addrs.items ≡ map (λ person. person.addr) l.yielded
