use Rattle.std.proofs.Common.{◌≡◌, ◌++◌, codes, take, flat_map, string_bytes}
use Rattle.box_maker.specs.Mails.{person}
use Rattle.box_maker.proofs.mail.push_to.Given as goal

abbrev pub invariant-loop-other : goal.invariant-loop-other
invariant-loop-other l = string_bytes l.text ≡ string_bytes l.fn.text ++ codes "To: " ++ l.me ++ flat_map (λ k. codes ", " ++ person k) (take l.other-index l.other-items)
