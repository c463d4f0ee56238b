use Rattle.std.proofs.Common.{◌≡◌, ◌-◌, length, take, drop, min, subst, arith}
use Rattle.outside.specs.Places.{Places, content}
use Rattle.outside.proofs.Known.{from_some, from_known}
use Rattle.checkpoint.proofs.Fronts.{front_is}
use Rattle.checkpoint.proofs.front.look.Goals as goal

pub returns-clause-front : goal.returns-clause-front
returns-clause-front g c places is =
    let seen = g.H.Shelf.seen in
    let first = seen c.args.shelf.now in
    let later = seen c.size.new.self in
    let n = c.in_ok-count.count in
    let mid = (from_known first later (λ a b. b ≡ a) c.size.ensures.reads).forth places is in
    let bytes = content places c.args.place in
    let count = from_some later (λ p. n ≡ min 17 (length (content p c.args.place) - 0)) c.in_ok-count.ensures.count mid.places mid.is in
    let taken = from_some later (λ p. take n c.read.new.buf ≡ take n (drop 0 (content p c.args.place))) c.in_ok-count.ensures.bytes mid.places mid.is in
    front_is c.in_ok-size.size n c.read.new.buf bytes c.closed_by.result c.stated_by.result
    (from_some first (λ p. c.in_ok-size.size ≡ length (content p c.args.place)) c.in_ok-size.ensures.size places is)
    (omega (arith, subst (λ (p : Places). n ≡ min 17 (length (content p c.args.place) - 0)) mid.holds count))
    (subst (λ (p : Places). take n c.read.new.buf ≡ take n (content p c.args.place)) mid.holds taken)
    c.closed_by.ensures c.stated_by.ensures
