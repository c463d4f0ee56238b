use Rattle.std.proofs.Common.{◌≡◌, refl, sym, ap, ◌∙◌, true, ℕ, Option, None, Some, arith}
use Rattle.std.specs.Prelude.{nat_eq}
use Rattle.std.specs.Option.{option_eq}
use Rattle.std.proofs.lemmas.Bool.{eqb-true, false≢true}
use Rattle.chatlist.proofs.Kept.{kept_place}
use Rattle.chatlist.proofs.Shifts.{from_within, to_within, fits_left, shifted, shifted_kept}
use Rattle.chatlist.proofs.order.Order.shift.Goals as goal

same_date : (a b : Option ℕ) → option_eq nat_eq a b ≡ true → a ≡ b
same_date None None h = refl
same_date None (Some b) h = absurd (false≢true h)
same_date (Some a) None h = absurd (false≢true h)
same_date (Some a) (Some b) h = ap Some (eqb-true a b h)

pub returns-then-eq : goal.returns-then-eq
returns-then-eq c =
    let same = same_date c.args.before c.args.date (sym c.eq.ensures ∙ c.if-eq.true) in
    sym (kept_place c.args.key.now c.args.date c.args.self.now.chats (c.requires.date ∙ ap Some same) c.keys-keys.ensures.sorted c.keys-keys.ensures.once)

pub turn-requires-clause-from : goal.turn-requires-clause-from
turn-requires-clause-from c = from_within c.self.inside.keys.values c.self.inside.dates.values c.self.invariant (ap (λ o. o.chats) c.self.view_is) c.requires.date c.place_of-from.ensures.place c.place_of.ensures.place c.place_of.ensures.bound c.place_without-to.ensures

pub turn-requires-clause-to : goal.turn-requires-clause-to
turn-requires-clause-to c = to_within c.self.inside.keys.values c.self.inside.dates.values c.self.invariant (ap (λ o. o.chats) c.self.view_is) c.requires.date c.place_of-from.ensures.place c.place_of.ensures.place c.place_of.ensures.bound c.place_without-to.ensures

pub turn-requires-2-clause-from : goal.turn-requires-2-clause-from
turn-requires-2-clause-from c = let from = from_within c.self.inside.keys.values c.self.inside.dates.values c.self.invariant (ap (λ o. o.chats) c.self.view_is) c.requires.date c.place_of-from.ensures.place c.place_of.ensures.place c.place_of.ensures.bound c.place_without-to.ensures in omega (arith, from, c.self.invariant.0)

pub turn-requires-2-clause-to : goal.turn-requires-2-clause-to
turn-requires-2-clause-to c = let to = to_within c.self.inside.keys.values c.self.inside.dates.values c.self.invariant (ap (λ o. o.chats) c.self.view_is) c.requires.date c.place_of-from.ensures.place c.place_of.ensures.place c.place_of.ensures.bound c.place_without-to.ensures in omega (arith, to, c.self.invariant.0)

pub turn-requires-2-clause-fit : goal.turn-requires-2-clause-fit
turn-requires-2-clause-fit c = fits_left c.self.inside.keys.values c.self.inside.dates.values c.self.invariant (ap (λ o. o.chats) c.self.view_is) c.requires.date c.place_of-from.ensures.place c.place_of.ensures.place c.place_of.ensures.bound c.place_without-to.ensures

pub invariant_of-self : goal.invariant_of-self
invariant_of-self c =
    shifted_kept c.self.inside.keys.values c.self.inside.dates.values c.self.invariant (ap (λ o. o.chats) c.self.view_is) c.requires.date c.place_of-from.ensures.place c.place_of.ensures.place c.place_of.ensures.bound c.place_without-to.ensures (c.turn.ensures c.args.key.now) c.turn-2.ensures

pub returns : goal.returns
returns c =
    shifted c.self.inside.keys.values c.self.inside.dates.values c.self.invariant (ap (λ o. o.chats) c.self.view_is) c.requires.date c.place_of-from.ensures.place c.place_of.ensures.place c.place_of.ensures.bound c.place_without-to.ensures (c.turn.ensures c.args.key.now) c.turn-2.ensures
