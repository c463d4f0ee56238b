use Rattle.std.proofs.Common.{◌∙◌, refl, sym, ap, Some}
use Rattle.std.specs.Option.{IsSome, option_copied_mut}
use Rattle.std.specs.Ordering.{nat_cmp}
use Rattle.std.specs.Cmp.Lexicographic.{slice_cmp}
use Rattle.std.specs.BTreeMap.{get_by, is_at}
use Rattle.std.specs.Map.{remove_entry}
use Rattle.card_type.specs.Spots.{spot_cmp}
use Rattle.contacts.specs.Kept.{names_at}
use Rattle.contacts.proofs.ByAddr.{names_of, looked, here, elsewhere}
use Rattle.contacts.proofs.names.Names.take_out.Goals as goal
use Rattle.contacts.proofs.names.Names.take_out.Goals.{in-Some, in_default}

pub returns-clause-at : goal.returns-clause-at
returns-clause-at c = elim c.match-get_mut.branch [
  | in-Some w ↦ (
      let addr = c.args.addr.now in
      let given = w.remove.new.self in
      let found = sym c.get_mut.ensures.value ∙ ap option_copied_mut w.in-Some.is in
      let some : IsSome (get_by (slice_cmp nat_cmp addr) c.self.inside.by_addr) = rw found refl in
      let before = ap names_of (sym found ∙ looked c.self.inside.by_addr.entries addr) ∙ ap (λ names. names_at names addr) c.self.view_is in
      rw w.self-inside-is
      (ap names_of (here c.self.inside.by_addr.entries (c.get_mut.follows.lender given).entries addr (Some given) ((c.get_mut.follows.holds given).3 some).0)
      ∙ w.remove.ensures ∙ ap (remove_entry (is_at (spot_cmp c.args.spot.now))) before)
      )
  | in_default w ↦ (
      let addr = c.args.addr.now in
      let found = sym c.get_mut.ensures.value ∙ ap option_copied_mut w.in_default.is in
      let none = ap (λ names. names_at names addr) (sym c.self.view_is) ∙ ap names_of (sym (looked c.self.inside.by_addr.entries addr) ∙ found) in
      rw w.self-inside-is
      (ap (λ m. names_at m.entries addr) c.get_mut.follows.holds-at-none ∙ ap (λ names. names_at names addr) c.self.view_is
      ∙ none ∙ ap (remove_entry (is_at (spot_cmp c.args.spot.now))) (sym none))
      )
]

pub returns-clause-others : goal.returns-clause-others
returns-clause-others c other h = elim c.match-get_mut.branch [
  | in-Some w ↦ (
      let addr = c.args.addr.now in
      let given = w.remove.new.self in
      let found = sym c.get_mut.ensures.value ∙ ap option_copied_mut w.in-Some.is in
      let some : IsSome (get_by (slice_cmp nat_cmp addr) c.self.inside.by_addr) = rw found refl in
      rw w.self-inside-is
      (ap names_of (elsewhere c.self.inside.by_addr.entries (c.get_mut.follows.lender given).entries addr (Some given) ((c.get_mut.follows.holds given).3 some).0 other h)
      ∙ ap (λ names. names_at names other) c.self.view_is)
      )
  | in_default w ↦ rw w.self-inside-is (ap (λ m. names_at m.entries other) c.get_mut.follows.holds-at-none ∙ ap (λ names. names_at names other) c.self.view_is)
]
