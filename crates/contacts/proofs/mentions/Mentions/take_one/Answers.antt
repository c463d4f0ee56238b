use Rattle.std.proofs.Common.{◌∙◌, refl, sym, ap, ◌-◌, Some}
use Rattle.std.specs.Option.{IsSome, option_copied_mut}
use Rattle.std.specs.Ordering.{nat_cmp}
use Rattle.std.specs.Cmp.Lexicographic.{slice_cmp}
use Rattle.std.specs.BTreeMap.{get_by}
use Rattle.contacts.specs.Kept.{mentions_at}
use Rattle.contacts.proofs.ByAddr.{count_of, looked, here, elsewhere}
use Rattle.contacts.proofs.mentions.Mentions.take_one.Goals as goal
use Rattle.contacts.proofs.mentions.Mentions.take_one.Goals.{in-Some, in_default}

pub returns-clause-at : goal.returns-clause-at
returns-clause-at c = elim c.match-get_mut.branch [
  | in-Some w ↦ (
      let addr = c.args.addr.now in
      let count = w.saturating_sub.result in
      let found = sym c.get_mut.ensures.value ∙ ap option_copied_mut w.in-Some.is in
      let some : IsSome (get_by (slice_cmp nat_cmp addr) c.self.inside.counts) = rw found refl in
      let before = ap count_of (sym found ∙ looked c.self.inside.counts.entries addr) ∙ ap (λ counts. mentions_at counts addr) c.self.view_is in
      rw w.self-inside-is
      (ap count_of (here c.self.inside.counts.entries (c.get_mut.follows.lender count).entries addr (Some count) ((c.get_mut.follows.holds count).3 some).0)
      ∙ w.saturating_sub.ensures ∙ ap (λ n. n - 1) before)
      )
  | in_default w ↦ (
      let addr = c.args.addr.now in
      let found = sym c.get_mut.ensures.value ∙ ap option_copied_mut w.in_default.is in
      let none = ap (λ counts. mentions_at counts addr) (sym c.self.view_is) ∙ ap count_of (sym (looked c.self.inside.counts.entries addr) ∙ found) in
      rw w.self-inside-is
      (ap (λ m. mentions_at m.entries addr) c.get_mut.follows.holds-at-none ∙ ap (λ counts. mentions_at counts addr) c.self.view_is
      ∙ none ∙ ap (λ n. n - 1) (sym none))
      )
]

pub returns-clause-others : goal.returns-clause-others
returns-clause-others c other h = elim c.match-get_mut.branch [
  | in-Some w ↦ (
      let addr = c.args.addr.now in
      let count = w.saturating_sub.result in
      let found = sym c.get_mut.ensures.value ∙ ap option_copied_mut w.in-Some.is in
      let some : IsSome (get_by (slice_cmp nat_cmp addr) c.self.inside.counts) = rw found refl in
      rw w.self-inside-is
      (ap count_of (elsewhere c.self.inside.counts.entries (c.get_mut.follows.lender count).entries addr (Some count) ((c.get_mut.follows.holds count).3 some).0 other h)
      ∙ ap (λ counts. mentions_at counts other) c.self.view_is)
      )
  | in_default w ↦ rw w.self-inside-is (ap (λ m. mentions_at m.entries other) c.get_mut.follows.holds-at-none ∙ ap (λ counts. mentions_at counts other) c.self.view_is)
]
