use Rattle.std.proofs.Common.{◌∙◌, refl, sym, ap, ◌+◌, Some}
use Rattle.std.specs.Option.{IsSome, option_copied_mut}
use Rattle.std.specs.Ordering.{nat_cmp}
use Rattle.std.specs.Cmp.Lexicographic.{slice_cmp}
use Rattle.std.specs.BTreeMap.{get_by}
use Rattle.card_type.specs.Records.{capped}
use Rattle.contacts.specs.Kept.{mentions_at}
use Rattle.contacts.proofs.ByAddr.{count_of, looked, here, elsewhere}
use Rattle.contacts.proofs.mentions.Mentions.add_one.Goals as goal

pub returns-in-Some-clause-at : goal.returns-in-Some-clause-at
returns-in-Some-clause-at c =
    let addr = c.args.addr.now in
    let count = c.saturating_add.result in
    let found = sym c.get_mut.ensures.value ∙ ap option_copied_mut c.in-Some.is in
    let some : IsSome (get_by (slice_cmp nat_cmp addr) c.self.inside.counts) = rw found refl in
    let before = ap count_of (sym found ∙ looked c.self.inside.counts.entries addr) ∙ ap (λ counts. mentions_at counts addr) c.self.view_is in
    ap count_of (here c.self.inside.counts.entries (c.get_mut.follows.lender count).entries addr (Some count) ((c.get_mut.follows.holds count).3 some).0)
    ∙ c.saturating_add.ensures ∙ ap (λ n. capped (n + 1)) before

pub returns-in-Some-clause-others : goal.returns-in-Some-clause-others
returns-in-Some-clause-others c other h =
    let addr = c.args.addr.now in
    let count = c.saturating_add.result in
    let found = sym c.get_mut.ensures.value ∙ ap option_copied_mut c.in-Some.is in
    let some : IsSome (get_by (slice_cmp nat_cmp addr) c.self.inside.counts) = rw found refl in
    ap count_of (elsewhere c.self.inside.counts.entries (c.get_mut.follows.lender count).entries addr (Some count) ((c.get_mut.follows.holds count).3 some).0 other h)
    ∙ ap (λ counts. mentions_at counts other) c.self.view_is

pub returns-clause-at : goal.returns-clause-at
returns-clause-at c =
    let key = c.in_ok-copy.field-0 in
    let entries = c.get_mut.follows.lender-at-none.entries in
    let found = sym c.get_mut.ensures.value ∙ ap option_copied_mut c.in_default.is in
    let none = ap count_of (sym (looked c.self.inside.counts.entries c.args.addr.now) ∙ found) in
    ap (λ addr. mentions_at c.insert.new.self.entries addr) (sym c.in_ok-copy.ensures)
    ∙ ap count_of (here entries c.insert.new.self.entries key (Some 1) c.in_ok-insert.ensures.updates.0)
    ∙ sym (ap (λ n. capped (n + 1)) (ap (λ counts. mentions_at counts c.args.addr.now) (sym c.self.view_is) ∙ none))

pub returns-clause-others : goal.returns-clause-others
returns-clause-others c other h =
    let key = c.in_ok-copy.field-0 in
    let entries = c.get_mut.follows.lender-at-none.entries in
    ap count_of (elsewhere entries c.insert.new.self.entries key (Some 1) c.in_ok-insert.ensures.updates.0 other (rw c.in_ok-copy.ensures h))
    ∙ ap (λ m. mentions_at m.entries other) c.get_mut.follows.holds-at-none ∙ ap (λ counts. mentions_at counts other) c.self.view_is
