use Rattle.std.proofs.Common.{◌∙◌, refl, sym, ap, Some}
use Rattle.std.specs.Option.{IsSome, option_copied_mut}
use Rattle.std.specs.Ordering.{nat_cmp}
use Rattle.std.specs.Cmp.Lexicographic.{slice_cmp}
use Rattle.std.specs.BTreeMap.{get_by, insert_entry}
use Rattle.card_type.specs.Spots.{spot_cmp}
use Rattle.contacts.specs.Kept.{names_at}
use Rattle.contacts.proofs.ByAddr.{names_of, looked, here, elsewhere}
use Rattle.contacts.proofs.names.Names.insert.Goals as goal

pub returns-in-Some-clause-at : goal.returns-in-Some-clause-at
returns-in-Some-clause-at c =
    let addr = c.args.addr.now in
    let given = c.insert.new.self in
    let found = sym c.get_mut.ensures.value ∙ ap option_copied_mut c.in-Some.is in
    let some : IsSome (get_by (slice_cmp nat_cmp addr) c.self.inside.by_addr) = rw found refl in
    let before = ap names_of (sym found ∙ looked c.self.inside.by_addr.entries addr) ∙ ap (λ names. names_at names addr) c.self.view_is in
    ap names_of (here c.self.inside.by_addr.entries (c.get_mut.follows.lender given).entries addr (Some given) ((c.get_mut.follows.holds given).3 some).0)
    ∙ c.in_ok-insert.ensures ∙ ap (λ names. insert_entry spot_cmp names c.args.spot c.args.name) before

pub returns-in-Some-clause-others : goal.returns-in-Some-clause-others
returns-in-Some-clause-others c other h =
    let addr = c.args.addr.now in
    let given = c.insert.new.self in
    let found = sym c.get_mut.ensures.value ∙ ap option_copied_mut c.in-Some.is in
    let some : IsSome (get_by (slice_cmp nat_cmp addr) c.self.inside.by_addr) = rw found refl in
    ap names_of (elsewhere c.self.inside.by_addr.entries (c.get_mut.follows.lender given).entries addr (Some given) ((c.get_mut.follows.holds given).3 some).0 other h)
    ∙ ap (λ names. names_at names other) c.self.view_is

pub returns-clause-at : goal.returns-clause-at
returns-clause-at c =
    let key = c.in_ok-copy.field-0 in
    let addr = c.args.addr.now in
    let entries = c.get_mut.follows.lender-at-none.entries in
    let given = c.insert-2.new.self in
    let found = sym c.get_mut.ensures.value ∙ ap option_copied_mut c.in_default.is in
    let none = ap (λ names. names_at names addr) (sym c.self.view_is) ∙ ap names_of (sym (looked c.self.inside.by_addr.entries addr) ∙ found) in
    ap (λ a. names_at c.insert-3.new.self.entries a) (sym c.in_ok-copy.ensures)
    ∙ ap names_of (here entries c.insert-3.new.self.entries key (Some given) c.in_ok-insert-3.ensures.updates.0)
    ∙ c.in_ok-insert-2.ensures ∙ ap (λ names. insert_entry spot_cmp names c.args.spot c.args.name) (c.new-names.ensures ∙ sym none)

pub returns-clause-others : goal.returns-clause-others
returns-clause-others c other h =
    let key = c.in_ok-copy.field-0 in
    let entries = c.get_mut.follows.lender-at-none.entries in
    let given = c.insert-2.new.self in
    ap names_of (elsewhere entries c.insert-3.new.self.entries key (Some given) c.in_ok-insert-3.ensures.updates.0 other (rw c.in_ok-copy.ensures h))
    ∙ ap (λ m. names_at m.entries other) c.get_mut.follows.holds-at-none ∙ ap (λ names. names_at names other) c.self.view_is
