use Rattle.std.proofs.Common.{refl, sym, ap, ◌∙◌, Some}
use Rattle.std.specs.FinMap as map
use Rattle.std.specs.BTreeMap.{get_by}
use Rattle.std.specs.Option.{IsSome, option_copied_mut}
use Rattle.card_type.specs.Keys.{key_cmp}
use Rattle.card_type.proofs.Orders.{keys_total, keys_exact}
use Rattle.lists.proofs.Maps.{get_is, insert_is}
use Rattle.card_type.proofs.key_map.KeyMap.replace.Goals as goal
use Rattle.card_type.proofs.key_map.KeyMap.replace.Goals.{in-Some, in-None}

pub returns-clause-before : goal.returns-clause-before
returns-clause-before g c =
    let found = sym (ap (λ m. map.get m c.args.key.now) c.self.view_is) ∙ get_is keys_total c.self.inside.values.entries c.args.key.now ∙ sym c.get_mut.ensures.value in
    elim c.match-get_mut.branch [
      | in-Some w ↦ rw w.result-is (found ∙ ap option_copied_mut w.in-Some.is ∙ ap Some (sym w.replace.ensures.value))
      | in-None w ↦ rw w.result-is tt
    ]

pub returns-clause-ok : goal.returns-clause-ok
returns-clause-ok g c = elim c.match-get_mut.branch [
  | in-Some w ↦ (
      let key = c.args.key.now in
      let place = w.replace.new.dest in
      let follows = c.get_mut.follows.holds place in
      let found = sym c.get_mut.ensures.value ∙ ap option_copied_mut w.in-Some.is in
      let some : IsSome (get_by (key_cmp key) c.self.inside.values) = rw found refl in
      rw (w.result-is, w.self-inside-is) (
      insert_is keys_total keys_exact c.self.inside.values.entries (c.get_mut.follows.lender place).entries key place (follows.3 some).0
      ∙ ap (λ m. map.insert m key place) c.self.view_is ∙ ap (map.insert c.args.self.now key) w.replace.ensures.after
      ))
  | in-None w ↦ rw w.result-is tt
]

pub returns-clause-back : goal.returns-clause-back
returns-clause-back g c =
    let found = sym (ap (λ m. map.get m c.args.key.now) c.self.view_is) ∙ get_is keys_total c.self.inside.values.entries c.args.key.now ∙ sym c.get_mut.ensures.value in
    elim c.match-get_mut.branch [
      | in-Some w ↦ rw w.result-is tt
      | in-None w ↦ rw w.result-is (refl, found ∙ ap option_copied_mut w.in-None.is)
    ]
