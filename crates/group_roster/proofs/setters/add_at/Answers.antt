use Rattle.std.proofs.Common.{◌≡◌, ap, ◌∙◌, ◌++◌, [], List, map, drop}
use Rattle.std.specs.Prelude.{if◌then◌else◌}
use Rattle.std.proofs.lemmas.Result.{on_ok_weaker}
use Rattle.card_type.specs.declared.spot.Spot.{Spot}
use Rattle.group_roster.specs.declared.setters.Setters.{Setters}
use Rattle.mailbox_model.specs.declared.roster.Roster.{Roster}
use Rattle.group_roster.specs.Setters.{At, at, is_thread, setters_with}
use Rattle.group_roster.proofs.OneMore.{joined_are, rests_more}
use Rattle.group_roster.proofs.setters.add_at.Goals as goal

module _ (c : goal.After-join_thread) where
  abbrev a : At
  a = at c.args.spot.now c.args.card.now

  abbrev noted : Setters
  noted = c.note.new.setters

  abbrev after : Setters
  after = setters_with c.args.key.now c.args.roster.now c.args.setters.now a

  abbrev new_joined : List Spot
  new_joined = noted.joined ++ (if is_thread c.args.key.now then map (λ _. a.spot) c.members_from-newcomers.result.now else [])

  new_setters : c.join_thread.new.joined ≡ new_joined → record noted { joined = c.join_thread.new.joined } ≡ after
  new_setters is =
      let newcomers = c.members_from-newcomers.ensures
      ∙ (λ k. drop (c.known_members-known.ensures k) ((c.as_slice.ensures ∙ ap (λ (r : Roster). r.members) c.in_ok-add.ensures.step) k)) in
      let before = ap (λ (s : Setters). s.joined) c.in_ok-note.ensures in
      let joined = is ∙ (λ k. before k ++ (if is_thread c.args.key.now then map (λ _. a.spot) (newcomers k) else []))
      ∙ joined_are c.args.me.now c.args.key.now c.args.roster.now c.args.setters.now a in
      λ k. record (c.in_ok-note.ensures k) { joined = joined k }

pub returns-clause-setters : goal.returns-clause-setters
returns-clause-setters c = on_ok_weaker c.join_thread.result (new_setters c) c.join_thread.ensures

pub returns-clause-stands : goal.returns-clause-stands
returns-clause-stands c =
    on_ok_weaker c.join_thread.result (λ is cards rests.
    let more = rests_more c.args.me.now c.args.key.now cards (a c) c.args.roster.now c.args.setters.now rests in
    record { roster = c.in_ok-add.ensures.step ∙ more.roster; setters = new_setters c is ∙ more.setters })
    c.join_thread.ensures
