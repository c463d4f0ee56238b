use Rattle.std.proofs.Common.{◌≡◌, sym, ap, ◌∙◌, ℕ, Bool, true, not}
use Rattle.std.specs.Prelude.{if◌then◌else◌, ◌&&◌, ◌||◌}
use Rattle.std.proofs.lemmas.Result.{IfOk-weaker}
use Rattle.card_type.specs.Effects.{is_among}
use Rattle.group_roster.specs.declared.setters.Setters.{Setters}
use Rattle.group_roster.specs.Setters.{At, at, is_of_member, keeps_members, keeps_name, keeps_timer, members_at, place_of, stays_with_in_group, with_said}
use Rattle.group_roster.proofs.changes.put_in_group.Goals as goal

module _ (c : goal.After-put_in_of_member) where
  abbrev s : Setters
  s = c.args.setters.now

  abbrev a : At
  a = at c.args.spot.now c.args.card.now

  place : c.place_of-place.result ≡ place_of s.listings a.spot
  place = c.place_of-place.ensures ∙ ap (λ ls. place_of ls a.spot) c.as_slice-listings.ensures

  member : is_of_member s a ≡ true
  member = sym (c.is_of_member.ensures ∙ (λ k. is_among (members_at (c.as_slice-listings.ensures k) (place k)) a.card.from)) ∙ c.if-not-is_of_member.false

  keeps : ℕ → Bool
  keeps p = keeps_members s p a.card && keeps_name s a && keeps_timer s a

pub returns-clause-says : goal.returns-clause-says
unfolding keeps
returns-clause-says c =
    let later = sym c.is_after.ensures ∙ c.if-not-is_after.false in
    IfOk-weaker c.put_in_of_member.result (λ stays. stays ≡ keeps c c.place_of-place.result) (λ stays. stays ≡ stays_with_in_group (s c) (a c))
    (λ stays h. h ∙ ap (keeps c) (place c) ∙ sym (λ k. later k && (not (member c k) || keeps c (place_of (s c).listings (a c).spot))))
    c.put_in_of_member.ensures.says

pub returns-clause-put : goal.returns-clause-put
returns-clause-put c =
    IfOk-weaker c.put_in_of_member.result
    (λ stays. stays ≡ true → c.put_in_of_member.new.setters ≡ with_said (s c) c.place_of-place.result (a c))
    (λ stays. stays ≡ true → c.put_in_of_member.new.setters ≡ (if is_of_member (s c) (a c) then with_said (s c) (place_of (s c).listings (a c).spot) (a c) else s c))
    (λ stays h yes. h yes ∙ ap (λ p. with_said (s c) p (a c)) (place c) ∙ sym (ap (λ b. if b then with_said (s c) (place_of (s c).listings (a c).spot) (a c) else s c) (member c)))
    c.put_in_of_member.ensures.put
