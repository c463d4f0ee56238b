-- The roster of all cards of a chat with one other or with oneself, and of one more or one less.
use Rattle.std.proofs.Common.{◌≡◌, sym, ap, ◌∙◌, ◌<◌, true, not, None, List, ◌∷◌, ◌++◌, length}
use Rattle.std.specs.Prelude.{◌&&◌}
use Rattle.std.proofs.lemmas.Bool.{and_parts, not-true}
use Rattle.card_type.specs.declared.card.Card.{Card}
use Rattle.card_type.specs.declared.key.ChatKey.{ChatKey}
use Rattle.mailbox_model.specs.declared.roster.Roster.{Roster}
use Rattle.mailbox_model.specs.Lists.{Bytes}
use Rattle.mailbox_model.specs.Rosters.{roster_after, roster_of}
use Rattle.group_roster.specs.declared.setters.Setters.{Setters}
use Rattle.group_roster.specs.Setters.{At, AreInOrder, is_kept, keeps_timer, no_setters, setters_after, setters_from, setters_of}
use Rattle.group_roster.proofs.Says.{Alike, alike_if_same, cards_of}
use Rattle.group_roster.proofs.Unchanged.{SameTimer, plain_stays, timer_with, timer_without}
use Rattle.group_roster.proofs.Places.{IsPlain, plain_setters, are_below, begun, mid, plain_same_roster, plain_same_setters, plain_timed, setters_append, some_begun}

abbrev pub Same : Bytes → ChatKey → List At → At → List At → Type 0
Same me key before a after =
    (roster_of me key (cards_of (before ++ a ∷ after)) ≡ roster_of me key (cards_of (before ++ after)))
    × (setters_of me key (before ++ a ∷ after) ≡ setters_of me key (before ++ after))

-- ---- a chat with oneself or one other

module _ (me : Bytes) (key : ChatKey) (plain : IsPlain me key)
    (same : (r : Roster) (c : Card) → ((roster_after key r c).members ≡ r.members) × ((roster_after key r c).name ≡ r.name))
    (kept : (r : Roster) (s : Setters) (a : At) → record (setters_after key r s a) { timed = None } ≡ record s { timed = None })
    (before : List At) (a : At) (after : List At) (order : AreInOrder (before ++ a ∷ after)) where
  abbrev at_place : Roster
  at_place = mid key (begun me key) before

  abbrev setters_at_place : Setters
  setters_at_place = setters_from key (begun me key) no_setters before

  alike : Alike key (roster_after key at_place a.card) at_place
  alike = alike_if_same key (roster_after key at_place a.card) at_place (same at_place a.card).0

  plain_same : 0 < length (before ++ after) → SameTimer key at_place setters_at_place a after alike → Same me key before a after
  plain_same some timer =
      let stay = plain_stays key same kept at_place setters_at_place a after timer in
      (plain_same_roster me key plain before a after some stay, plain_same_setters me key plain before a after some stay)

  pub plain_with : ((roster_of me key (cards_of (before ++ after))).begun && keeps_timer (setters_of me key (before ++ after)) a) ≡ true → Same me key before a after
  plain_with h =
      let parts = and_parts (roster_of me key (cards_of (before ++ after))).begun (keeps_timer (setters_of me key (before ++ after)) a) h in
      let kept = ap (λ s. keeps_timer s a) (sym (plain_setters me key plain (before ++ after) ∙ setters_append key (begun me key) no_setters before after)) ∙ parts.1 in
      plain_same (some_begun me key plain (before ++ after) parts.0)
      (timer_with key at_place setters_at_place a after alike kept (plain_timed me key plain before a (are_below before a after order)))

  pub plain_without : 0 < length (before ++ after) → not (is_kept a.spot (setters_of me key (before ++ a ∷ after)).timed) ≡ true → Same me key before a after
  plain_without some h =
      let setters = plain_setters me key plain (before ++ a ∷ after) ∙ setters_append key (begun me key) no_setters before (a ∷ after) in
      let other = ap (λ (s : Setters). is_kept a.spot s.timed) (sym setters) ∙ not-true (is_kept a.spot (setters_of me key (before ++ a ∷ after)).timed) h in
      plain_same some (timer_without key at_place setters_at_place a after alike other)
