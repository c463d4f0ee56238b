-- The setters of cards and of one more.
use Rattle.std.proofs.Common.{◌≡◌, refl, sym, ap, ◌∙◌, true, false, List, [], ◌∷◌, ◌++◌, length, map, drop, append-nil}
use Rattle.std.specs.Prelude.{if◌then◌else◌}
use Rattle.std.proofs.lemmas.List.{map-append}
use Rattle.card_type.specs.declared.key.ChatKey.{ChatKey}
use Rattle.card_type.specs.declared.key.ChatKey.TheVariants.{SelfChat, Single, Group, Thread}
use Rattle.card_type.specs.declared.spot.Spot.{Spot}
use Rattle.mailbox_model.specs.declared.roster.Roster.{Roster}
use Rattle.mailbox_model.specs.Lists.{Bytes}
use Rattle.mailbox_model.specs.Rosters.{roster_begun, roster_of}
use Rattle.group_roster.specs.declared.setters.Setters.{Setters}
use Rattle.group_roster.specs.Setters.{At, RestsOn, is_thread, setters_after, setters_begun, setters_of, setters_with}
use Rattle.group_roster.specs.Standing.{roster_with}
use Rattle.group_roster.proofs.Folds.{begun_all, begun_first, roster_more}
use Rattle.group_roster.proofs.Places.{setters_append}
use Rattle.group_roster.proofs.Says.{cards_of}
use Rattle.group_roster.proofs.Unchanged.{group_joined_step}

-- who joined by the card, after those who joined before it
abbrev pub joined_with : Bytes → ChatKey → Roster → Setters → At → List Spot
joined_with me key r s a =
    (if r.begun then s.joined else [])
    ++ (if is_thread key then map (λ _. a.spot) (drop (if r.begun then length r.members else 0) (roster_with me key r a.card).members) else [])

pub joined_are : (me : Bytes) (key : ChatKey) (r : Roster) (s : Setters) (a : At) → joined_with me key r s a ≡ (setters_with key r s a).joined
joined_are me SelfChat r s a = elim r.begun as (λ b. (if b then s.joined else []) ++ [] ≡ (if b then setters_after SelfChat r s a else setters_begun SelfChat a).joined) [ true ↦ append-nil s.joined | false ↦ refl ]
joined_are me (Single other) r s a = elim r.begun as (λ b. (if b then s.joined else []) ++ [] ≡ (if b then setters_after (Single other) r s a else setters_begun (Single other) a).joined) [ true ↦ append-nil s.joined | false ↦ refl ]
joined_are me (Group g) r s a = elim r.begun as (λ b. (if b then s.joined else []) ++ [] ≡ (if b then setters_after (Group g) r s a else setters_begun (Group g) a).joined) [ true ↦ append-nil s.joined ∙ sym (group_joined_step g r s a) | false ↦ refl ]
joined_are me (Thread i) r s a =
    elim r.begun as (λ b. (if b then s.joined else []) ++ map (λ _. a.spot) (drop (if b then length r.members else 0) (if b then Rattle.mailbox_model.specs.Rosters.roster_after (Thread i) r a.card else roster_begun me (Thread i) a.card).members) ≡ (if b then setters_after (Thread i) r s a else setters_begun (Thread i) a).joined) [ true ↦ refl | false ↦ refl ]

setters_more : (me : Bytes) (key : ChatKey) (cards : List At) (a : At)
    → setters_with key (roster_of me key (cards_of cards)) (setters_of me key cards) a ≡ setters_of me key (cards ++ a ∷ [])
setters_more me key [] a = refl
setters_more me key (d ∷ more) a =
    let q = roster_begun me key d.card in
    rw (begun_all key q (cards_of more) ∙ begun_first me key d.card)
    (sym (setters_append key q (setters_begun key d) more (a ∷ [])))

pub rests_more : (me : Bytes) (key : ChatKey) (cards : List At) (a : At) (r : Roster) (s : Setters) → RestsOn me key cards r s
    → RestsOn me key (cards ++ a ∷ []) (roster_with me key r a.card) (setters_with key r s a)
rests_more me key cards a r s rests =
    record {
      roster =
          ap (λ r. roster_with me key r a.card) rests.roster ∙ roster_more me key (cards_of cards) a.card
          ∙ ap (roster_of me key) (sym (map-append (λ a. a.card) cards (a ∷ [])));
      setters = (λ k. setters_with key (rests.roster k) (rests.setters k) a) ∙ setters_more me key cards a;
    }
