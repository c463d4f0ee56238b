-- The roster of cards and of one more.
use Rattle.std.proofs.Common.{◌≡◌, refl, sym, ◌∙◌, true, false, List, [], ◌∷◌, ◌++◌}
use Rattle.std.specs.Prelude.{fold, if◌then◌else◌}
use Rattle.std.proofs.lemmas.List.Sums.{fold-append}
use Rattle.card_type.specs.declared.card.Card.{Card}
use Rattle.card_type.specs.declared.key.ChatKey.{ChatKey}
use Rattle.card_type.specs.declared.key.ChatKey.TheVariants.{SelfChat, Single, Group, Thread}
use Rattle.card_type.specs.Effects.{is_among}
use Rattle.mailbox_model.specs.declared.roster.Roster.{Roster}
use Rattle.mailbox_model.specs.Lists.{Bytes}
use Rattle.mailbox_model.specs.Rosters.{group_after_member, roster_begun, roster_after, roster_of}
use Rattle.group_roster.specs.Standing.{roster_with}

-- what has begun stays so
still_begun : (key : ChatKey) (r : Roster) (c : Card) → (roster_after key r c).begun ≡ r.begun
still_begun SelfChat r c = refl
still_begun (Single a) r c = refl
still_begun (Group g) r c = elim (is_among r.members c.from) as (λ b. (if b then group_after_member r c else r).begun ≡ r.begun) [ true ↦ refl | false ↦ refl ]
still_begun (Thread i) r c = refl

pub begun_all : (key : ChatKey) (r : Roster) (cs : List Card) → (fold (roster_after key) r cs).begun ≡ r.begun
begun_all key r [] = refl
begun_all key r (c ∷ cs) = begun_all key (roster_after key r c) cs ∙ still_begun key r c

pub begun_first : (me : Bytes) (key : ChatKey) (c : Card) → (roster_begun me key c).begun ≡ true
begun_first me SelfChat c = refl
begun_first me (Single a) c = refl
begun_first me (Group g) c = refl
begun_first me (Thread i) c = refl

pub roster_more : (me : Bytes) (key : ChatKey) (cards : List Card) (c : Card) → roster_with me key (roster_of me key cards) c ≡ roster_of me key (cards ++ c ∷ [])
roster_more me key [] c = refl
roster_more me key (d ∷ ds) c =
    let so_far = fold (roster_after key) (roster_begun me key d) ds in
    rw (begun_all key (roster_begun me key d) ds ∙ begun_first me key d)
    (sym (fold-append (roster_after key) (roster_begun me key d) ds (c ∷ [])))
