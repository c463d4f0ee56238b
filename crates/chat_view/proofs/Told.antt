-- The last card that is shown and the number of fresh ones follow from the spots and the marks.
use Rattle.std.proofs.Common.{◌≡◌, refl, sym, ap, ◌∙◌, subst, ℕ, suc, ◌+◌, ◌<◌, Bool, true, false, cond, Option, Some, None, is_some, List, [], ◌∷◌, ◌++◌, length, get_or, map, take, arith}
use Rattle.std.specs.Prelude.{⊤, if◌then◌else◌, filter, slice_get, option_map}
use Rattle.std.specs.Option.{option_and_then, option_map_or, option_or}
use Rattle.std.proofs.lemmas.Bool.{false≢true}
use Rattle.std.proofs.lemmas.List.{length-take-le, take_more}
use Rattle.std.proofs.lemmas.List.Sums.{sum_by-cons}
use Rattle.lists.specs.Chunks.{joined}
use Rattle.lists.proofs.ChunkSteps.{joined_next}
use Rattle.card_type.specs.declared.spot.Spot.{Spot}
use Rattle.mailbox_model.specs.declared.row.Mark.{Mark}
use Rattle.mailbox_model.specs.Lists.{Bytes, last_of}
use Rattle.mailbox_model.specs.Rosters.{roster_of}
use Rattle.mailbox_model.specs.Rows.{is_new}
use Rattle.mailbox_model.specs.States.{Shown, last_spot, fresh_among}
use Rattle.group_roster.specs.declared.setters.Setters.{Setters}
use Rattle.group_roster.specs.Setters.{RestsOn}
use Rattle.chat_view.specs.declared.state.ChatState.{ChatState}
use Rattle.chat_view.specs.Changes.{IsCounted, count_new, last_shown, settled}
use Rattle.chat_view.specs.Standing.{IsMarkedFor, StandsFor, placed_at}

-- ---- the marks, from the end on

pub last_shown_more : (ms : List (Option Mark)) (m : Option Mark) → last_shown (ms ++ m ∷ []) ≡ (if is_some m then Some (length ms) else last_shown ms)
last_shown_more [] m = refl
last_shown_more (n ∷ ms) m =
    ap (λ o. option_or (option_map suc o) (if is_some n then Some 0 else None)) (last_shown_more ms m)
    ∙ elim (is_some m) as (λ b. option_or (option_map suc (if b then Some (length ms) else last_shown ms)) (if is_some n then Some 0 else None) ≡ (if b then Some (suc (length ms)) else last_shown (n ∷ ms))) [ true ↦ refl | false ↦ refl ]

-- of the marks up to one
pub last_shown_at : (ms : List (Option Mark)) (i n : ℕ) (b : Bool) → n ≡ i + 1 → i < length ms → is_some (get_or ms i None) ≡ b
    → last_shown (take n ms) ≡ (if b then Some i else last_shown (take i ms))
last_shown_at ms i n b next below is =
    ap (λ k. last_shown (take k ms)) next ∙ ap last_shown (take_more ms i None below) ∙ last_shown_more (take i ms) (get_or ms i None)
    ∙ (λ k. if is k then Some (length-take-le i ms (omega (arith, below)) k) else last_shown (take i ms))

-- ---- the marks, chunk by chunk

pub last_shown_append : (ms ns : List (Option Mark)) → last_shown (ms ++ ns) ≡ option_or (option_map (λ i. length ms + i) (last_shown ns)) (last_shown ms)
last_shown_append [] ns = none (last_shown ns)
  where
    none : (o : Option ℕ) → o ≡ option_or (option_map (λ i. 0 + i) o) None
    none None = refl
    none (Some i) = ap Some (omega arith)
last_shown_append (m ∷ ms) ns =
    ap (λ o. option_or (option_map suc o) (if is_some m then Some 0 else None)) (last_shown_append ms ns) ∙ more (last_shown ns)
  where
    more : (o : Option ℕ) → option_or (option_map suc (option_or (option_map (λ i. length ms + i) o) (last_shown ms))) (if is_some m then Some 0 else None)
        ≡ option_or (option_map (λ i. suc (length ms) + i) o) (last_shown (m ∷ ms))
    more None = refl
    more (Some i) = ap Some (omega arith)

-- an index, if it is one, is that of a mark
abbrev Within : Option ℕ → ℕ → Type 0
Within None n = ⊤
Within (Some i) n = i < n

pub last_shown_within : (ms : List (Option Mark)) (i : ℕ) → last_shown ms ≡ Some i → i < length ms
last_shown_within ms i e = subst (λ o. Within o (length ms)) e (bounded ms)
  where
    next : (m : Option Mark) (n : ℕ) (o : Option ℕ) → Within o n → Within (option_or (option_map suc o) (if is_some m then Some 0 else None)) (suc n)
    next m n (Some k) h = omega (arith, h)
    next None n None h = tt
    next (Some m) n None h = omega arith

    bounded : (ms : List (Option Mark)) → Within (last_shown ms) (length ms)
    bounded [] = tt
    bounded (m ∷ ms) = next m (length ms) (last_shown ms) (bounded ms)

-- all up to a chunk, and that chunk
pub joined_up_to : (mss : List (List (Option Mark))) (i n : ℕ) → n ≡ i + 1 → i < length mss → joined (take n mss) ≡ joined (take i mss) ++ get_or mss i []
joined_up_to mss i n next below = ap (λ k. joined (take k mss)) next ∙ joined_next mss i below

pub last_shown_in : (mss : List (List (Option Mark))) (i n : ℕ) → n ≡ i + 1 → i < length mss
    → last_shown (joined (take n mss)) ≡ option_or (option_map (λ k. length (joined (take i mss)) + k) (last_shown (get_or mss i []))) (last_shown (joined (take i mss)))
last_shown_in mss i n next below = ap last_shown (joined_up_to mss i n next below) ∙ last_shown_append (joined (take i mss)) (get_or mss i [])

-- ---- of the cards

abbrev spots_of : List Shown → List Spot
spots_of cards = map (λ c. c.spot) cards

abbrev marks_of : List Shown → List (Option Mark)
marks_of cards = map (λ c. c.mark) cards

-- the cards that are shown
abbrev kept : List Shown → List Shown
kept cards = filter (λ c. is_some c.mark) cards

some_shown : (cards : List Shown) → is_some (last_shown (marks_of cards)) ≡ is_some (last_of (kept cards))
some_shown [] = refl
some_shown (c ∷ more) =
    elim (is_some c.mark) as (λ b. is_some (option_or (option_map suc (last_shown (marks_of more))) (if b then Some 0 else None)) ≡ is_some (last_of (cond b (c ∷ kept more) (kept more)))) [
      | true ↦ here (last_shown (marks_of more)) (last_of (kept more))
      | false ↦ later (last_shown (marks_of more)) ∙ some_shown more
    ]
  where
    here : (i : Option ℕ) (last : Option Shown) → is_some (option_or (option_map suc i) (Some 0)) ≡ is_some (option_or last (Some c))
    here None None = refl
    here None (Some d) = refl
    here (Some i) None = refl
    here (Some i) (Some d) = refl

    later : (i : Option ℕ) → is_some (option_or (option_map suc i) None) ≡ is_some i
    later None = refl
    later (Some i) = refl

told_last : (cards : List Shown) → option_and_then (slice_get (spots_of cards)) (last_shown (marks_of cards)) ≡ last_spot cards
told_last [] = refl
told_last (c ∷ more) =
    elim (is_some c.mark) as (λ b. option_and_then (slice_get (c.spot ∷ spots_of more)) (option_or (option_map suc (last_shown (marks_of more))) (if b then Some 0 else None)) ≡ option_map (λ c. c.spot) (last_of (cond b (c ∷ kept more) (kept more)))) [
      | true ↦ here (last_shown (marks_of more)) (last_of (kept more)) (told_last more) (some_shown more)
      | false ↦ later (last_shown (marks_of more)) ∙ told_last more
    ]
  where
    here : (i : Option ℕ) (last : Option Shown) → option_and_then (slice_get (spots_of more)) i ≡ option_map (λ c. c.spot) last
        → is_some i ≡ is_some last
        → option_and_then (slice_get (c.spot ∷ spots_of more)) (option_or (option_map suc i) (Some 0)) ≡ option_map (λ c. c.spot) (option_or last (Some c))
    here None None h e = refl
    here None (Some d) h e = absurd (false≢true e)
    here (Some i) None h e = absurd (false≢true (sym e))
    here (Some i) (Some d) h e = h

    later : (i : Option ℕ) → option_and_then (slice_get (c.spot ∷ spots_of more)) (option_or (option_map suc i) None) ≡ option_and_then (slice_get (spots_of more)) i
    later None = refl
    later (Some i) = refl

told_fresh : (cards : List Shown) → count_new (marks_of cards) ≡ fresh_among cards
told_fresh [] = refl
told_fresh (c ∷ more) =
    sum_by-cons (λ n. cond (option_map_or is_new n false) 1 0) c.mark (marks_of more)
    ∙ ap (λ n. cond (option_map_or is_new c.mark false) 1 0 + n) (told_fresh more)
    ∙ sym (sum_by-cons (λ c. cond (option_map_or is_new c.mark false) 1 0) c more)

pub counted : (cards : List Shown) (s : ChatState) → IsMarkedFor cards s → IsCounted s
counted cards s is = is.fresh ∙ sym (told_fresh cards) ∙ ap count_new (sym is.marks)

-- ---- the cards of a roster and of its setters

pub cards_same : (cards : List Shown) → map (λ a. a.card) (placed_at cards) ≡ map (λ c. c.card) cards
cards_same [] = refl
cards_same (c ∷ more) = ap (λ cs. c.card ∷ cs) (cards_same more)

pub spots_same : (cards : List Shown) → map (λ a. a.spot) (placed_at cards) ≡ map (λ c. c.spot) cards
spots_same [] = refl
spots_same (c ∷ more) = ap (λ cs. c.spot ∷ cs) (spots_same more)

pub rests_on : (me : Bytes) (cards : List Shown) (s : ChatState) → StandsFor me cards s → RestsOn me s.key (placed_at cards) s.roster s.setters
rests_on me cards s is =
    record { roster = ap (λ t. t.roster) is ∙ ap (roster_of me s.key) (sym (cards_same cards)); setters = ap (λ t. t.setters) is }

-- ---- a state that stands for cards, and one that is marked for them alone

pub marked_from : (me : Bytes) (cards : List Shown) (s : ChatState) → StandsFor me cards s → IsMarkedFor cards s
marked_from me cards s is =
    record { spots = ap (λ t. t.spots) is; marks = ap (λ t. t.marks) is; last = ap (λ t. t.last) is; fresh = ap (λ t. t.fresh) is }

-- it stands for them where its roster and its setters rest on them
pub stands_from : (me : Bytes) (cards : List Shown) (s : ChatState) → IsMarkedFor cards s → RestsOn me s.key (placed_at cards) s.roster s.setters
    → StandsFor me cards s
stands_from me cards s is rests =
    let roster = rests.roster ∙ ap (roster_of me s.key) (cards_same cards) in
    λ k. record { key = s.key; spots = is.spots k; marks = is.marks k; roster = roster k; setters = rests.setters k; last = is.last k; fresh = is.fresh k }

-- whatever its setters
pub kept_marks : (cards : List Shown) (s : ChatState) (setters : Setters) → IsMarkedFor cards s → IsMarkedFor cards (record s { setters = setters })
kept_marks cards s setters is = record { spots = is.spots; marks = is.marks; last = is.last; fresh = is.fresh }

-- a state whose spots and marks are those of some cards, and the rest told of them
pub settled_marked : (cards : List Shown) (spots : List Spot) (marks : List (Option Mark)) (s : ChatState)
    → spots ≡ map (λ c. c.spot) cards → marks ≡ map (λ c. c.mark) cards → IsMarkedFor cards (settled spots marks s)
settled_marked cards spots marks s spots_are marks_are =
    record {
      spots = spots_are;
      marks = marks_are;
      last = (λ k. option_and_then (slice_get (spots_are k)) (last_shown (marks_are k))) ∙ told_last cards;
      fresh = ap count_new marks_are ∙ told_fresh cards;
    }
