-- What acts on a card: those that name it, each of the present cards at most once, in their order.
use Rattle.std.proofs.Common.{◌≡◌, refl, sym, ap, ◌∙◌, ℕ, ◌<◌, ◌≤◌, Bool, true, false, cond, Option, Some, None, List, [], ◌∷◌, map, arith, ◌⊎◌, inl, inr}
use Rattle.std.specs.Prelude.{if◌then◌else◌, ◌&&◌, filter, sum_by, nat_le, IfSome}
use Rattle.std.specs.List.{AllByRecursion, IsDistinct, cons_option}
use Rattle.std.specs.Option.{option_map, option_map_or}
use Rattle.std.proofs.lemmas.Bool.{le-leb, lt-leb}
use Rattle.std.proofs.lemmas.List.Sums.{sum_by-cons}
use Rattle.card_type.specs.declared.card.Card.{Card}
use Rattle.card_type.specs.declared.effect.Effect.{Effect}
use Rattle.card_type.specs.Effects.{effect_by, effect_of, is_among, names}
use Rattle.card_type.specs.Kinds.{kind_of, is_content}
use Rattle.mailbox_model.specs.Lists.{Bytes}
use Rattle.mailbox_model.specs.Present.{Placed, Mail}
use Rattle.mailbox_model.specs.Rows.{Act, act_on, acts_on, acting_by, is_effect, naming, expiry, is_expired}

-- ---- only what names a card acts on it

module _ (me : Bytes) (t : Card) where
  no_act : (e : Placed) → is_among (names e.card) t.id ≡ false → act_on me t e ≡ None
  no_act e k =
      ap (λ b. option_map made (if is_content (kind_of t) && b then effect_by (kind_of e.card) e.card t me else None)) k ∙ none (is_content (kind_of t))
    where
      made : Effect → Act
      made effect = record { effect = effect; by = e }

      none : (b : Bool) → option_map made (if b && false then effect_by (kind_of e.card) e.card t me else None) ≡ None
      none true = refl
      none false = refl

  pub naming_enough : (es : List Placed) → acts_on me t (naming t.id es) ≡ acts_on me t es
  naming_enough [] = refl
  naming_enough (e ∷ es) = by (is_among (names e.card) t.id) refl (naming_enough es)
    where
      by : (b : Bool) → is_among (names e.card) t.id ≡ b → acts_on me t (naming t.id es) ≡ acts_on me t es
          → acts_on me t (cond b (e ∷ naming t.id es) (naming t.id es)) ≡ acts_on me t (e ∷ es)
      by true k h = ap (cons_option (act_on me t e)) h
      by false k h = h ∙ sym (ap (λ o. cons_option o (acts_on me t es)) (no_act e k))

  -- ---- those that act in one way are some of all, in their order

  module _ (effect : Effect) where
    abbrev act : Placed → Option Effect → List Act → List Act
    act e o acts = cons_option (option_map (λ effect. record { effect = effect; by = e }) o) acts

    -- by cases on what the first one does
    acting_cons : (P : List Placed → Type 0) (e : Placed) (acts : List Act) → P (acting_by effect acts)
        → P (e ∷ acting_by effect acts) → (o : Option Effect) → P (acting_by effect (act e o acts))
    acting_cons P e acts without with None = without
    acting_cons P e acts without with (Some x) = elim (is_effect effect x) as (λ b. P (map (λ a. a.by) (cond b (record { effect = x; by = e } ∷ filter (λ a. is_effect effect a.effect) acts) (filter (λ a. is_effect effect a.effect) acts)))) [ true ↦ with | false ↦ without ]

    pub All-acting : (P : Placed → Type 0) (es : List Placed) → AllByRecursion P es
        → AllByRecursion P (acting_by effect (acts_on me t es))
    All-acting P [] a = tt
    All-acting P (e ∷ es) a =
        let rest = All-acting P es a.1 in
        acting_cons (AllByRecursion P) e (acts_on me t es) rest (a.0, rest) (effect_of e.card t me)

    pub IsDistinct-acting : (same : Placed → Placed → Bool) (es : List Placed) → IsDistinct same es
        → IsDistinct same (acting_by effect (acts_on me t es))
    unfolding IsDistinct
    IsDistinct-acting same [] d = tt
    IsDistinct-acting same (e ∷ es) d =
        let rest = IsDistinct-acting same es d.1 in
        acting_cons (IsDistinct same) e (acts_on me t es) rest (All-acting (λ x. same e x ≡ false) es d.0, rest) (effect_of e.card t me)

    pub sum_by-acting : (f : Placed → ℕ) (es : List Placed) → sum_by f (acting_by effect (acts_on me t es)) ≤ sum_by f es
    sum_by-acting f [] = omega arith
    sum_by-acting f (e ∷ es) =
        let acting = acting_by effect (acts_on me t es) in
        let rest = sum_by-acting f es in
        let whole = sum_by-cons f e es in
        acting_cons (λ xs. sum_by f xs ≤ sum_by f (e ∷ es)) e (acts_on me t es) (omega (arith, rest, whole)) (omega (arith, rest, whole, sum_by-cons f e acting)) (effect_of e.card t me)

-- ---- as time goes on, only a deadline that is reached makes a difference

pub still_unexpired : (me : Bytes) (now later : ℕ) (t : Mail) → now ≤ later
    → IfSome (expiry me t) (λ end. (end ≤ now) ⊎ (later < end)) → is_expired me now t ≡ is_expired me later t
still_unexpired me now later t le away = by (expiry me t) away
  where
    by : (o : Option ℕ) → IfSome o (λ end. (end ≤ now) ⊎ (later < end))
        → option_map_or (λ end. nat_le end now) o false ≡ option_map_or (λ end. nat_le end later) o false
    by None h = refl
    by (Some end) h = elim h [
      | inl over ↦ le-leb end now over ∙ sym (le-leb end later (omega (arith, over, le)))
      | inr ahead ↦ lt-leb end now (omega (arith, ahead, le)) ∙ sym (lt-leb end later ahead)
    ]
