-- The addresses of a page.
use Rattle.std.proofs.Common.{◌≡◌, refl, sym, ap, ◌∙◌, subst, ℕ, Bool, true, false, not, ◌&&◌, cond, Some, List, [], ◌∷◌, ◌++◌, map, nat_lt}
use Rattle.std.specs.Prelude.{filter, unwrap_or}
use Rattle.std.specs.List.{AllByRecursion}
use Rattle.std.specs.List.Sorted.{IsStrictlySortedBy}
use Rattle.std.specs.Map.{lookup}
use Rattle.std.specs.Ordering.{nat_cmp, is_eq}
use Rattle.std.specs.declared.cmp.Ordering.TheVariants.{Less}
use Rattle.std.specs.Cmp.Lexicographic.{slice_cmp, bytes_decides}
use Rattle.std.specs.Str.{bytes_eq}
use Rattle.std.proofs.lemmas.List.{map-append}
use Rattle.std.proofs.lemmas.List.Elements.{filter-append}
use Rattle.std.proofs.lemmas.Map.Text.{is_eq-slice_cmp}
use Rattle.card_type.specs.Effects.{is_among}
use Rattle.mailbox_model.specs.Lists.{Bytes}
use Rattle.contacts.specs.Kept.{Kept, mentions_at, shown_name, contact_row}

-- an entry is mentioned and is another's
abbrev pub passes : Bytes → Bytes × ℕ → Bool
passes me e = nat_lt 0 e.1 && not (bytes_eq me e.0)

-- the addresses that are mentioned but for one
abbrev pub mentioned_but : Bytes → List (Bytes × ℕ) → List Bytes
mentioned_but me es = map (λ e. e.0) (filter (passes me) es)

pub one_passes : (me : Bytes) (es : List (Bytes × ℕ)) (e : Bytes × ℕ) → passes me e ≡ true → mentioned_but me (es ++ e ∷ []) ≡ mentioned_but me es ++ e.0 ∷ []
one_passes me es e h =
    ap (map (λ e. e.0)) (filter-append (passes me) es (e ∷ []) ∙ rw h refl) ∙ map-append (λ e. e.0) (filter (passes me) es) (e ∷ [])

pub none_passes : (me : Bytes) (es : List (Bytes × ℕ)) (e : Bytes × ℕ) → passes me e ≡ false → mentioned_but me (es ++ e ∷ []) ≡ mentioned_but me es
none_passes me es e h =
    ap (map (λ e. e.0)) (filter-append (passes me) es (e ∷ []) ∙ rw h (append_none (filter (passes me) es)))
  where
    append_none : (fs : List (Bytes × ℕ)) → fs ++ [] ≡ fs
    append_none [] = refl
    append_none (f ∷ fs) = ap (λ gs. f ∷ gs) (append_none fs)

abbrev Below : Bytes → List Bytes → Type 0
Below x ys = AllByRecursion (λ y. slice_cmp nat_cmp x y ≡ Less) ys

below_mentioned : (me x : Bytes) (es : List (Bytes × ℕ)) → Below x (map (λ e. e.0) es) → Below x (mentioned_but me es)
below_mentioned me x [] b = tt
below_mentioned me x (e ∷ es) b =
    elim (passes me e) as (λ p. Below x (map (λ e. e.0) (cond p (e ∷ filter (passes me) es) (filter (passes me) es)))) [
      | true ↦ (b.0, below_mentioned me x es b.1)
      | false ↦ below_mentioned me x es b.1
    ]

pub in_order : (me : Bytes) (es : List (Bytes × ℕ)) → IsStrictlySortedBy (slice_cmp nat_cmp) (map (λ e. e.0) es)
    → IsStrictlySortedBy (slice_cmp nat_cmp) (mentioned_but me es)
unfolding IsStrictlySortedBy
in_order me [] s = tt
in_order me (e ∷ es) s =
    elim (passes me e) as (λ p. IsStrictlySortedBy (slice_cmp nat_cmp) (map (λ e. e.0) (cond p (e ∷ filter (passes me) es) (filter (passes me) es)))) [
      | true ↦ (below_mentioned me e.0 es s.0, in_order me es s.1)
      | false ↦ in_order me es s.1
    ]

not_among : (x : Bytes) (ys : List Bytes) → Below x ys → is_among ys x ≡ false
not_among x [] b = refl
not_among x (y ∷ ys) b = rw (sym (is_eq-slice_cmp x y) ∙ ap is_eq b.0) (not_among x ys b.1)

pub all_mentioned : (me : Bytes) (es : List (Bytes × ℕ)) (q : Bytes) → IsStrictlySortedBy (slice_cmp nat_cmp) (map (λ e. e.0) es)
    → is_among (mentioned_but me es) q ≡ (nat_lt 0 (mentions_at es q) && not (bytes_eq me q))
unfolding IsStrictlySortedBy
all_mentioned me [] q s = refl
all_mentioned me (e ∷ es) q s =
    elim (bytes_eq q e.0) as (λ b. bytes_eq q e.0 ≡ b → is_among (mentioned_but me (e ∷ es)) q ≡ (nat_lt 0 (unwrap_or (cond b (Some e.1) (lookup (bytes_eq q) es)) 0) && not (bytes_eq me q))) [
      | true ↦ λ h. let same : q ≡ e.0 = (bytes_decides q e.0).0 h in
          subst (λ x. is_among (mentioned_but me (e ∷ es)) x ≡ (nat_lt 0 e.1 && not (bytes_eq me x))) (sym same) first
      | false ↦ λ h. rest h ∙ all_mentioned me es q s.1
    ] refl
  where
    first : is_among (mentioned_but me (e ∷ es)) e.0 ≡ passes me e
    first =
        elim (passes me e) as (λ p. is_among (map (λ e. e.0) (cond p (e ∷ filter (passes me) es) (filter (passes me) es))) e.0 ≡ p) [
          | true ↦ rw ((bytes_decides e.0 e.0).1 refl) refl
          | false ↦ not_among e.0 (mentioned_but me es) (below_mentioned me e.0 es s.0)
        ]

    rest : bytes_eq q e.0 ≡ false → is_among (mentioned_but me (e ∷ es)) q ≡ is_among (mentioned_but me es) q
    rest h =
        elim (passes me e) as (λ p. is_among (map (λ e. e.0) (cond p (e ∷ filter (passes me) es) (filter (passes me) es))) q ≡ is_among (mentioned_but me es) q) [
          | true ↦ rw h refl
          | false ↦ refl
        ]

-- ---- the rows of addresses

pub addrs_of : (kept : Kept) (addrs : List Bytes) → map (λ row. row.addr) (map (contact_row kept) addrs) ≡ addrs
addrs_of kept [] = refl
addrs_of kept (addr ∷ addrs) = ap (λ others. addr ∷ others) (addrs_of kept addrs)

pub names_are : (kept : Kept) (addrs : List Bytes) → AllByRecursion (λ row. row.name ≡ shown_name kept row.addr) (map (contact_row kept) addrs)
names_are kept [] = tt
names_are kept (addr ∷ addrs) = (refl, names_are kept addrs)
