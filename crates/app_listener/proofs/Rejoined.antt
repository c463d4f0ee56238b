-- Rows that are numbered in their order: those that two lists have in common, and the others of the second, make the second.
use Rattle.std.proofs.Common.{◌≡◌, refl, sym, ap, subst, ◌∙◌, add-zero, ℕ, suc, ◌+◌, ◌<◌, ◌≤◌, max, Bool, true, false, cond, List, [], ◌∷◌, ◌++◌, map, take, arith}
use Rattle.std.specs.Prelude.{nat_lt}
use Rattle.std.specs.List.{AllByRecursion, common_prefix_len}
use Rattle.std.proofs.lemmas.Bool.{lt-ltb, le-ltb, le-leb, lt-leb, ltb-true, ltb-false}
use Rattle.mailbox_model.specs.declared.row.UpdateRow.{UpdateRow}
use Rattle.app_listener.specs.Hearing.{is_origin, origin, up_to, wanted_over}

-- their serials follow on j
abbrev pub Follow : ℕ → List UpdateRow → Type 0
Follow j [] = Unit {0}
Follow j (row ∷ rows) = (row.serial ≡ j + 1) × Follow (j + 1) rows

follow_over : (low j : ℕ) (rows : List UpdateRow) → low ≤ j → Follow j rows → AllByRecursion (λ row. low < row.serial) rows
follow_over low j [] h f = tt
follow_over low j (row ∷ rows) h f = (omega (arith, h, f.0), follow_over low (j + 1) rows (omega (arith, h)) f.1)

-- the first of some rows is picked or passed over
module _ (wanted : UpdateRow → Bool) (serial : ℕ) (row : UpdateRow) (rows : List UpdateRow) where
  first_wanted : serial < row.serial → wanted row ≡ true → wanted_over wanted serial (row ∷ rows) ≡ row ∷ wanted_over wanted serial rows
  first_wanted h k = rw (lt-ltb serial row.serial h, k) refl

  first_unwanted : wanted row ≡ false → wanted_over wanted serial (row ∷ rows) ≡ wanted_over wanted serial rows
  first_unwanted k = by (nat_lt serial row.serial) refl
    where
      by : (o : Bool) → nat_lt serial row.serial ≡ o → wanted_over wanted serial (row ∷ rows) ≡ wanted_over wanted serial rows
      by true h = rw (h, k) refl
      by false h = rw h refl

  first_under : row.serial ≤ serial → wanted_over wanted serial (row ∷ rows) ≡ wanted_over wanted serial rows
  first_under h = rw (le-ltb serial row.serial h) refl

first_kept : (to : ℕ) (row : UpdateRow) (rows : List UpdateRow) → row.serial ≤ to → up_to to (row ∷ rows) ≡ row ∷ up_to to rows
first_kept to row rows h = rw (le-leb row.serial to h) refl

first_dropped : (to : ℕ) (row : UpdateRow) (rows : List UpdateRow) → to < row.serial → up_to to (row ∷ rows) ≡ up_to to rows
first_dropped to row rows h = rw (lt-leb row.serial to h) refl

-- what is held of the one list, and what is heard of the other, is what is wanted of that
abbrev pub Rejoins : (UpdateRow → Bool) → ℕ → ℕ → List UpdateRow → List UpdateRow → Type 0
Rejoins wanted from to before now = up_to to (wanted_over wanted from before) ++ wanted_over wanted to now ≡ wanted_over wanted from now

-- the wanted ones over from are held
module _ (wanted : UpdateRow → Bool) (from : ℕ) where
  -- where all have a serial over j, going back to j drops all of them, and all are heard
  none_left : (j : ℕ) (rows : List UpdateRow) → AllByRecursion (λ row. j < row.serial) rows → up_to (max from j) (wanted_over wanted from rows) ≡ []
  none_left j [] a = refl
  none_left j (row ∷ rows) a = by (nat_lt from row.serial) (wanted row) refl refl (none_left j rows a.1)
    where
      by : (o w : Bool) → nat_lt from row.serial ≡ o → wanted row ≡ w → up_to (max from j) (wanted_over wanted from rows) ≡ []
          → up_to (max from j) (wanted_over wanted from (row ∷ rows)) ≡ []
      by true true h k rest =
          let over = ltb-true from row.serial h in
          ap (up_to (max from j)) (first_wanted wanted from row rows over k)
          ∙ first_dropped (max from j) row (wanted_over wanted from rows) (omega (arith, a.0, over)) ∙ rest
      by true false h k rest = ap (up_to (max from j)) (first_unwanted wanted from row rows k) ∙ rest
      by false w h k rest = ap (up_to (max from j)) (first_under wanted from row rows (ltb-false from row.serial h)) ∙ rest

  all_heard : (j : ℕ) (rows : List UpdateRow) → AllByRecursion (λ row. j < row.serial) rows → wanted_over wanted (max from j) rows ≡ wanted_over wanted from rows
  all_heard j [] a = refl
  all_heard j (row ∷ rows) a = by (nat_lt from row.serial) (wanted row) refl refl (all_heard j rows a.1)
    where
      by : (o w : Bool) → nat_lt from row.serial ≡ o → wanted row ≡ w → wanted_over wanted (max from j) rows ≡ wanted_over wanted from rows
          → wanted_over wanted (max from j) (row ∷ rows) ≡ wanted_over wanted from (row ∷ rows)
      by true true h k rest =
          let over = ltb-true from row.serial h in
          first_wanted wanted (max from j) row rows (omega (arith, a.0, over)) k ∙ ap (λ more. row ∷ more) rest ∙ sym (first_wanted wanted from row rows over k)
      by true false h k rest = first_unwanted wanted (max from j) row rows k ∙ rest ∙ sym (first_unwanted wanted from row rows k)
      by false w h k rest =
          let under = ltb-false from row.serial h in
          first_under wanted (max from j) row rows (omega (arith, under)) ∙ rest ∙ sym (first_under wanted from row rows under)

  -- one that is in both, and that it does not go back over
  same_row : (to : ℕ) (row : UpdateRow) (before now : List UpdateRow) → row.serial ≤ to
      → up_to to (wanted_over wanted from before) ++ wanted_over wanted to now ≡ wanted_over wanted from now
      → up_to to (wanted_over wanted from (row ∷ before)) ++ wanted_over wanted to (row ∷ now) ≡ wanted_over wanted from (row ∷ now)
  same_row to row before now within rest = by (nat_lt from row.serial) (wanted row) refl refl
    where
      unheard : wanted_over wanted to (row ∷ now) ≡ wanted_over wanted to now
      unheard = first_under wanted to row now within

      by : (o w : Bool) → nat_lt from row.serial ≡ o → wanted row ≡ w
          → up_to to (wanted_over wanted from (row ∷ before)) ++ wanted_over wanted to (row ∷ now) ≡ wanted_over wanted from (row ∷ now)
      by true true h k =
          let over = ltb-true from row.serial h in
          let held = ap (up_to to) (first_wanted wanted from row before over k) ∙ first_kept to row (wanted_over wanted from before) within in
          (λ i. held i ++ unheard i) ∙ ap (λ more. row ∷ more) rest ∙ sym (first_wanted wanted from row now over k)
      by true false h k =
          (λ i. up_to to (first_unwanted wanted from row before k i) ++ unheard i) ∙ rest ∙ sym (first_unwanted wanted from row now k)
      by false w h k =
          let under = ltb-false from row.serial h in
          (λ i. up_to to (first_under wanted from row before under i) ++ unheard i) ∙ rest ∙ sym (first_under wanted from row now under)

  -- where nothing is in both
  apart : (j : ℕ) (before now : List UpdateRow) → Follow j before → Follow j now
      → up_to (max from j) (wanted_over wanted from before) ++ wanted_over wanted (max from j) now ≡ wanted_over wanted from now
  apart j before now f g =
      ap (λ left. left ++ wanted_over wanted (max from j) now) (none_left j before (follow_over j j before (omega arith) f)) ∙ all_heard j now (follow_over j j now (omega arith) g)

-- ---- what two lists have in common

-- where updates with one serial and one origin are one
module _ (BeforeIs NowIs : UpdateRow → Type 0)
    (one : (a b : UpdateRow) → BeforeIs a → NowIs b → a.serial ≡ b.serial → is_origin (origin a) b ≡ true → a ≡ b) where
  pub common_is_same : (j : ℕ) (before now : List UpdateRow) → Follow j before → Follow j now → AllByRecursion BeforeIs before → AllByRecursion NowIs now
      → let count = common_prefix_len is_origin (map origin before) now in take count before ≡ take count now
  common_is_same j [] now f g a b = refl
  common_is_same j (x ∷ before) [] f g a b = refl
  common_is_same j (x ∷ before) (y ∷ now) f g a b = by (is_origin (origin x) y) refl (common_is_same (j + 1) before now f.1 g.1 a.1 b.1)
    where
      count : ℕ
      count = common_prefix_len is_origin (map origin before) now

      by : (o : Bool) → is_origin (origin x) y ≡ o → take count before ≡ take count now
          → take (cond o (1 + count) 0) (x ∷ before) ≡ take (cond o (1 + count) 0) (y ∷ now)
      by true h rest =
          let same = one x y a.0 b.0 (f.0 ∙ sym g.0) h in
          let next : suc count ≡ 1 + count = omega arith in
          subst (λ n. take n (x ∷ before) ≡ take n (y ∷ now)) next (λ i. same i ∷ rest i)
      by false h rest = refl

  pub rejoined : (wanted : UpdateRow → Bool) (from j : ℕ) (before now : List UpdateRow) → Follow j before → Follow j now
      → AllByRecursion BeforeIs before → AllByRecursion NowIs now
      → Rejoins wanted from (max from (j + common_prefix_len is_origin (map origin before) now)) before now
  rejoined wanted from j [] now f g a b = subst (λ n. Rejoins wanted from (max from n) [] now) (sym (add-zero j)) (apart wanted from j [] now f g)
  rejoined wanted from j (x ∷ before) [] f g a b = subst (λ n. Rejoins wanted from (max from n) (x ∷ before) []) (sym (add-zero j)) (apart wanted from j (x ∷ before) [] f g)
  rejoined wanted from j (x ∷ before) (y ∷ now) f g a b = by (is_origin (origin x) y) refl (rejoined wanted from (j + 1) before now f.1 g.1 a.1 b.1)
    where
      count : ℕ
      count = common_prefix_len is_origin (map origin before) now

      by : (o : Bool) → is_origin (origin x) y ≡ o → Rejoins wanted from (max from (j + 1 + count)) before now
          → Rejoins wanted from (max from (j + cond o (1 + count) 0)) (x ∷ before) (y ∷ now)
      by true h rest =
          let to = max from (j + (1 + count)) in
          let further : j + 1 + count ≡ j + (1 + count) = omega arith in
          let both = same_row wanted from to y before now (omega (arith, g.0)) (subst (λ n. Rejoins wanted from (max from n) before now) further rest) in
          subst (λ row. Rejoins wanted from to (row ∷ before) (y ∷ now)) (sym (one x y a.0 b.0 (f.0 ∙ sym g.0) h)) both
      by false h rest = subst (λ n. Rejoins wanted from (max from n) (x ∷ before) (y ∷ now)) (sym (add-zero j)) (apart wanted from j (x ∷ before) (y ∷ now) f g)
