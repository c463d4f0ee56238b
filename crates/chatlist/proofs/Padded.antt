-- Edits of the dates of chats, of which those that are none come last.
use Rattle.std.proofs.Common.{◌≡◌, ◌<◌, ◌≤◌, refl, sym, ap, ap₂, ◌∙◌, subst, ◌-◌, ℕ, zero, suc, Option, Some, None, List, [], ◌∷◌, length, take, drop, get_or, slice_get, is_some, true, false, arith}
use Rattle.std.specs.List.{AllByRecursion, insert, remove}
use Rattle.std.proofs.lemmas.Bool.{false≢true}
use Rattle.std.proofs.lemmas.List.Edits.{length-insert}
use Rattle.chatlist.specs.Dates.{padded, IsDateFit}

pub length_padded : (ds : List ℕ) (n : ℕ) → length (padded ds n) ≡ n
unfolding padded
length_padded ds zero = refl
length_padded [] (suc n) = ap suc (length_padded [] n)
length_padded (d ∷ ds) (suc n) = ap suc (length_padded ds n)

pub padded_at : (ds : List ℕ) (n i : ℕ) (v : Option ℕ) → i < n → get_or (padded ds n) i v ≡ slice_get ds i
unfolding padded
padded_at ds zero i v within = absurd (omega arith)
padded_at [] (suc n) zero v within = refl
padded_at [] (suc n) (suc i) v within = padded_at [] n i v (omega arith)
padded_at (d ∷ ds) (suc n) zero v within = refl
padded_at (d ∷ ds) (suc n) (suc i) v within = padded_at ds n i v (omega arith)

-- those up to an index are known
pub all_known : (ds : List ℕ) (n i : ℕ) → i ≤ n → AllByRecursion (λ d. is_some d ≡ true) (take i (padded ds n)) → i ≤ length ds
unfolding padded
all_known ds n zero within all = omega arith
all_known ds zero (suc i) within all = absurd (omega arith)
all_known [] (suc n) (suc i) within all = absurd (false≢true all.0)
all_known (d ∷ ds) (suc n) (suc i) within all = let rest = all_known ds n i (omega arith) all.1 in omega arith

-- and those from it on are not
pub none_known : (ds : List ℕ) (n i : ℕ) → length ds ≤ n → AllByRecursion (λ d. is_some d ≡ false) (drop i (padded ds n)) → length ds ≤ i
unfolding padded
none_known [] n i within none = omega arith
none_known (d ∷ ds) zero i within none = absurd (omega arith)
none_known (d ∷ ds) (suc n) zero within none = absurd (false≢true (sym none.0))
none_known (d ∷ ds) (suc n) (suc i) within none = let rest = none_known ds n i (omega arith) none in omega arith

-- ---- edits

-- there is nothing to take out past the end
pub none_taken : (ds : List ℕ) (i : ℕ) → length ds ≤ i → remove ds i ≡ ds
none_taken [] zero past = refl
none_taken [] (suc i) past = refl
none_taken (d ∷ ds) zero past = absurd (omega arith)
none_taken (d ∷ ds) (suc i) past = ap (λ es. d ∷ es) (none_taken ds i (omega arith))

pub put_known : (ds : List ℕ) (n i d : ℕ) → i ≤ length ds → i ≤ n → padded (insert ds i d) (suc n) ≡ insert (padded ds n) i (Some d)
unfolding padded
put_known ds n zero d known within = refl
put_known [] n (suc i) d known within = absurd (omega arith)
put_known (e ∷ ds) zero (suc i) d known within = absurd (omega arith)
put_known (e ∷ ds) (suc n) (suc i) d known within = ap (λ es. Some e ∷ es) (put_known ds n i d (omega arith) (omega arith))

pub put_none : (ds : List ℕ) (n i : ℕ) → length ds ≤ i → i ≤ n → padded ds (suc n) ≡ insert (padded ds n) i None
unfolding padded
put_none [] n zero known within = refl
put_none [] zero (suc i) known within = absurd (omega arith)
put_none [] (suc n) (suc i) known within = ap (λ es. None ∷ es) (put_none [] n i (omega arith) (omega arith))
put_none (d ∷ ds) n zero known within = absurd (omega arith)
put_none (d ∷ ds) zero (suc i) known within = absurd (omega arith)
put_none (d ∷ ds) (suc n) (suc i) known within = ap (λ es. Some d ∷ es) (put_none ds n i (omega arith) (omega arith))

pub take_known : (ds : List ℕ) (n i : ℕ) → i ≤ n → padded (remove ds i) n ≡ remove (padded ds (suc n)) i
unfolding padded
take_known [] n zero within = refl
take_known [] zero (suc i) within = absurd (omega arith)
take_known [] (suc n) (suc i) within = ap (λ es. None ∷ es) (ap (λ es. padded es n) (sym (none_taken [] i (omega arith))) ∙ take_known [] n i (omega arith))
take_known (d ∷ ds) n zero within = refl
take_known (d ∷ ds) zero (suc i) within = absurd (omega arith)
take_known (d ∷ ds) (suc n) (suc i) within = ap (λ es. Some d ∷ es) (take_known ds n i (omega arith))

few_left : (ds : List ℕ) (i n : ℕ) → length ds ≤ suc n → i ≤ n → length (remove ds i) ≤ n
few_left [] zero n few within = omega arith
few_left [] (suc i) n few within = omega arith
few_left (d ∷ ds) zero n few within = omega (arith, few)
few_left (d ∷ ds) (suc i) zero few within = absurd (omega arith)
few_left (d ∷ ds) (suc i) (suc n) few within = let rest = few_left ds i n (omega arith) (omega arith) in omega arith

-- ---- one date is put in at an index

module _ (ds : List ℕ) (n i : ℕ) (few : length ds ≤ n) (within : i ≤ n) where
  pub fits_known : (d : ℕ) → IsDateFit (Some d) i (padded ds n) → i ≤ length ds
  fits_known d fit = all_known ds n i within (fit.known refl)

  pub fits_none : IsDateFit None i (padded ds n) → length ds ≤ i
  fits_none fit = none_known ds n i few (fit.none refl)

-- ---- one date is taken out

module _ (ds : List ℕ) (n m i : ℕ) (next : n ≡ suc m) (within : i < n) where
  pub taken : padded (remove ds i) m ≡ remove (padded ds n) i
  taken = take_known ds m i (omega arith) ∙ ap (λ k. remove (padded ds k) i) (sym next)

  pub left : length ds ≤ n → length (remove ds i) ≤ m
  left few = few_left ds i m (omega arith) (omega arith)

-- ---- one date is taken out, and another one put in

module _ (ds : List ℕ) (n from to : ℕ) (few : length ds ≤ n) (from_in : from < n) (to_in : to < n) where
  next : n ≡ suc (n - 1)
  next = omega arith

  abbrev rest : List ℕ
  rest = remove ds from

  gone : padded rest (n - 1) ≡ remove (padded ds n) from
  gone = taken ds n (n - 1) from next from_in

  most : length rest ≤ n - 1
  most = left ds n (n - 1) from next from_in few

  pub turns_known : (d : ℕ) → IsDateFit (Some d) to (remove (padded ds n) from) → to ≤ length rest
  turns_known d fit = fits_known rest (n - 1) to most (omega arith) d (subst (IsDateFit (Some d) to) (sym gone) fit)

  turns_none : IsDateFit None to (remove (padded ds n) from) → length rest ≤ to
  turns_none fit = fits_none rest (n - 1) to most (omega arith) (subst (IsDateFit None to) (sym gone) fit)

  module _ (es : List ℕ) where
    pub turned_known : (d : ℕ) → IsDateFit (Some d) to (remove (padded ds n) from) → es ≡ insert rest to d → padded es n ≡ insert (remove (padded ds n) from) to (Some d)
    turned_known d fit is = ap₂ padded is next ∙ put_known rest (n - 1) to d (turns_known d fit) (omega arith) ∙ ap (λ vs. insert vs to (Some d)) gone

    pub few_turned : (d : ℕ) → IsDateFit (Some d) to (remove (padded ds n) from) → es ≡ insert rest to d → length es ≤ n
    few_turned d fit is =
        let longer = length-insert rest to d (turns_known d fit) in
        let same = ap length is in
        omega (arith, most)

    pub turned_none : IsDateFit None to (remove (padded ds n) from) → es ≡ rest → padded es n ≡ insert (remove (padded ds n) from) to None
    turned_none fit is = ap₂ padded is next ∙ put_none rest (n - 1) to (turns_none fit) (omega arith) ∙ ap (λ vs. insert vs to None) gone
