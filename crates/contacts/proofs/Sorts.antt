-- Addresses that are sorted, each once.
use Rattle.std.proofs.Common.{◌≡◌, refl, sym, ap, ◌∙◌, subst, ℕ, ◌+◌, Bool, true, false, not, ◌||◌, ◌&&◌, cond, List, [], ◌∷◌, nat_lt, arith}
use Rattle.std.specs.Prelude.{fold, flat_map}
use Rattle.std.specs.List.{AllByRecursion, IsDistinct, list_any, count_by, sum_by}
use Rattle.std.specs.List.Sorted.{IsStrictlySortedBy}
use Rattle.std.specs.Ordering.{nat_cmp, is_eq, ordering_reverse}
use Rattle.std.specs.declared.cmp.Ordering.{Ordering}
use Rattle.std.specs.declared.cmp.Ordering.TheVariants.{Less, Greater}
use Rattle.std.specs.Cmp.Lexicographic.{slice_cmp, bytes_decides}
use Rattle.std.specs.Str.{bytes_eq}
use Rattle.std.proofs.lemmas.Bool.{both_ways, false≢true}
use Rattle.std.proofs.lemmas.Bool.Decides.{nat_tests}
use Rattle.std.proofs.lemmas.Cmp.{nat_list_cmp_total, nat_list_eq_equiv}
use Rattle.std.proofs.lemmas.List.Folds.{list_any-append}
use Rattle.std.proofs.lemmas.List.Sums.{sum_by-cons}
use Rattle.std.proofs.lemmas.Map.Text.{is_eq-slice_cmp}
use Rattle.lists.specs.Distinct.{each_once}
use Rattle.lists.specs.Sorted.{insert_by}
use Rattle.lists.proofs.DistinctLaws.{IsDistinct-filter, IsDistinct-firsts, firsts-member}
use Rattle.lists.proofs.Inserts.{None_of, Placed, All-insert_by, Rising-insert_by, list_any-insert_by}
use Rattle.lists.proofs.Rising.{Rising, apart, below_of, never_back, sorted_from}
use Rattle.card_type.specs.declared.card.Card.{Card}
use Rattle.card_type.specs.Effects.{is_among}
use Rattle.mailbox_model.specs.Lists.{Bytes, without}
use Rattle.mailbox_model.specs.Chats.{people}
use Rattle.mailbox_model.specs.Contacts.{addresses}
use Rattle.contacts.specs.Kept.{times_in}

abbrev by_bytes : Bytes → Bytes → Ordering
by_bytes = slice_cmp nat_cmp

-- ---- sorted strictly

placed : (x : Bytes) (zs : List Bytes) → None_of (bytes_eq x) zs
    → Placed by_bytes (below_of by_bytes nat_list_cmp_total) (never_back by_bytes nat_list_cmp_total) x zs
placed x [] n = tt
placed x (z ∷ zs) n = (apart by_bytes nat_list_cmp_total x z (λ k. both_ways (bytes_eq x z) n.0 (sym (is_eq-slice_cmp x z) ∙ ap is_eq k)), placed x zs n.1)

rising_from : (zs xs : List Bytes) → IsDistinct bytes_eq xs → AllByRecursion (λ x. None_of (bytes_eq x) zs) xs
    → Rising by_bytes zs → Rising by_bytes (fold (λ sorted x. insert_by by_bytes x sorted) zs xs)
unfolding IsDistinct
rising_from zs [] d n r = r
rising_from zs (x ∷ xs) d n r =
    rising_from (insert_by by_bytes x zs) xs d.1 (still xs d.0 n.1) (Rising-insert_by by_bytes (below_of by_bytes nat_list_cmp_total) (never_back by_bytes nat_list_cmp_total) x zs (placed x zs n.0) r)
  where
    still : (ys : List Bytes) → AllByRecursion (λ y. bytes_eq x y ≡ false) ys → AllByRecursion (λ y. None_of (bytes_eq y) zs) ys
        → AllByRecursion (λ y. None_of (bytes_eq y) (insert_by by_bytes x zs)) ys
    still [] a b = tt
    still (y ∷ ys) a b = (All-insert_by by_bytes (λ z. bytes_eq y z ≡ false) x zs (nat_list_eq_equiv.symm y x ∙ a.0) b.0, still ys a.1 b.1)

none_yet : (xs : List Bytes) → AllByRecursion (λ x. None_of (bytes_eq x) []) xs
none_yet [] = tt
none_yet (x ∷ xs) = (tt, none_yet xs)

pub addresses_rise : (me : Bytes) (cards : List Card) → IsStrictlySortedBy by_bytes (addresses me cards)
addresses_rise me cards =
    let all = flat_map people cards in
    sorted_from by_bytes nat_list_cmp_total (addresses me cards)
    (rising_from [] (without me (each_once all)) (IsDistinct-filter bytes_eq (λ y. not (bytes_eq me y)) (each_once all) (IsDistinct-firsts bytes_eq all)) (none_yet (without me (each_once all))) tt)

-- ---- which are among them

or_swap : (a b c : Bool) → ((a || b) || c) ≡ (b || (a || c))
or_swap true true c = refl
or_swap true false c = refl
or_swap false b c = refl

among_from : (q : Bytes) (zs xs : List Bytes) → is_among (fold (λ sorted x. insert_by by_bytes x sorted) zs xs) q ≡ (is_among zs q || is_among xs q)
among_from q zs [] = or_none (is_among zs q)
  where
    or_none : (b : Bool) → b ≡ (b || false)
    or_none true = refl
    or_none false = refl
among_from q zs (x ∷ xs) =
    among_from q (insert_by by_bytes x zs) xs ∙ ap (λ b. b || is_among xs q) (list_any-insert_by by_bytes (bytes_eq q) x zs)
    ∙ or_swap (bytes_eq q x) (is_among zs q) (is_among xs q)

among_without : (me q : Bytes) (xs : List Bytes) → is_among (without me xs) q ≡ (is_among xs q && not (bytes_eq me q))
among_without me q [] = refl
among_without me q (x ∷ xs) =
    elim (bytes_eq q x) as (λ b. bytes_eq q x ≡ b → is_among (without me (x ∷ xs)) q ≡ ((b || is_among xs q) && not (bytes_eq me q))) [
      | true ↦ λ e. let same : x ≡ q = sym ((bytes_decides q x).0 e) in
          subst (λ y. is_among (without me (y ∷ xs)) q ≡ not (bytes_eq me q)) (sym same) (here (among_without me q xs))
      | false ↦ λ e. there e ∙ among_without me q xs
    ] refl
  where
    here : is_among (without me xs) q ≡ (is_among xs q && not (bytes_eq me q)) → is_among (without me (q ∷ xs)) q ≡ not (bytes_eq me q)
    here rest =
        elim (bytes_eq me q) as (λ b. bytes_eq me q ≡ b → is_among (cond (not b) (q ∷ without me xs) (without me xs)) q ≡ not b) [
          | true ↦ λ e. rest ∙ rw e (and_none (is_among xs q))
          | false ↦ λ e. rw ((bytes_decides q q).1 refl) refl
        ] refl
      where
        and_none : (b : Bool) → (b && false) ≡ false
        and_none true = refl
        and_none false = refl

    there : bytes_eq q x ≡ false → is_among (without me (x ∷ xs)) q ≡ is_among (without me xs) q
    there e =
        elim (bytes_eq me x) as (λ b. is_among (cond (not b) (x ∷ without me xs) (without me xs)) q ≡ is_among (without me xs) q) [
          | true ↦ refl
          | false ↦ rw e refl
        ]

among_once : (q : Bytes) (xs : List Bytes) → is_among (each_once xs) q ≡ is_among xs q
among_once q xs =
    let turned : (ys : List Bytes) → is_among ys q ≡ list_any (λ x. bytes_eq x q) ys = λ ys i. list_any (λ x. nat_list_eq_equiv.symm q x i) ys in
    turned (each_once xs) ∙ firsts-member bytes_eq (λ x y z h k. nat_list_eq_equiv.congr x y z h ∙ k) xs q ∙ sym (turned xs)

positive : (a b : ℕ) → nat_lt 0 (a + b) ≡ (nat_lt 0 a || nat_lt 0 b)
positive a b = grind (arith, nat_tests)

among_counted : (q : Bytes) (xs : List Bytes) → is_among xs q ≡ nat_lt 0 (count_by (bytes_eq q) xs)
among_counted q [] = refl
among_counted q (x ∷ xs) =
    ap (λ b. bytes_eq q x || b) (among_counted q xs) ∙ one (bytes_eq q x)
    ∙ sym (ap (nat_lt 0) (sum_by-cons (λ y. cond (bytes_eq q y) 1 0) x xs) ∙ positive (cond (bytes_eq q x) 1 0) (count_by (bytes_eq q) xs))
  where
    one : (b : Bool) → (b || nat_lt 0 (count_by (bytes_eq q) xs)) ≡ (nat_lt 0 (cond b 1 0) || nat_lt 0 (count_by (bytes_eq q) xs))
    one true = refl
    one false = refl

among_people : (q : Bytes) (cards : List Card) → is_among (flat_map people cards) q ≡ nat_lt 0 (sum_by (λ card. times_in card q) cards)
among_people q [] = refl
among_people q (card ∷ cards) =
    list_any-append (bytes_eq q) (people card) (flat_map people cards)
    ∙ (λ i. among_counted q (people card) i || among_people q cards i)
    ∙ sym (ap (nat_lt 0) (sum_by-cons (λ c. times_in c q) card cards) ∙ positive (times_in card q) (sum_by (λ c. times_in c q) cards))

pub among_addresses : (me q : Bytes) (cards : List Card)
    → is_among (addresses me cards) q ≡ (nat_lt 0 (sum_by (λ card. times_in card q) cards) && not (bytes_eq me q))
among_addresses me q cards =
    let all = flat_map people cards in
    among_from q [] (without me (each_once all)) ∙ among_without me q (each_once all)
    ∙ ap (λ b. b && not (bytes_eq me q)) (among_once q all ∙ among_people q cards)

-- ---- one list

abbrev Below : Bytes → List Bytes → Type 0
Below x ys = AllByRecursion (λ y. by_bytes x y ≡ Less) ys

not_there : (x : Bytes) (ys : List Bytes) → Below x ys → is_among ys x ≡ false
not_there x [] b = refl
not_there x (y ∷ ys) b = rw (sym (is_eq-slice_cmp x y) ∙ ap is_eq b.0) (not_there x ys b.1)

below_there : (x y : Bytes) (ys : List Bytes) → Below x ys → is_among ys y ≡ true → by_bytes x y ≡ Less
below_there x y [] b m = absurd (false≢true m)
below_there x y (z ∷ zs) b m =
    elim (bytes_eq y z) as (λ c. bytes_eq y z ≡ c → (c || is_among zs y) ≡ true → by_bytes x y ≡ Less) [
      | true ↦ λ e k. subst (λ w. by_bytes x w ≡ Less) (sym ((bytes_decides y z).0 e)) b.0
      | false ↦ λ e k. below_there x y zs b.1 k
    ] refl m

same_heads : (x y : Bytes) (xs ys : List Bytes) → Below x xs → Below y ys → is_among (y ∷ ys) x ≡ true → is_among (x ∷ xs) y ≡ true → x ≡ y
same_heads x y xs ys a b m n =
    elim (bytes_eq x y) as (λ c. bytes_eq x y ≡ c → (c || is_among ys x) ≡ true → x ≡ y) [
      | true ↦ λ e k. (bytes_decides x y).0 e
      | false ↦ λ e k.
          let above : by_bytes y x ≡ Less = below_there y x ys b k in
          let below : by_bytes x y ≡ Less = below_there x y xs a (sym (ap (λ c. c || is_among xs y) (nat_list_eq_equiv.symm y x ∙ e)) ∙ n) in
          absurd (never (sym below ∙ nat_list_cmp_total.antisymm x y ∙ ap ordering_reverse above))
    ] refl m
  where
    never : Less ≡ Greater → ⊥
    never e = cc

-- lists in order with the same elements
pub one_list : (xs ys : List Bytes) → IsStrictlySortedBy by_bytes xs → IsStrictlySortedBy by_bytes ys
    → ((q : Bytes) → is_among xs q ≡ is_among ys q) → xs ≡ ys
unfolding IsStrictlySortedBy
one_list [] [] r s f = refl
one_list [] (y ∷ ys) r s f = absurd (false≢true (f y ∙ ap (λ b. b || is_among ys y) ((bytes_decides y y).1 refl)))
one_list (x ∷ xs) [] r s f = absurd (false≢true (sym (f x) ∙ ap (λ b. b || is_among xs x) ((bytes_decides x x).1 refl)))
one_list (x ∷ xs) (y ∷ ys) r s f =
    let here_x : is_among (x ∷ xs) x ≡ true = ap (λ b. b || is_among xs x) ((bytes_decides x x).1 refl) in
    let here_y : is_among (y ∷ ys) y ≡ true = ap (λ b. b || is_among ys y) ((bytes_decides y y).1 refl) in
    let same : x ≡ y = same_heads x y xs ys r.0 s.0 (sym (f x) ∙ here_x) (f y ∙ here_y) in
    λ i. same i ∷ one_list xs ys r.1 s.1 (others same) i
  where
    others : x ≡ y → (q : Bytes) → is_among xs q ≡ is_among ys q
    others same q =
        elim (bytes_eq q x) as (λ c. bytes_eq q x ≡ c → is_among xs q ≡ is_among ys q) [
          | true ↦ λ e.
              let is_x : q ≡ x = (bytes_decides q x).0 e in
              subst (λ z. is_among xs z ≡ is_among ys z) (sym is_x)
              (not_there x xs r.0 ∙ sym (ap (is_among ys) same ∙ not_there y ys s.0))
          | false ↦ λ e.
              let at_x : (bytes_eq q x || is_among xs q) ≡ is_among xs q = ap (λ b. b || is_among xs q) e in
              let at_y : (bytes_eq q y || is_among ys q) ≡ is_among ys q = ap (λ b. b || is_among ys q) (sym (ap (bytes_eq q) same) ∙ e) in
              sym at_x ∙ f q ∙ at_y
        ] refl
