-- Sums that end at the greatest 64-bit number.
use Rattle.std.proofs.Common.{◌≡◌, ℕ, ◌+◌, List, [], ◌∷◌, ◌++◌, length, map, refl, sym, ap, ◌∙◌, arith, length-append}
use Rattle.std.specs.List.{concat, sum}
use Rattle.std.proofs.lemmas.List.Folds.{concat-append}
use Rattle.std.proofs.lemmas.List.Sums.{sum_by-cons}
use Rattle.card_type.specs.Records.{capped}

capped-add : (a s t : ℕ) → capped s ≡ capped t → capped (capped a + s) ≡ capped (a + t)
capped-add a s t same = grind (arith, same)

-- the weight of blocks, each weighed alone
pub capped_sum : (blocks : List (List ℕ)) → capped (sum (map (λ block. capped (length block)) blocks)) ≡ capped (length (concat blocks))
capped_sum [] = refl
capped_sum (p ∷ ps) =
    ap capped (sum_by-cons (λ x. x) (capped (length p)) (map (λ block. capped (length block)) ps))
    ∙ capped-add (length p) (sum (map (λ block. capped (length block)) ps)) (length (concat ps)) (capped_sum ps)
    ∙ ap capped (sym (length-append p (concat ps)))

-- the weight of three parts, each weighed alone
pub capped_parts : (e r s : List (List ℕ)) → capped (capped (capped (length (concat e)) + capped (length (concat r))) + capped (length (concat s))) ≡ capped (length (concat (e ++ r ++ s)))
capped_parts e r s =
    let first = ap length (concat-append e r) ∙ length-append (concat e) (concat r) in
    let whole = ap length (concat-append (e ++ r) s) ∙ length-append (concat (e ++ r)) (concat s) in
    grind (arith, first, whole)
