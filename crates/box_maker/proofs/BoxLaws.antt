-- Mails one after the other.
use Rattle.std.proofs.Common.{◌≡◌, ℕ, ◌+◌, ◌-◌, ◌*◌, List, [], ◌∷◌, ◌++◌, flat_map, map-id, append-nil, arith, refl, ap, sym, ◌∙◌}
use Rattle.std.specs.List.{range_with_len}
use Rattle.std.proofs.lemmas.List.Concat.{flat_map-append}
use Rattle.std.proofs.lemmas.List.FromFn.{map-range_with_len_more}
use Rattle.rand_pcg.specs.Lcg.{Lcg}
use Rattle.box_maker.specs.declared.draws.Draws.{Draws}
use Rattle.box_maker.specs.Boxes.{mail_of}
use Rattle.box_maker.specs.Draws.{after, drawn, seeded}
use Rattle.box_maker.specs.Mails.{mail}
use Rattle.box_maker.proofs.DrawLaws.{after-after}

-- the numbers with one more
range_more : (a n : ℕ) → range_with_len a (n + 1) ≡ range_with_len a n ++ (a + n) ∷ []
range_more a n =
    sym (map-id (range_with_len a (n + 1))) ∙ map-range_with_len_more (λ k. k) a n (a + n) refl
    ∙ ap (λ ks. ks ++ (a + n) ∷ []) (map-id (range_with_len a n))

-- what is made of them with one more
flat_map-range_more : (f : ℕ → List ℕ) (n : ℕ) → flat_map f (range_with_len 1 (n + 1)) ≡ flat_map f (range_with_len 1 n) ++ f (n + 1)
flat_map-range_more f n =
    let last : 1 + n ≡ n + 1 = omega arith in
    ap (flat_map f) (range_more 1 n) ∙ flat_map-append f (range_with_len 1 n) ((1 + n) ∷ [])
    ∙ ap (λ bytes. flat_map f (range_with_len 1 n) ++ bytes) (append-nil (f (1 + n)) ∙ ap f last)

-- the generator after the draws of one mail more
pub seven_more : (made : ℕ) (g h more : Lcg) → h ≡ after (7 * made) g → more ≡ after 7 h → more ≡ after (7 * (made + 1)) g
seven_more made g h more far next_words =
    let words : 7 * made + 7 ≡ 7 * (made + 1) = omega arith in
    next_words ∙ ap (after 7) far ∙ after-after (7 * made) 7 g ∙ ap (λ n. after n g) words

-- the mails with one more
pub mail_more : (number n made : ℕ) (me old new : List ℕ) (g : Lcg) (d : Draws)
    → old ≡ flat_map (mail_of number n me) (range_with_len 1 made) → g ≡ after (7 * made) (seeded number) → d ≡ drawn n g
    → new ≡ old ++ mail me (made + 1) d → new ≡ flat_map (mail_of number n me) (range_with_len 1 (made + 1))
mail_more number n made me old new g d so_far far is put =
    let before : made ≡ made + 1 - 1 = omega arith in
    let draws : d ≡ drawn n (after (7 * (made + 1 - 1)) (seeded number)) = is ∙ ap (drawn n) (far ∙ ap (λ k. after (7 * k) (seeded number)) before) in
    put ∙ (λ i. so_far i ++ mail me (made + 1) (draws i)) ∙ sym (flat_map-range_more (mail_of number n me) made)
