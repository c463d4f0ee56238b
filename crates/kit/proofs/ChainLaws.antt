-- How the value and the block follow bytes as they grow.
use Rattle.std.proofs.Common.{◌≡◌, ℕ, zero, suc, ◌+◌, ◌-◌, ◌*◌, ◌/◌, ◌%◌, ◌<◌, ◌≤◌, List, [], ◌∷◌, ◌++◌, length, take, drop, replicate, refl, subst, sym, ap, ◌∙◌, arith, length-append, length-drop, append_assoc}
use Rattle.std.proofs.lemmas.List.{append-nil, take-append-le, drop-append-le, take_all, drop_all, drop-drop}
use Rattle.kit.specs.Chains.{Adds, Cut, StandsFor, after_blocks, block_len, chain, chained, cut_after, cut_on, first_value, no_cut, value_of, value_with, with_block, with_bytes}

-- ---- blocks

-- the first blocks of bytes are those of longer ones
after_blocks-append : (v : List ℕ) (n : ℕ) (bytes more : List ℕ) → n * 4096 ≤ length bytes → after_blocks v n (bytes ++ more) ≡ after_blocks v n bytes
unfolding after_blocks
after_blocks-append v zero bytes more fits = refl
after_blocks-append v (suc n) bytes more fits =
    let whole : 4096 ≤ length (drop (n * 4096) bytes) = omega (arith, length-drop (n * 4096) bytes) in
    let block : take 4096 (drop (n * 4096) (bytes ++ more)) ≡ take 4096 (drop (n * 4096) bytes) =
    ap (take 4096) (drop-append-le (n * 4096) bytes more (omega arith)) ∙ take-append-le 4096 (drop (n * 4096) bytes) more whole in
    rw (block, after_blocks-append v n bytes more (omega arith)) refl

-- blocks after blocks
after_blocks-add : (v : List ℕ) (n m : ℕ) (bytes : List ℕ) → after_blocks (after_blocks v n bytes) m (drop (n * 4096) bytes) ≡ after_blocks v (n + m) bytes
unfolding after_blocks
after_blocks-add v n zero bytes = let e : n + 0 ≡ n = omega arith in rw e refl
after_blocks-add v n (suc m) bytes =
    let e : n + suc m ≡ suc (n + m) = omega arith in
    let at : n * 4096 + m * 4096 ≡ (n + m) * 4096 = omega arith in
    rw (e, after_blocks-add v n m bytes, drop-drop (m * 4096) (n * 4096) bytes, at) refl

-- the last block may be short
after_blocks-last : (v : List ℕ) (n : ℕ) (bytes : List ℕ) → length bytes ≤ n * 4096 + 4096 → after_blocks v (n + 1) bytes ≡ chained (after_blocks v n bytes) (drop (n * 4096) bytes)
unfolding after_blocks
after_blocks-last v n bytes short =
    let e : n + 1 ≡ suc n = omega arith in
    let all : take 4096 (drop (n * 4096) bytes) ≡ drop (n * 4096) bytes = take_all 4096 (drop (n * 4096) bytes) (omega (arith, length-drop (n * 4096) bytes)) in
    rw e (ap (chained (after_blocks v n bytes)) all)

-- ---- more bytes

cut_is : (c : Cut) (more : List ℕ) (n : ℕ) → length (c.block ++ more) / 4096 ≡ n → cut_on c more ≡ cut_after c.value n (c.block ++ more)
unfolding cut_on
cut_is c more n is = rw is refl

-- those that leave the block not full
pub kept : (c : Cut) (bytes : List ℕ) → length c.block + length bytes < 4096 → cut_on c bytes ≡ with_bytes c bytes
unfolding after_blocks
kept c bytes few = cut_is c bytes 0 (omega (arith, length-append c.block bytes))

-- those that fill it
pub closed : (c : Cut) (bytes : List ℕ) → length c.block + length bytes ≡ 4096 → cut_on c bytes ≡ with_block c bytes
unfolding after_blocks
closed c bytes fills =
    let size : length (c.block ++ bytes) ≡ 4096 = omega (arith, length-append c.block bytes) in
    let none : drop 4096 (c.block ++ bytes) ≡ [] = drop_all 4096 (c.block ++ bytes) (omega (arith, size)) in
    let all : take 4096 (c.block ++ bytes) ≡ c.block ++ bytes = take_all 4096 (c.block ++ bytes) (omega (arith, size)) in
    cut_is c bytes 1 (omega (arith, size)) ∙ rw (none, all) refl

-- one piece after the other
pub cut_on-append : (c : Cut) (a b : List ℕ) → cut_on (cut_on c a) b ≡ cut_on c (a ++ b)
cut_on-append c a b =
    let x = c.block ++ a in
    let n = length x / 4096 in
    let left = drop (n * 4096) x in
    let m = length (left ++ b) / 4096 in
    let size : length left ≡ length x - n * 4096 = length-drop (n * 4096) x in
    let whole : x ++ b ≡ c.block ++ (a ++ b) = append_assoc c.block a b in
    let rest : left ++ b ≡ drop (n * 4096) (x ++ b) = sym (drop-append-le (n * 4096) x b (omega arith)) in
    let count : length (c.block ++ (a ++ b)) / 4096 ≡ n + m =
    omega (arith, sym (ap length whole), length-append x b, length-append left b, size) in
    let value : after_blocks (after_blocks c.value n x) m (left ++ b) ≡ after_blocks c.value (n + m) (c.block ++ (a ++ b)) =
    ap (after_blocks (after_blocks c.value n x) m) rest ∙ ap (λ (v : List ℕ). after_blocks v m (drop (n * 4096) (x ++ b))) (sym (after_blocks-append c.value n x b (omega arith)))
    ∙ after_blocks-add c.value n m (x ++ b) ∙ ap (after_blocks c.value (n + m)) whole in
    let at : n * 4096 + m * 4096 ≡ (n + m) * 4096 = omega arith in
    let block : drop (m * 4096) (left ++ b) ≡ drop ((n + m) * 4096) (c.block ++ (a ++ b)) =
    ap (drop (m * 4096)) rest ∙ drop-drop (m * 4096) (n * 4096) (x ++ b) ∙ ap (λ (k : ℕ). drop k (x ++ b)) at ∙ ap (drop ((n + m) * 4096)) whole in
    let first : cut_on c a ≡ cut_after c.value n x = cut_is c a n refl in
    let made : List ℕ → List ℕ → Cut = λ v d. record { value = v; block = d } in
    ap (λ (d : Cut). cut_on d b) first ∙ cut_is (cut_after c.value n x) b m refl
    ∙ ap (λ (v : List ℕ). made v (drop (m * 4096) (left ++ b))) value ∙ ap (made (after_blocks c.value (n + m) (c.block ++ (a ++ b)))) block
    ∙ sym (cut_is c (a ++ b) (n + m) count)

pub cut_on-nil : (c : Cut) → length c.block < 4096 → cut_on c [] ≡ c
cut_on-nil c few =
    let made : List ℕ → Cut = λ d. record { value = c.value; block = d } in
    kept c [] (omega (arith, few)) ∙ ap made (append-nil c.block)

pub stands_none : StandsFor no_cut []
stands_none = sym (cut_on-nil no_cut (omega arith))

pub stands_on : (c : Cut) (before more : List ℕ) → StandsFor c before → StandsFor (cut_on c more) (before ++ more)
stands_on c before more stands = ap (λ (d : Cut). cut_on d more) stands ∙ cut_on-append no_cut before more

pub stands_as : (c new : Cut) (before more : List ℕ) → new ≡ cut_on c more → StandsFor c before → StandsFor new (before ++ more)
stands_as c new before more is stands = is ∙ stands_on c before more stands

pub adds_none : (c : Cut) → Adds c c []
adds_none c before stands = stands ∙ ap (cut_on no_cut) (sym (append-nil before))

pub adds_more : (a b c : Cut) (p q : List ℕ) → Adds a b p → Adds b c q → Adds a c (p ++ q)
adds_more a b c p q first later before stands = later (before ++ p) (first before stands) ∙ ap (cut_on no_cut) (append_assoc before p q)

pub adds_as : (a b : Cut) (p q : List ℕ) → p ≡ q → Adds a b p → Adds a b q
adds_as a b p q e h = subst (Adds a b) e h

-- a piece of what is left fills the block
pub closed_on : (c new : Cut) (left piece rest : List ℕ) → left ≡ piece ++ rest → length c.block + length piece ≡ 4096 → new ≡ with_block c piece → cut_on new rest ≡ cut_on c left
closed_on c new left piece rest cuts fills is =
    ap (λ (d : Cut). cut_on d rest) (is ∙ sym (closed c piece fills)) ∙ cut_on-append c piece rest ∙ ap (cut_on c) (sym cuts)

-- ---- the value of all

chain_of : (bytes : List ℕ) (n : ℕ) → (length bytes + 4095) / 4096 ≡ n → chain bytes ≡ after_blocks first_value n bytes
unfolding chain
chain_of bytes n is = rw is refl

value_some : (value block : List ℕ) → 0 < length block → value_with value block ≡ chained value block
value_some value [] some = absurd (omega (arith, some))
value_some value (b ∷ bs) some = refl

value_none : (value block : List ℕ) → length block ≡ 0 → value_with value block ≡ value
value_none value [] none = refl
value_none value (b ∷ bs) none = absurd (omega (arith, none))

-- where the block has no bytes, and where it has some
pub whole_value : (c : Cut) → length c.block ≡ 0 → c.value ≡ value_of c
whole_value c none = sym (value_none c.value c.block none)

pub last_value : (c : Cut) → 0 < length c.block → chained c.value c.block ≡ value_of c
last_value c some = sym (value_some c.value c.block some)

value_is : (bytes : List ℕ) (n k : ℕ) → length bytes / 4096 ≡ n → length (drop (n * 4096) bytes) ≡ k → value_with (after_blocks first_value n bytes) (drop (n * 4096) bytes) ≡ chain bytes
value_is bytes n zero is none =
    value_none (after_blocks first_value n bytes) (drop (n * 4096) bytes) none ∙ sym (chain_of bytes n (omega (arith, length-drop (n * 4096) bytes, none)))
value_is bytes n (suc k) is some =
    value_some (after_blocks first_value n bytes) (drop (n * 4096) bytes) (omega (arith, some)) ∙ sym (after_blocks-last first_value n bytes (omega arith))
    ∙ sym (chain_of bytes (n + 1) (omega (arith, length-drop (n * 4096) bytes, some)))

pub chain_is : (c : Cut) (bytes : List ℕ) → StandsFor c bytes → value_of c ≡ chain bytes
chain_is c bytes stands =
    let n = length bytes / 4096 in
    ap value_of (stands ∙ cut_is no_cut bytes n refl) ∙ value_is bytes n (length (drop (n * 4096) bytes)) refl refl
