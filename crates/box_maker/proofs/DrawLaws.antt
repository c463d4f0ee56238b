-- Draws one after the other.
use Rattle.std.proofs.Common.{◌≡◌, ℕ, zero, suc, ◌+◌, ap, sym, ◌∙◌, suc-add, zero-add}
use Rattle.rand_pcg.specs.Lcg.{Lcg, state_after, next}
use Rattle.rand_pcg.specs.Pcg.{multiplier_64}
use Rattle.box_maker.specs.Draws.{after, draw}

-- words after words
pub after-after : (a b : ℕ) (g : Lcg) → after b (after a g) ≡ after (a + b) g
unfolding after state_after
after-after zero b g = ap (λ n. after n g) (sym (zero-add b))
after-after (suc a) b g = after-after a b (next 64 multiplier_64 g) ∙ ap (λ n. after n g) (sym (suc-add a b))

-- one word more
pub one_more : (a : ℕ) (g h more : Lcg) → h ≡ after a g → more ≡ after 1 h → more ≡ after (a + 1) g
one_more a g h more far next_word = next_word ∙ ap (after 1) far ∙ after-after a 1 g

-- a draw after others
pub draw_after : (a k value : ℕ) (g h : Lcg) → h ≡ after a g → value ≡ draw 0 k h → value ≡ draw a k g
unfolding draw after state_after
draw_after a k value g h far is = is ∙ ap (draw 0 k) far
