-- Lines that are put after a text, one after the other.
use Rattle.std.proofs.Common.{◌≡◌, sym, ap, ◌∙◌, ℕ, ◌+◌, ◌<◌, List, [], ◌∷◌, ◌++◌, length, get_or, take, append-nil, append_assoc}
use Rattle.std.specs.Prelude.{flat_map}
use Rattle.std.proofs.lemmas.List.{take_more}
use Rattle.std.proofs.lemmas.List.Concat.{flat_map-append}
use Rattle.mailbox_model.specs.Lists.{Bytes}

-- the line of one more
pub line_more : {X : Type 0} (line : X → Bytes) (xs : List X) (i : ℕ) (x : X) (first before after : Bytes) → i < length xs → x ≡ get_or xs i x
    → before ≡ first ++ flat_map line (take i xs) → after ≡ before ++ line x → after ≡ first ++ flat_map line (take (i + 1) xs)
line_more line xs i x first before after within is so_far put =
    let next = ap (flat_map line) (take_more xs i x within ∙ ap (λ y. take i xs ++ y ∷ []) (sym is)) ∙ flat_map-append line (take i xs) (x ∷ [])
    ∙ ap (λ bytes. flat_map line (take i xs) ++ bytes) (append-nil (line x)) in
    put ∙ ap (λ bytes. bytes ++ line x) so_far ∙ append_assoc first (flat_map line (take i xs)) (line x) ∙ ap (λ bytes. first ++ bytes) (sym next)

-- four texts, and nothing after them
pub four_put : (first a b c d none one two three last : Bytes) → one ≡ first ++ a → two ≡ one ++ b → three ≡ two ++ c → last ≡ three ++ d → none ≡ []
    → last ≡ first ++ (a ++ b ++ c ++ d ++ none)
four_put first a b c d none one two three last p q r s e =
    let second = q ∙ ap (λ bytes. bytes ++ b) p ∙ append_assoc first a b in
    let third = r ∙ ap (λ bytes. bytes ++ c) second ∙ append_assoc first (a ++ b) c in
    let all = s ∙ ap (λ bytes. bytes ++ d) third ∙ append_assoc first (a ++ b ++ c) d in
    all ∙ ap (λ bytes. first ++ bytes) (sym (append-nil (a ++ b ++ c ++ d)) ∙ ap (λ bytes. a ++ b ++ c ++ d ++ bytes) (sym e))
