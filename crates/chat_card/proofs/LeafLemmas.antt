-- What is kept of the leaves of a mail.
use Rattle.std.proofs.Common.{◌≡◌, ℕ, Bool, true, false, cond, List, [], ◌∷◌, ◌++◌, Option, Some, None, map, refl, sym, ap, ◌∙◌, append_assoc}
use Rattle.std.specs.Prelude.{◌&&◌, ◌||◌, bytes_eq, codes, filter, if◌then◌else◌, nat_lt, not}
use Rattle.std.specs.List.{cons_option, filter_map, list_any}
use Rattle.std.proofs.lemmas.List.{map-append}
use Rattle.std.proofs.lemmas.List.Elements.{filter-append, filter_map-append}
use Rattle.std.proofs.lemmas.List.Folds.{list_any-append}
use Rattle.chat_card.specs.Parts.{Part}
use Rattle.chat_card.specs.declared.way.Way.{Way}
use Rattle.chat_card.specs.declared.way.Way.TheVariants.{Together}
use Rattle.chat_card.specs.Leaves.{KeepsLeaves, KeepsOthers, is_leaf, is_other, part_of}
use Rattle.chat_card.specs.Shown.{Forest, Nothing, Then, Kept, Text, File, deeper, file_of, following, forest, is_alternative, is_any_text, is_inline, is_text, leaf_of, shows_text}
use Rattle.chat_card.specs.Walks.{is_whole, kept_by, way_after, way_within}
use Rattle.chat_card.proofs.WayLemmas.{kept-together}

-- ---- the parts of trees

-- the parts of trees, in preorder
abbrev parts_in : Forest → List Part
parts_in Nothing = []
parts_in (Then p within more) = p ∷ (parts_in within ++ parts_in more)

parts-split : (depth : ℕ) (f : Forest) → parts_in (deeper depth f) ++ parts_in (following depth f) ≡ parts_in f
parts-split depth Nothing = refl
parts-split depth (Then p within more) = decided (nat_lt depth p.node.depth) refl (parts-split depth more)
  where
    decided : (t : Bool) → nat_lt depth p.node.depth ≡ t → parts_in (deeper depth more) ++ parts_in (following depth more) ≡ parts_in more
        → parts_in (deeper depth (Then p within more)) ++ parts_in (following depth (Then p within more)) ≡ parts_in (Then p within more)
    decided false is rest = rw is refl
    decided true is rest =
        rw is (ap (λ (ps : List Part). p ∷ ps) (append_assoc (parts_in within) (parts_in (deeper depth more)) (parts_in (following depth more))
        ∙ ap (λ (ps : List Part). parts_in within ++ ps) rest))

-- the trees of some parts have these parts
parts-forest : (ps : List Part) → parts_in (forest ps) ≡ ps
parts-forest [] = refl
parts-forest (p ∷ ps) = ap (λ (qs : List Part). p ∷ qs) (parts-split p.node.depth (forest ps) ∙ parts-forest ps)

-- ---- only texts are dropped

text-any : (leaf top sub inline : Bool) → (leaf && (top && sub) && inline) ≡ true → (top && inline) ≡ true
text-any true true true inline is = is
text-any true true false inline is = absurd cc
text-any true false sub inline is = absurd cc
text-any false top sub inline is = absurd cc

-- what is kept of a part, by what is chat_field of it
abbrev choice : Bool → Bool → Bool → Bool → Part → Option Kept
choice whole leaf text any p =
    if whole then (if not leaf then None else if text then Some (Text p) else Some (File p)) else (if not leaf || any then None else Some (File p))

choice-other : (whole leaf text any : Bool) (p : Part) (xs : List Kept) → is_other p ≡ (leaf && not any) → (text ≡ true → any ≡ true)
    → filter is_other (filter_map file_of (cons_option (choice whole leaf text any p) xs))
    ≡ cond (leaf && not any) (p ∷ filter is_other (filter_map file_of xs)) (filter is_other (filter_map file_of xs))
choice-other true true true any p xs is text_is = rw (text_is refl) refl
choice-other true true false any p xs is text_is = rw is refl
choice-other true false text any p xs is text_is = refl
choice-other false true text true p xs is text_is = refl
choice-other false true text false p xs is text_is = rw is refl
choice-other false false text any p xs is text_is = refl

joined-others : (xs ys : List Kept) (ps qs : List Part) → filter is_other (filter_map file_of xs) ≡ filter is_other ps → filter is_other (filter_map file_of ys) ≡ filter is_other qs
    → filter is_other (filter_map file_of (xs ++ ys)) ≡ filter is_other (ps ++ qs)
joined-others xs ys ps qs first second =
    ap (filter is_other) (filter_map-append file_of xs ys)
    ∙ filter-append is_other (filter_map file_of xs) (filter_map file_of ys)
    ∙ ap (λ (zs : List Part). zs ++ filter is_other (filter_map file_of ys)) first
    ∙ ap (λ (zs : List Part). filter is_other ps ++ zs) second
    ∙ sym (filter-append is_other ps qs)

others-kept : (way : Way) (f : Forest) → filter is_other (filter_map file_of (kept_by way f)) ≡ filter is_other (parts_in f)
others-kept way Nothing = refl
others-kept way (Then p within more) =
    let n = p.node in
    let below = shows_text within in
    let whole = is_whole way (is_text n || below) in
    let inner = kept_by (way_within whole n.kind below) within in
    let next = kept_by (way_after way (is_text n || below)) more in
    choice-other whole n.leaf (is_text n) (is_any_text n) p (inner ++ next) refl
    (text-any n.leaf (bytes_eq n.kind.top (codes "text")) (bytes_eq n.kind.sub (codes "plain")) (is_inline n))
    ∙ ap (λ (zs : List Part). cond (is_other p) (p ∷ zs) zs)
    (joined-others inner next (parts_in within) (parts_in more) (others-kept (way_within whole n.kind below) within) (others-kept (way_after way (is_text n || below)) more))

pub keeps_others : (ps : List Part) → KeepsOthers ps
keeps_others ps =
    ap (λ (ks : List Kept). filter is_other (filter_map file_of ks)) (sym (kept-together (forest ps)))
    ∙ others-kept Together (forest ps) ∙ ap (filter is_other) (parts-forest ps)

-- ---- and only from alternatives

abbrev is_alternative_part : Part → Bool
is_alternative_part p = is_alternative p.node.kind

or-none : (a b : Bool) → (a || b) ≡ false → (a ≡ false) × (b ≡ false)
or-none true b is = absurd cc
or-none false b is = (refl, is)

leaf-part : (leaf text : Bool) (p : Part) (xs : List Kept)
    → map part_of (cons_option (choice true leaf text true p) xs) ≡ cond leaf (p ∷ map part_of xs) (map part_of xs)
leaf-part true true p xs = refl
leaf-part true false p xs = refl
leaf-part false text p xs = refl

leaves-kept : (f : Forest) → list_any is_alternative_part (parts_in f) ≡ false → map part_of (kept_by Together f) ≡ filter is_leaf (parts_in f)
leaves-kept Nothing none = refl
leaves-kept (Then p within more) none =
    let n = p.node in
    let here = or-none (is_alternative_part p) (list_any is_alternative_part (parts_in within ++ parts_in more)) none in
    let rest = or-none (list_any is_alternative_part (parts_in within)) (list_any is_alternative_part (parts_in more)) (sym (list_any-append is_alternative_part (parts_in within) (parts_in more)) ∙ here.1) in
    let inner = kept_by Together within in
    let next = kept_by Together more in
    let way : way_within true n.kind (shows_text within) ≡ Together = rw here.0 refl in
    ap (λ w. map part_of (cons_option (leaf_of p) (kept_by w within ++ next))) way
    ∙ leaf-part n.leaf (is_text n) p (inner ++ next)
    ∙ ap (λ (zs : List Part). cond n.leaf (p ∷ zs) zs)
    (map-append part_of inner next
    ∙ ap (λ (zs : List Part). zs ++ map part_of next) (leaves-kept within rest.0)
    ∙ ap (λ (zs : List Part). filter is_leaf (parts_in within) ++ zs) (leaves-kept more rest.1)
    ∙ sym (filter-append is_leaf (parts_in within) (parts_in more)))

pub keeps_leaves : (ps : List Part) → KeepsLeaves ps
keeps_leaves ps none =
    ap (map part_of) (sym (kept-together (forest ps)))
    ∙ leaves-kept (forest ps) (ap (list_any is_alternative_part) (parts-forest ps) ∙ none) ∙ ap (filter is_leaf) (parts-forest ps)
