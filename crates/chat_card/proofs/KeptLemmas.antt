-- What is kept of parts that are read one after the other.
use Rattle.std.proofs.Common.{◌≡◌, ℕ, ◌≤◌, Bool, true, false, List, [], ◌∷◌, ◌++◌, Option, Some, None, map, refl, subst, sym, ap, ◌∙◌, arith, append_assoc}
use Rattle.std.specs.Prelude.{nat_lt, ◌||◌, option_map, option_to_list, take_while}
use Rattle.std.specs.List.{cons_option, list_any}
use Rattle.std.proofs.Math.Bool.{or_assoc}
use Rattle.std.proofs.lemmas.Bool.{lt-ltb, ltb-true}
use Rattle.std.proofs.lemmas.List.{append-nil, map-append}
use Rattle.std.proofs.lemmas.List.Sums.{take_while-cons}
use Rattle.mime_parts.specs.declared.part.PartNode.{PartNode}
use Rattle.chat_card.specs.declared.kept.Parent.{Parent}
use Rattle.chat_card.specs.declared.leaf.Kept as Borrowed
use Rattle.chat_card.specs.Parts.{Part}
use Rattle.chat_card.specs.declared.way.Way.TheVariants.{Together}
use Rattle.chat_card.specs.Shown.{Forest, Nothing, Then, Kept, deeper, following, forest, is_text, shows_text}
use Rattle.chat_card.specs.Views.{kept as view}
use Rattle.chat_card.specs.Walks.{closed, entered, is_whole, kept_by, own, turned, way_after, way_of, way_within}

-- ---- whether a text is among the parts that are deeper

-- the trees deeper than one depth are those deeper than a greater one, and more
shows-among : (low high : ℕ) → low ≤ high → (f : Forest) → shows_text (deeper low f) ≡ (shows_text (deeper high f) || shows_text (deeper low (following high f)))
shows-among low high le Nothing = refl
shows-among low high le (Then q within more) = decided (nat_lt high q.node.depth) refl (shows-among low high le more)
  where
    decided : (t : Bool) → nat_lt high q.node.depth ≡ t
        → shows_text (deeper low more) ≡ (shows_text (deeper high more) || shows_text (deeper low (following high more)))
        → shows_text (deeper low (Then q within more)) ≡ (shows_text (deeper high (Then q within more)) || shows_text (deeper low (following high (Then q within more))))
    decided false is rest = rw is refl
    decided true is rest =
        (let below : nat_lt low q.node.depth ≡ true = lt-ltb low q.node.depth (omega (arith, ltb-true high q.node.depth is)) in
        rw (is, below) (ap (λ b. is_text q.node || shows_text within || b) rest
        ∙ sym (or_assoc (is_text q.node || shows_text within) (shows_text (deeper high more)) (shows_text (deeper low (following high more))))))

pub shows-deeper : (depth : ℕ) (ps : List Part) → shows_text (deeper depth (forest ps)) ≡ list_any (λ p. is_text p.node) (take_while (λ p. nat_lt depth p.node.depth) ps)
shows-deeper depth [] = refl
shows-deeper depth (p ∷ ps) = decided (nat_lt depth p.node.depth) refl (shows-deeper depth ps)
  where
    decided : (t : Bool) → nat_lt depth p.node.depth ≡ t
        → shows_text (deeper depth (forest ps)) ≡ list_any (λ p. is_text p.node) (take_while (λ p. nat_lt depth p.node.depth) ps)
        → shows_text (deeper depth (forest (p ∷ ps))) ≡ list_any (λ p. is_text p.node) (take_while (λ p. nat_lt depth p.node.depth) (p ∷ ps))
    decided false is rest = rw is refl
    decided true is rest =
        (let test = λ (q : Part). nat_lt depth q.node.depth in
        let less : depth ≤ p.node.depth = omega (arith, ltb-true depth p.node.depth is) in
        let taken : take_while test (p ∷ ps) ≡ p ∷ take_while test ps = take_while-cons test p ps ∙ rw is refl in
        rw (taken, is) (or_assoc (is_text p.node) (shows_text (deeper p.node.depth (forest ps))) (shows_text (deeper depth (following p.node.depth (forest ps))))
        ∙ ap (λ b. is_text p.node || b) (sym (shows-among depth p.node.depth less (forest ps)) ∙ rest)))

-- ---- a step

-- what is kept of the trees that follow, in the parents that are open
abbrev pub spread : List Parent → Forest → List Kept
spread [] f = kept_by Together f
spread (p ∷ ps) f = kept_by p.way (deeper p.depth f) ++ spread ps (following p.depth f)

cons_option-append : {A : Type 0} (o : Option A) (xs ys : List A) → cons_option o xs ++ ys ≡ cons_option o (xs ++ ys)
cons_option-append None xs ys = refl
cons_option-append (Some x) xs ys = refl

-- what is kept of a part and of what follows it, where these are the parents that it is in
abbrev pub first_kept : List Parent → Part → Bool → Forest → Forest → List Kept
first_kept parents p below within more =
    let has_text = is_text p.node || below in
    let whole = is_whole (way_of parents) has_text in
    cons_option (own whole p) (kept_by (way_within whole p.node.kind below) within ++ spread (turned has_text parents) more)

-- a part is read
pub spread-step : (parents : List Parent) (p : Part) (within more : Forest)
    → spread parents (Then p within more) ≡ first_kept (closed p.node.depth parents) p (shows_text within) within more
spread-step [] p within more = refl
spread-step (top ∷ parents) p within more = decided (nat_lt top.depth p.node.depth) refl (spread-step parents p within more)
  where
    decided : (t : Bool) → nat_lt top.depth p.node.depth ≡ t
        → spread parents (Then p within more) ≡ first_kept (closed p.node.depth parents) p (shows_text within) within more
        → spread (top ∷ parents) (Then p within more) ≡ first_kept (closed p.node.depth (top ∷ parents)) p (shows_text within) within more
    decided false out rest = rw out rest
    decided true in_it rest =
        (let has_text = is_text p.node || shows_text within in
        let whole = is_whole top.way has_text in
        let inner = kept_by (way_within whole p.node.kind (shows_text within)) within in
        let next = kept_by (way_after top.way has_text) (deeper top.depth more) in
        let last = spread parents (following top.depth more) in
        rw in_it (cons_option-append (own whole p) (inner ++ next) last ∙ ap (cons_option (own whole p)) (append_assoc inner next last)))

-- the same, of parts in preorder
kept-step : (parents new : List Parent) (p : Part) (rest : List Part) (below whole : Bool)
    → below ≡ list_any (λ p. is_text p.node) (take_while (λ q. nat_lt p.node.depth q.node.depth) rest)
    → whole ≡ is_whole (way_of (closed p.node.depth parents)) (is_text p.node || below)
    → new ≡ entered p.node below parents
    → spread parents (forest (p ∷ rest)) ≡ cons_option (own whole p) (spread new (forest rest))
kept-step parents new p rest below whole shows is entering =
    let within = deeper p.node.depth (forest rest) in
    let below_is : below ≡ shows_text within = shows ∙ sym (shows-deeper p.node.depth rest) in
    spread-step parents p within (following p.node.depth (forest rest)) ∙ rw (← below_is, is, entering) refl

-- what the part itself gives is put rest what was found
kept-pushed : (found new : List Borrowed.Kept) (r : Option Borrowed.Kept) (own_of : Option Kept) (now next all : List Kept)
    → option_map view r ≡ own_of → new ≡ found ++ option_to_list r → now ≡ cons_option own_of next
    → map view found ++ now ≡ all → map view new ++ next ≡ all
kept-pushed found new None own_of now next all is pushed step so_far =
    ap (λ (xs : List Borrowed.Kept). map view xs ++ next) (pushed ∙ append-nil found)
    ∙ ap (λ (xs : List Kept). map view found ++ xs) (ap (λ (o : Option Kept). cons_option o next) is ∙ sym step)
    ∙ so_far
kept-pushed found new (Some x) own_of now next all is pushed step so_far =
    ap (λ (xs : List Borrowed.Kept). map view xs ++ next) pushed
    ∙ ap (λ (xs : List Kept). xs ++ next) (map-append view found (x ∷ []))
    ∙ append_assoc (map view found) (view x ∷ []) next
    ∙ ap (λ (xs : List Kept). map view found ++ xs) (ap (λ (o : Option Kept). cons_option o next) is ∙ sym step)
    ∙ so_far

pub kept-more : (parents new : List Parent) (left rest : List Part) (p : Part) (n : PartNode) (below whole : Bool) (found more : List Borrowed.Kept) (r : Option Borrowed.Kept) (all : List Kept)
    → left ≡ p ∷ rest → n ≡ p.node
    → below ≡ list_any (λ q. is_text q.node) (take_while (λ q. nat_lt n.depth q.node.depth) rest)
    → whole ≡ is_whole (way_of (closed n.depth parents)) (is_text n || below)
    → new ≡ entered n below parents
    → option_map view r ≡ own whole p → more ≡ found ++ option_to_list r
    → map view found ++ spread parents (forest left) ≡ all → map view more ++ spread new (forest rest) ≡ all
kept-more parents new left rest p n below whole found more r all first node shows is entering gives pushed so_far =
    kept-pushed found more r (own whole p) (spread parents (forest left)) (spread new (forest rest)) all gives pushed
    (ap (λ (ps : List Part). spread parents (forest ps)) first
    ∙ kept-step parents new p rest below whole
    (subst (λ (m : PartNode). below ≡ list_any (λ q. is_text q.node) (take_while (λ q. nat_lt m.depth q.node.depth) rest)) node shows)
    (subst (λ (m : PartNode). whole ≡ is_whole (way_of (closed m.depth parents)) (is_text m || below)) node is)
    (subst (λ (m : PartNode). new ≡ entered m below parents) node entering)) so_far

spread-nothing : (parents : List Parent) → spread parents Nothing ≡ []
spread-nothing [] = refl
spread-nothing (p ∷ ps) = spread-nothing ps

-- no part is left
pub kept-all : (parents : List Parent) (left : List Part) (found all : List Kept) → left ≡ []
    → found ++ spread parents (forest left) ≡ all → found ≡ all
kept-all parents left found all none so_far =
    sym (append-nil found)
    ∙ ap (λ (xs : List Kept). found ++ xs) (sym (ap (λ (ps : List Part). spread parents (forest ps)) none ∙ spread-nothing parents))
    ∙ so_far
