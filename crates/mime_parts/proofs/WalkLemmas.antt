-- One step of the walk through a tree.
use Rattle.std.proofs.Common.{◌≡◌, ℕ, zero, suc, ◌+◌, ◌-◌, Bool, false, List, [], ◌∷◌, ◌++◌, length, map, refl, sym, ap, ◌∙◌, arith, append_assoc, length-append}
use Rattle.std.specs.Prelude.{◌==◌, All, reverse}
use Rattle.std.proofs.lemmas.List.{append-nil, length-map, length-reverse, reverse-append, reverse-reverse}
use Rattle.std.proofs.lemmas.List.Elements.{All-append, All-head, All-map, All-push, All-same, All-tail}
use Rattle.mail_headers.specs.Headers.{Head}
use Rattle.mime_parts.specs.declared.multipart.Span.{Span}
use Rattle.mime_parts.specs.declared.part.PartNode.{PartNode}
use Rattle.mime_parts.specs.declared.tree.Work.{Work}
use Rattle.mime_parts.specs.Trees.{Part, each, grown, is_digest, kind_of, node_of, opened, part, part_at, tree}
use Rattle.mime_parts.specs.Walks.{IsWithin, coming, walked, work_at}

walked-each : (body : List ℕ) (levels : ℕ) (digest : Bool) (ss : List Span) (known : ℕ) (ws : List Work)
    → walked body (map (work_at levels digest) ss ++ ws) known
    ≡ (each (λ span. grown body levels digest (part_at body span)) ss known).nodes ++ walked body ws (each (λ span. grown body levels digest (part_at body span)) ss known).known
walked-each body levels digest [] known ws = refl
walked-each body levels digest (s ∷ ss) known ws =
    let grow = λ (span : Span). grown body levels digest (part_at body span) in
    let first = grow s known in
    let more = each grow ss first.known in
    ap (λ (nodes : List PartNode). first.nodes ++ nodes) (walked-each body levels digest ss first.known ws)
    ∙ sym (append_assoc first.nodes more.nodes (walked body ws more.known))

-- a part is read: its node comes first, and then what the parts in it give
pub grown-step : (body : List ℕ) (levels : ℕ) (digest : Bool) (p : Part) (known : ℕ) (ws : List Work)
    → (grown body levels digest p known).nodes ++ walked body ws (grown body levels digest p known).known
    ≡ node_of levels digest p (length (opened body levels (kind_of digest p.head) p.span known) == 0)
    ∷ walked body (map (work_at (levels - 1) (is_digest (kind_of digest p.head))) (opened body levels (kind_of digest p.head) p.span known) ++ ws) (known + length (opened body levels (kind_of digest p.head) p.span known))
grown-step body zero digest p known ws = let same : known + 0 ≡ known = omega arith in rw same refl
grown-step body (suc levels) digest p known ws =
    let kind = kind_of digest p.head in
    let ss = opened body (suc levels) kind p.span known in
    let less : suc levels - 1 ≡ levels = omega arith in
    ap (λ (nodes : List PartNode). node_of (suc levels) digest p (length ss == 0) ∷ nodes)
    (sym (walked-each body levels (is_digest kind) ss (known + length ss) ws)
    ∙ ap (λ l. walked body (map (work_at l (is_digest kind)) ss ++ ws) (known + length ss)) (sym less))

-- the same, of work of which the last comes first
pub stack-step : (body : List ℕ) (levels below : ℕ) (digest within : Bool) (p : Part) (known : ℕ) (nodes new : List PartNode) (work more : List Work) (ss : List Span) (leaf : Bool) (node : PartNode)
    → ss ≡ opened body levels (kind_of digest p.head) p.span known → below ≡ levels - 1 → within ≡ is_digest (kind_of digest p.head) → leaf ≡ (length ss == 0)
    → node ≡ node_of levels digest p leaf → new ≡ nodes ++ node ∷ [] → more ≡ work ++ reverse (map (work_at below within) ss) → known ≡ length nodes + length work + 1
    → coming body new more ≡ nodes ++ ((grown body levels digest p known).nodes ++ walked body (reverse work) (grown body levels digest p known).known)
stack-step body levels below digest within p known nodes new work more ss leaf node is less in_digest is_leaf read pushed stacked count =
    let upper = map (work_at below within) ss in
    let top : reverse more ≡ upper ++ reverse work = ap reverse stacked ∙ reverse-append work (reverse upper) ∙ ap (λ (ws : List Work). ws ++ reverse work) (reverse-reverse upper) in
    let many : length new + length more ≡ known + length ss = omega (arith, ap length pushed, ap length stacked, length-append nodes (node ∷ []), length-append work (reverse upper), length-reverse upper, length-map ss (work_at below within), count) in
    let step = grown-step body levels digest p known (reverse work) in
    ap (λ (ns : List PartNode). ns ++ walked body (reverse more) (length new + length more)) pushed
    ∙ append_assoc nodes (node ∷ []) (walked body (reverse more) (length new + length more))
    ∙ ap (λ k. nodes ++ node ∷ walked body (reverse more) k) many
    ∙ ap (λ (ws : List Work). nodes ++ node ∷ walked body ws (known + length ss)) top
    ∙ ap (λ (ns : List PartNode). nodes ++ ns) (sym (rw (← is, ← is_leaf, ← less, ← in_digest, ← read) at step))

All-reverse : {X : Type 0} (P : X → Type 0) (xs : List X) → All P xs → All P (reverse xs)
All-reverse P [] all = all
All-reverse P (x ∷ xs) all =
    All-same P (reverse (x ∷ xs)) (reverse xs ++ x ∷ []) (reverse-append (x ∷ []) xs)
    (All-push P (reverse xs) x (All-reverse P xs (All-tail P x xs all)) (All-head P x xs all))

-- the work is in so many bytes, and so has what was put on top of it
pub work-within : (len levels : ℕ) (digest : Bool) (work more : List Work) (ss : List Span) → more ≡ work ++ reverse (map (work_at levels digest) ss)
    → All (λ w. IsWithin len w.span) work → All (IsWithin len) ss → All (λ w. IsWithin len w.span) more
work-within len levels digest work more ss stacked old new =
    let P : Work → Type 0 = λ w. IsWithin len w.span in
    let upper = map (work_at levels digest) ss in
    All-same P more (work ++ reverse upper) stacked (All-append P work (reverse upper) old (All-reverse P upper (All-map P (work_at levels digest) ss new)))

first-step : (body : List ℕ) (levels : ℕ) (digest : Bool) (p : Part) (nodes all : List PartNode) (work : List Work) (known : ℕ) → nodes ≡ [] → work ≡ [] → known ≡ 1
    → all ≡ nodes ++ ((grown body levels digest p known).nodes ++ walked body (reverse work) (grown body levels digest p known).known)
    → all ≡ (grown body levels digest p 1).nodes
first-step body levels digest p nodes all work known no_nodes no_work one read =
    let grow = grown body levels digest p in
    read
    ∙ ap (λ (ns : List PartNode). ns ++ ((grow known).nodes ++ walked body (reverse work) (grow known).known)) no_nodes
    ∙ ap (λ (ws : List Work). (grow known).nodes ++ walked body (reverse ws) (grow known).known) no_work
    ∙ append-nil (grow known).nodes
    ∙ ap (λ k. (grow k).nodes) one

-- the walk begins with the mail itself
pub stack-first : (body : List ℕ) (head : Head) (nodes all : List PartNode) (work : List Work) (known : ℕ) → nodes ≡ [] → work ≡ [] → known ≡ 1
    → all ≡ nodes ++ ((grown body 16 false (part head (record { start = 0; end = length body })) known).nodes
    ++ walked body (reverse work) (grown body 16 false (part head (record { start = 0; end = length body })) known).known)
    → all ≡ tree head body
stack-first body head = first-step body 16 false (part head (record { start = 0; end = length body }))

-- what was next is read
pub stack-kept : (body : List ℕ) (nodes new all : List PartNode) (old work more : List Work) (w : Work) (known : ℕ) → old ≡ work ++ w ∷ []
    → known ≡ length nodes + length work + 1
    → coming body new more ≡ nodes ++ ((grown body w.levels w.digest (part_at body w.span) known).nodes
    ++ walked body (reverse work) (grown body w.levels w.digest (part_at body w.span) known).known)
    → coming body nodes old ≡ all → coming body new more ≡ all
stack-kept body nodes new all old work more w known popped count read so_far =
    let top : reverse old ≡ w ∷ reverse work = ap reverse popped ∙ reverse-append work (w ∷ []) in
    let many : known ≡ length nodes + length old = omega (arith, count, ap length popped, length-append work (w ∷ [])) in
    read
    ∙ ap (λ k. nodes ++ walked body (w ∷ reverse work) k) many
    ∙ ap (λ (ws : List Work). nodes ++ walked body ws (length nodes + length old)) (sym top)
    ∙ so_far
