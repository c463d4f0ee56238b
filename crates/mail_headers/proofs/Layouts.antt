-- Fields in a buffer, one after the other.
use Rattle.std.proofs.Common.{◌≡◌, ℕ, suc, ◌+◌, ◌≤◌, List, [], ◌∷◌, ◌++◌, length, take, drop, refl, ap, arith, length-append, length-drop}
use Rattle.std.proofs.lemmas.List.{take-append-le, drop-append-le}
use Rattle.std.proofs.Math.Seq.{take-append_seam, drop-append_seam, take-length}
use Rattle.mail_headers.specs.declared.fields.Lengths.{Lengths}
use Rattle.mail_headers.specs.Fields.{Field}
use Rattle.mail_headers.specs.Layout.{total, fields_in}

abbrev lengths : List ℕ → List ℕ → Lengths
lengths name body = record { name = length name; body = length body }

abbrev field : List ℕ → List ℕ → Field
field name body = record { name = name; body = body }

-- there are as many fields as lengths
pub length-fields_in : (ls : List Lengths) (bytes : List ℕ) → length (fields_in ls bytes) ≡ length ls
length-fields_in [] bytes = refl
length-fields_in (l ∷ ls) bytes = ap suc (length-fields_in ls (drop l.body (drop l.name bytes)))

total_more : (ls : List Lengths) (l : Lengths) → total (ls ++ l ∷ []) ≡ total ls + (l.name + l.body)
total_more [] l = omega arith
total_more (k ∷ ks) l = omega (arith, total_more ks l)

-- one more field
pub total_push : (ls : List Lengths) (bytes name body : List ℕ) → total ls ≡ length bytes
    → total (ls ++ lengths name body ∷ []) ≡ length (bytes ++ (name ++ body))
total_push ls bytes name body full = omega (arith, total_more ls (lengths name body), length-append bytes (name ++ body), length-append name body)

pub fields_in_push : (ls : List Lengths) (bytes name body : List ℕ) → total ls ≡ length bytes
    → fields_in (ls ++ lengths name body ∷ []) (bytes ++ (name ++ body)) ≡ fields_in ls bytes ++ field name body ∷ []
fields_in_push [] [] name body full = rw (take-append_seam, drop-append_seam, take-length) refl
fields_in_push [] (b ∷ bytes) name body full = absurd (omega arith)
fields_in_push (l ∷ ls) bytes name body full =
    let more = name ++ body in
    let name_within : l.name ≤ length bytes = omega arith in
    let rest = drop l.name bytes in
    let body_within : l.body ≤ length rest = omega (arith, length-drop l.name bytes) in
    let left : total ls ≡ length (drop l.body rest) = omega (arith, length-drop l.name bytes, length-drop l.body rest) in
    rw (take-append-le l.name bytes more name_within, drop-append-le l.name bytes more name_within, take-append-le l.body rest more body_within, drop-append-le l.body rest more body_within)
    (ap (λ (fs : List Field). field (take l.name bytes) (take l.body rest) ∷ fs) (fields_in_push ls (drop l.body rest) name body left))
