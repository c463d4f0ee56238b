-- Updates that are added one after the other, each with the next serial.
use Rattle.std.proofs.Common.{◌≡◌, sym, ap, ◌∙◌, ℕ, suc, ◌+◌, List, [], ◌∷◌, ◌++◌, length, map, arith, take, get_or, ◌<◌}
use Rattle.std.specs.List.{enumerate_from}
use Rattle.std.proofs.lemmas.List.{append_assoc, length-map, length-take-le, map-append, take_more}
use Rattle.std.proofs.lemmas.List.FromFn.{length-enumerate_from}
use Rattle.card_type.specs.declared.card.Update.{Update}
use Rattle.mailbox_model.specs.declared.row.UpdateRow.{UpdateRow}
use Rattle.mailbox_model.specs.Present.{Placed}
use Rattle.mailbox_model.specs.Rows.{Brought, update_row}

abbrev pub numbered : List Brought → List UpdateRow
numbered bs = map (λ b. update_row b.0 b.1) (enumerate_from 1 bs)

-- updates as a card brings them
abbrev pub brought_of : Placed → List Update → List Brought
brought_of e us = map (λ p. record { by = e; part = p.0; update = p.1 }) (enumerate_from 0 us)

enumerate_more : {X : Type 0} (n : ℕ) (xs : List X) (x : X) → enumerate_from n (xs ++ x ∷ []) ≡ enumerate_from n xs ++ (n + length xs, x) ∷ []
enumerate_more {X} n [] x = let e : n ≡ n + 0 = omega arith in ap {B = List (ℕ × X)} (λ k. (k, x) ∷ []) e
enumerate_more {X} n (y ∷ ys) x =
    let e : n + 1 + length ys ≡ n + suc (length ys) = omega arith in
    ap {B = List (ℕ × X)} (λ zs. (n, y) ∷ zs) (enumerate_more (n + 1) ys x ∙ ap {B = List (ℕ × X)} (λ k. enumerate_from (n + 1) ys ++ (k, x) ∷ []) e)

length-numbered : (bs : List Brought) → length (numbered bs) ≡ length bs
length-numbered bs = length-map (enumerate_from 1 bs) (λ b. update_row b.0 b.1) ∙ length-enumerate_from 1 bs

numbered_more : (bs : List Brought) (b : Brought) → numbered (bs ++ b ∷ []) ≡ numbered bs ++ update_row (suc (length bs)) b ∷ []
numbered_more bs b =
    let serial : 1 + length bs ≡ suc (length bs) = omega arith in
    ap (map (λ b. update_row b.0 b.1)) (enumerate_more 1 bs b)
    ∙ map-append (λ b. update_row b.0 b.1) (enumerate_from 1 bs) ((1 + length bs, b) ∷ [])
    ∙ ap (λ n. numbered bs ++ update_row n b ∷ []) serial

brought_more : (e : Placed) (us : List Update) (u : Update) → brought_of e (us ++ u ∷ []) ≡ brought_of e us ++ record { by = e; part = length us; update = u } ∷ []
brought_more e us u =
    let part : 0 + length us ≡ length us = omega arith in
    ap (map (λ p. record { by = e; part = p.0; update = p.1 })) (enumerate_more 0 us u)
    ∙ map-append (λ p. record { by = e; part = p.0; update = p.1 }) (enumerate_from 0 us) ((0 + length us, u) ∷ [])
    ∙ ap (λ n. brought_of e us ++ record { by = e; part = n; update = u } ∷ []) part

-- one more update of a card, after all of others and some of its own
update_more : (bs : List Brought) (e : Placed) (us : List Update) (u : Update) (old : List UpdateRow) (part : ℕ)
    → old ≡ numbered (bs ++ brought_of e us) → part ≡ length us
    → old ++ update_row (suc (length old)) (record { by = e; part = part; update = u }) ∷ [] ≡ numbered (bs ++ brought_of e (us ++ u ∷ []))
update_more bs e us u old part is at =
    let b : Brought = record { by = e; part = length us; update = u } in
    let before = bs ++ brought_of e us in
    let serial : length old ≡ length before = ap length is ∙ length-numbered before in
    (λ i. is i ++ update_row (suc (serial i)) (record { by = e; part = at i; update = u }) ∷ [])
    ∙ sym (numbered_more before b)
    ∙ ap numbered (append_assoc bs (brought_of e us) (b ∷ []) ∙ ap (λ own. bs ++ own) (sym (brought_more e us u)))

-- the next update of a card, after those before it
pub update_next : (bs : List Brought) (e : Placed) (us : List Update) (i : ℕ) (u : Update) (old : List UpdateRow) (part : ℕ)
    → i < length us → u ≡ get_or us i u → part ≡ i → old ≡ numbered (bs ++ brought_of e (take i us))
    → old ++ update_row (suc (length old)) (record { by = e; part = part; update = u }) ∷ [] ≡ numbered (bs ++ brought_of e (take (i + 1) us))
update_next bs e us i u old part lt here at is =
    let own : take i us ++ u ∷ [] ≡ take (i + 1) us = ap (λ v. take i us ++ v ∷ []) here ∙ sym (take_more us i u lt) in
    update_more bs e (take i us) u old part is (at ∙ sym (length-take-le i us (omega arith)))
    ∙ ap (λ vs. numbered (bs ++ brought_of e vs)) own
