-- What a place holds while a slot is written.
use Rattle.std.proofs.Common.{◌≡◌, ◌≢◌, ◌⊎◌, inl, inr, ℕ, ◌<◌, ◌≤◌, ◌+◌, ◌^◌, nat_le, ◌&&◌, List, [], ◌∷◌, ◌++◌, length, take, drop, Bool, true, false, not, Option, None, Some, cond, eqb, refl, sym, ◌∙◌, ap, arith, length-append}
use Rattle.std.proofs.lemmas.List.{take_at}
use Rattle.std.proofs.lemmas.Bool.{cases_eq}
use Rattle.std.proofs.lemmas.Bool.Decides.{nat_tests}
use Rattle.std.proofs.lemmas.Nat.{from_be_bytes-to_be_bytes_8}
use Rattle.std.specs.Int.{w64, from_be_bytes, to_be_bytes}
use Rattle.outside.specs.Crash.{Holds, Torn}
use Rattle.checkpoint.specs.Slots.{Slot, slot_of, slot_after, is_closed, body_spelled}
use Rattle.checkpoint.specs.Parts.{SameGate, IsReady}

nothing_after : slot_after [] ≡ None
unfolding slot_after
nothing_after = refl

opens : (gate : ℕ) (rest : List ℕ) → gate ≡ 1 → slot_of (gate ∷ rest) ≡ slot_after rest
opens gate rest is = ap (λ (g : ℕ). slot_of (g ∷ rest)) is

not_open : (gate : ℕ) (rest : List ℕ) → gate ≢ 1 → slot_of (gate ∷ rest) ≡ None
not_open gate rest ne = grind (arith, nat_tests)

closed_gate : (gate : ℕ) → not (eqb gate 1) ≡ true → gate ≢ 1
closed_gate gate was is = absurd (grind (arith, nat_tests))

open_gate : (gate : ℕ) → not (eqb gate 1) ≡ false → gate ≡ 1
open_gate gate is = grind (arith, nat_tests)

pub closed_slot : (bytes : List ℕ) → is_closed bytes ≡ true → slot_of bytes ≡ None
closed_slot [] was = refl
closed_slot (gate ∷ rest) was = not_open gate rest (closed_gate gate was)

-- the gate that is closed, or is the first byte of an empty place
pub torn_close : (old new : List ℕ) → is_closed old ≡ false → Torn 0 1 old new → (slot_of new ≡ None) ⊎ (slot_of new ≡ slot_of old)
torn_close [] [] open_ torn = inl refl
torn_close [] (g ∷ []) open_ torn = elim (cases_eq g 1) [ inl is ↦ inl (opens g [] is ∙ nothing_after) | inr ne ↦ inl (not_open g [] ne) ]
torn_close [] (g ∷ h ∷ rest) open_ torn = absurd (omega (arith, torn.no_longer))
torn_close (f ∷ back) [] open_ torn = absurd (omega (arith, torn.no_shorter))
torn_close (f ∷ back) (g ∷ rest) open_ torn = elim (cases_eq g 1) [
  | inl is ↦ inr (opens g rest is ∙ ap slot_after torn.after ∙ sym (opens f back (open_gate f open_)))
  | inr ne ↦ inl (not_open g rest ne)
]

pub made_closed : (old new : List ℕ) → Holds 0 (0 ∷ []) old new → is_closed new ≡ true
made_closed old new holds = ap is_closed holds

pub stays_closed : (old new : List ℕ) → SameGate old new → is_closed old ≡ true → is_closed new ≡ true
stays_closed [] new same was = absurd (cc)
stays_closed (f ∷ back) [] same was = absurd (cc)
stays_closed (f ∷ back) (g ∷ rest) same was = let e : g ≡ f = cc in ap (λ (x : ℕ). not (eqb x 1)) e ∙ was

tested : (b c : Bool) (x : Option Slot) → b ≡ true → c ≡ true → cond (b && c) x None ≡ x
tested b c x p q = ap (λ (d : Bool). cond (d && c) x None) p ∙ ap (λ (d : Bool). cond d x None) q

at_most : (m n : ℕ) → m ≤ n → nat_le m n ≡ true
at_most m n le = grind (arith, nat_tests)

-- a whole slot after a gate
spelled_slot : (number : ℕ) (image rest : List ℕ) → number < 2 ^ 64 → length image < 2 ^ 64 → slot_after (body_spelled number image ++ rest) ≡ Some (record { number = number; image = image })
unfolding slot_after body_spelled
spelled_slot number image rest fits small =
    let n = from_be_bytes-to_be_bytes_8 number fits in
    let k = from_be_bytes-to_be_bytes_8 (length image) small in
    let size = from_be_bytes w64 (to_be_bytes w64 (length image)) in
    let all = body_spelled number image ++ rest in
    let long : 16 ≤ length all = omega arith in
    let whole : size ≤ length (image ++ rest) = omega (arith, k, length-append image rest) in
    tested (nat_le 16 (length all)) (nat_le size (length (image ++ rest))) (Some (record { number = from_be_bytes w64 (to_be_bytes w64 number); image = take size (image ++ rest) })) (at_most 16 (length all) long) (at_most size (length (image ++ rest)) whole)
    ∙ (λ i. Some (record { number = n i; image = (ap (λ (j : ℕ). take j (image ++ rest)) k ∙ take_at image rest (length image) refl) i }))

pub ready : (number : ℕ) (image : List ℕ) (old new : List ℕ) → number < 2 ^ 64 → length image < 2 ^ 64 → is_closed old ≡ true → Holds 1 (body_spelled number image) old new → IsReady (record { number = number; image = image }) new
ready number image [] new fits small was holds = absurd (cc)
ready number image (f ∷ back) new fits small was holds =
    let rest = drop (1 + length (body_spelled number image)) (f ∷ back) in
    record {
      closed = ap is_closed holds ∙ was;
      after = ap (λ (l : List ℕ). slot_after (drop 1 l)) holds ∙ spelled_slot number image rest fits small;
    }

-- the gate is open, or not yet
pub torn_open : (saved : Slot) (old new : List ℕ) → IsReady saved old → Torn 0 1 old new → (slot_of new ≡ None) ⊎ (slot_of new ≡ Some saved)
torn_open saved [] new r torn = absurd (let e = r.closed in cc)
torn_open saved (f ∷ back) [] r torn = absurd (omega (arith, torn.no_shorter))
torn_open saved (f ∷ back) (g ∷ rest) r torn = elim (cases_eq g 1) [
  | inl is ↦ inr (opens g rest is ∙ ap slot_after torn.after ∙ r.after)
  | inr ne ↦ inl (not_open g rest ne)
]

pub opened : (saved : Slot) (old new : List ℕ) → IsReady saved old → Holds 0 (1 ∷ []) old new → slot_of new ≡ Some saved
opened saved old new r holds = ap slot_of holds ∙ r.after
