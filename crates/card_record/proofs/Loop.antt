-- Reading values one after the other, as a loop does.
use Rattle.std.proofs.Common.{◌≡◌, ℕ, suc, ◌-◌, ◌+◌, ◌≤◌, ◌<◌, List, [], ◌∷◌, ◌++◌, Ok, Err, refl, sym, ◌∙◌, arith}
use Rattle.card_record.specs.declared.fault.ReadFault.{ReadFault}
use Rattle.card_record.specs.declared.fault.ReadFault.TheVariants as faults
use Rattle.card_record.specs.Reading.{Read, Fails, times_of}

module _ {X : Type 0} (read : List X → List ℕ → Read X) (count : ℕ) (total : Read (List X)) where
  pub goes_on : (front : List X) (i : ℕ) (bytes : List ℕ) (x : X) (after : List ℕ) → i < count → read front bytes ≡ Ok (x, after)
      → times_of read front (count - i) bytes ≡ total → times_of read (front ++ x ∷ []) (count - (i + 1)) after ≡ total
  unfolding times_of
  goes_on front i bytes x after lt h so_far =
      let k : count - i ≡ suc (count - (i + 1)) = omega arith in
      let one : times_of read front (count - i) bytes ≡ times_of read (front ++ x ∷ []) (count - (i + 1)) after = rw (k, h) refl in
      sym one ∙ so_far

  pub ends : (e : ReadFault) (front : List X) (i : ℕ) (bytes : List ℕ) → i < count → Fails e (read front bytes)
      → times_of read front (count - i) bytes ≡ total → Fails e total
  unfolding times_of
  ends faults.Memory front i bytes lt h so_far = tt
  ends (faults.Malformed left) front i bytes lt h so_far =
      let k : count - i ≡ suc (count - (i + 1)) = omega arith in
      let one : times_of read front (count - i) bytes ≡ Err left = rw (k, h) refl in
      sym so_far ∙ one

  pub is_done : (front : List X) (i : ℕ) (bytes : List ℕ) → count ≤ i → times_of read front (count - i) bytes ≡ total → total ≡ Ok (front, bytes)
  unfolding times_of
  is_done front i bytes le so_far =
      let k : count - i ≡ 0 = omega arith in
      let one : times_of read front (count - i) bytes ≡ Ok (front, bytes) = rw k refl in
      sym so_far ∙ one
