-- Worked rows of the definitions, which compute.
use Rattle.std.proofs.Common.{◌≡◌, inl, [], ◌∷◌, refl, arith}
use Rattle.outside.specs.Crash.{Holds, Torn, PartlyCut}
use Rattle.outside.specs.Unsynced.{Write, Cut, Leaves, IsUnwritten, size_now, least_size, greatest_size}

-- a write within, a write past the end, a write torn and a write of which all but the size came
row_holds : Holds 1 (4 ∷ []) (7 ∷ 8 ∷ 9 ∷ []) (7 ∷ 4 ∷ 9 ∷ [])
row_holds = refl

row_holds_past : Holds 2 (4 ∷ 5 ∷ []) (7 ∷ 8 ∷ 9 ∷ []) (7 ∷ 8 ∷ 4 ∷ 5 ∷ [])
row_holds_past = refl

row_torn : Torn 2 2 (7 ∷ 8 ∷ 9 ∷ []) (7 ∷ 8 ∷ 0 ∷ 0 ∷ [])
row_torn = record { before = refl; after = refl; no_shorter = omega arith; no_longer = omega arith }

row_torn_short : Torn 2 2 (7 ∷ 8 ∷ 9 ∷ []) (7 ∷ 8 ∷ 0 ∷ [])
row_torn_short = record { before = refl; after = refl; no_shorter = omega arith; no_longer = omega arith }

row_partly_cut : PartlyCut 1 (7 ∷ 8 ∷ 9 ∷ []) (7 ∷ 8 ∷ [])
row_partly_cut = record { no_longer = omega arith; no_shorter = omega arith; front = refl }

-- a cut to 1 and a write of one byte after it, on three synced bytes
row_size : size_now 3 (Write 1 1 ∷ Cut 1 ∷ []) ≡ 2
row_size = refl

row_least : least_size 3 (Write 1 1 ∷ Cut 1 ∷ []) ≡ 1
row_least = refl

row_greatest : greatest_size 3 (Write 1 1 ∷ Cut 1 ∷ []) ≡ 3
row_greatest = refl

row_unwritten : IsUnwritten 0 (Write 1 1 ∷ Cut 1 ∷ [])
row_unwritten = (inl (omega arith), tt)

-- the write came to the disk and the cut did not
row_left : Leaves (7 ∷ 8 ∷ 9 ∷ []) (Write 1 1 ∷ Cut 1 ∷ []) (7 ∷ 0 ∷ 9 ∷ [])
row_left = (
  7 ∷ 8 ∷ 9 ∷ [],
  (7 ∷ 8 ∷ 9 ∷ [], refl, record { no_longer = omega arith; no_shorter = omega arith; front = refl }),
  record { before = refl; after = refl; no_shorter = omega arith; no_longer = omega arith },
)
