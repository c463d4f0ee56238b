-- Worked rows of the definitions, which compute.
use Rattle.std.proofs.Common.{◌≡◌, [], ◌∷◌, refl}
use Rattle.outside.specs.Unsynced.{Write, Cut}
use Rattle.shelves.specs.declared.call.Crash.TheVariants.{Old, New, Ones}
use Rattle.shelves.specs.History.{Content, at_first, written, cut_to, synced_now, pick_of}

-- three synced bytes, two written at their end, and a cut to four
abbrev grown : Content
grown = cut_to 4 (written 3 (4 ∷ 5 ∷ []) (at_first (7 ∷ 8 ∷ 9 ∷ [])))

row_old : pick_of Old grown ≡ 7 ∷ 8 ∷ 9 ∷ []
row_old = refl

row_new : pick_of New grown ≡ 7 ∷ 8 ∷ 9 ∷ 4 ∷ []
row_new = refl

row_ones : pick_of Ones grown ≡ 7 ∷ 8 ∷ 9 ∷ 1 ∷ 1 ∷ []
row_ones = refl

row_calls : grown.calls ≡ Cut 4 ∷ Write 3 2 ∷ []
row_calls = refl

row_within : pick_of Ones (written 1 (4 ∷ []) (at_first (7 ∷ 8 ∷ 9 ∷ []))) ≡ 7 ∷ 1 ∷ 9 ∷ []
row_within = refl

row_synced : synced_now grown ≡ at_first (7 ∷ 8 ∷ 9 ∷ 4 ∷ [])
row_synced = refl
