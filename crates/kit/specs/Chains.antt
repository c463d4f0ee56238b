-- The chain of bytes: a digest of all of them, which goes on as they do.
use Rattle.std.specs.Prelude.{◌≡◌, ℕ, zero, suc, ◌+◌, ◌*◌, ◌/◌, List, [], ◌∷◌, ◌++◌, length, take, drop, replicate}
use Rattle.sha2.specs.Sha256.{sha256}

-- how many bytes a block has, but for the last one of all, which may have fewer
abbrev pub block_len : ℕ
block_len = 4096

-- the value before any block
abbrev pub first_value : List ℕ
first_value = replicate 32 0

-- the value after a block
abbrev pub chained : List ℕ → List ℕ → List ℕ
chained value block = sha256 (value ++ block)

-- the value after so many blocks of these bytes, from a value before them
unfoldable pub after_blocks : List ℕ → ℕ → List ℕ → List ℕ
after_blocks value zero bytes = value
after_blocks value (suc n) bytes = chained (after_blocks value n bytes) (take block_len (drop (n * block_len) bytes))

-- the value after all blocks, of which the last has the bytes that are left
unfoldable pub chain : List ℕ → List ℕ
chain bytes = after_blocks first_value ((length bytes + 4095) / block_len) bytes

-- ---- bytes that come piece by piece

-- the value after the whole blocks, and the bytes of the block that is not full
pub record Cut : Type 0 where
  pub value : List ℕ
  pub block : List ℕ

-- so many blocks of these bytes after a value, and what is left of them
abbrev pub cut_after : List ℕ → ℕ → List ℕ → Cut
cut_after value count bytes = record { value = after_blocks value count bytes; block = drop (count * block_len) bytes }

-- with more bytes
unfoldable pub cut_on : Cut → List ℕ → Cut
cut_on c more = cut_after c.value (length (c.block ++ more) / block_len) (c.block ++ more)

-- before any bytes
abbrev pub no_cut : Cut
no_cut = record { value = first_value; block = [] }

-- more bytes, which leave the block not full
abbrev pub with_bytes : Cut → List ℕ → Cut
with_bytes c bytes = record { value = c.value; block = c.block ++ bytes }

-- more bytes, which fill the block
abbrev pub with_block : Cut → List ℕ → Cut
with_block c bytes = record { value = chained c.value (c.block ++ bytes); block = [] }

-- it is what these bytes are cut into
abbrev pub StandsFor : Cut → List ℕ → Type 0
StandsFor c bytes = c ≡ cut_on no_cut bytes

-- the value with these bytes after it, where there are any
abbrev pub value_with : List ℕ → List ℕ → List ℕ
value_with value [] = value
value_with value (b ∷ bs) = chained value (b ∷ bs)

-- the value after the block that is not full too
abbrev pub value_of : Cut → List ℕ
value_of c = value_with c.value c.block

-- these bytes were added to all for which it stands
abbrev pub Adds : Cut → Cut → List ℕ → Type 0
Adds old new bytes = (before : List ℕ) → StandsFor old before → StandsFor new (before ++ bytes)
