-- Keys of chats, and their order.
use Rattle.std.specs.Prelude.{◌≡◌, ℕ, Bool, ◌==◌, if◌then◌else◌, List, [], refl}
use Rattle.std.specs.Coded.{Coded, code_by, coded×, coded_ℕ, coded_list}
use Rattle.std.specs.declared.cmp.Ordering.{Ordering}
use Rattle.std.specs.Ordering.{nat_cmp, on, then_cmp, eq_of_both}
use Rattle.std.specs.Cmp.Lexicographic.{slice_cmp, pointwise}
use Rattle.card_type.specs.declared.key.ChatKey.{ChatKey}
use Rattle.card_type.specs.declared.key.ChatKey.TheVariants.{SelfChat, Single, Group, Thread}

-- the index of its variant
abbrev pub key_rank : ChatKey → ℕ
key_rank SelfChat = 0
key_rank (Single a) = 1
key_rank (Group g) = 2
key_rank (Thread i) = 3

-- its bytes, of which the chat with oneself has none
abbrev pub key_bytes : ChatKey → List ℕ
key_bytes SelfChat = []
key_bytes (Single a) = a
key_bytes (Group g) = g
key_bytes (Thread i) = i

-- by variant, then by bytes
abbrev pub key_cmp : ChatKey → ChatKey → Ordering
key_cmp = then_cmp (on key_rank nat_cmp) (on key_bytes (slice_cmp nat_cmp))

abbrev pub key_eq : ChatKey → ChatKey → Bool
key_eq = eq_of_both (on key_rank ◌==◌) (on key_bytes (pointwise ◌==◌))

-- the key of a variant's index and bytes
abbrev pub key_at : ℕ → List ℕ → ChatKey
key_at rank bytes = if rank == 0 then SelfChat else if rank == 1 then Single bytes else if rank == 2 then Group bytes else Thread bytes

pub key_at-parts : (k : ChatKey) → key_at (key_rank k) (key_bytes k) ≡ k
key_at-parts SelfChat = refl
key_at-parts (Single a) = refl
key_at-parts (Group g) = refl
key_at-parts (Thread i) = refl

-- a key as a number and a list, by which a proof compares keys
abbrev pub coded_key : Coded ChatKey
coded_key =
    code_by (ℕ × List ℕ) (coded× coded_ℕ (coded_list coded_ℕ)) (λ k. (key_rank k, key_bytes k)) (λ p. key_at p.0 p.1) key_at-parts
