-- What is known of a file that stands in a folder, and what a call makes of it.
use Rattle.std.specs.Prelude.{◌≡◌, ◌≤◌, ℕ, List, [], length, take, IfSome}
use Rattle.std.specs.declared.option.Option.{Option}
use Rattle.std.specs.Prelude.{option_map}
use Rattle.shelves.specs.History.{over}

-- its name is this one, where it is known
abbrev pub IsNamed : List ℕ → Option (List ℕ) → Type 0
IsNamed name known = IfSome known (λ own. own ≡ name)

-- its content is at least so long, where it is known
abbrev pub Reaches : ℕ → Option (List ℕ) → Type 0
Reaches n known = IfSome known (λ bytes. n ≤ length bytes)

-- its content with these bytes at this offset
abbrev pub written_over : ℕ → List ℕ → Option (List ℕ) → Option (List ℕ)
written_over at bytes known = option_map (over at bytes) known

-- its content up to this size
abbrev pub cut_off : ℕ → Option (List ℕ) → Option (List ℕ)
cut_off size known = option_map (take size) known

-- no content, where it is known
abbrev pub emptied : Option (List ℕ) → Option (List ℕ)
emptied known = option_map (λ _. []) known
