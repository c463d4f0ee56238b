-- The state that stands in the three places: that of the chosen slot after the groups of T.
use Rattle.std.specs.Prelude.{◌≡◌, ℕ, List, [], ◌∷◌, flat_map, map, Option, None, Some, option_map, Result, Ok, Err, if◌then◌else◌}
use Rattle.outside.specs.declared.shelf.Place.{Place}
use Rattle.outside.specs.declared.shelf.Place.TheVariants.{T}
use Rattle.outside.specs.Places.{Places}
use Rattle.mailbox_model.specs.declared.change.Change.{Change}
use Rattle.mailbox_model.specs.Lists.{Bytes}
use Rattle.mailbox_model.specs.Mailbox.{Mailbox, after, after_all, full, AreAllowed, IsMailbox}
use Rattle.card_record.specs.Reading.{◌>>=◌}
use Rattle.state_image.specs.declared.position.Position.{Position}
use Rattle.checkpoint.specs.Kept.{kept_of}
use Rattle.tail_journal.specs.Groups.{Applied}
use Rattle.tail_journal.specs.Read.{groups_from, in_tail}
use Rattle.state_store.specs.States.{State, first_state}

-- ---- groups, applied to a state

-- The changes are made in order. Where the mailbox has no room for one, its place is told.
abbrev pub made : Mailbox → List (ℕ × Change) → Result Mailbox ℕ
made m [] = Ok m
made m (x ∷ more) = if full m x.1 then Err x.0 else made (after m x.1) more

abbrev pub after_group : State → Applied → Result State ℕ
after_group s group = made s.mailbox group.changes >>= λ m. Ok (record { mailbox = m; position = group.position })

abbrev pub after_groups : State → List Applied → Result State ℕ
after_groups s [] = Ok s
after_groups s (group ∷ more) = after_group s group >>= λ next. after_groups next more

-- the changes of groups, in their order
abbrev pub changes_in : List Applied → List Change
changes_in groups = flat_map (λ group. map (λ x. x.1) group.changes) groups

-- one mailbox comes of another by changes, each of which is allowed where it comes
pub record ComesBy (m : Mailbox) (changes : List Change) (n : Mailbox) : Type 0 where
  pub rules : IsMailbox m
  pub allowed : AreAllowed m changes
  pub is : n ≡ after_all m changes

-- ---- what is found

-- what the chosen slot keeps, where there is one, and the groups of T that are applied after it
pub record Found : Type 0 where
  pub kept : Option (Mailbox × Position)
  pub groups : List Applied

-- T is read from the count of what is kept
abbrev pub count_in : Option (Mailbox × Position) → Option ℕ
count_in kept = option_map (λ k. k.1.count) kept

abbrev pub with_groups : Option (Mailbox × Position) → Result (List Applied) ℕ → Result Found (Place × ℕ)
with_groups kept (Ok groups) = Ok (record { kept = kept; groups = groups })
with_groups kept (Err at) = Err (T, at)

abbrev pub with_tail : List ℕ → Result (Option (Mailbox × Position)) (Place × ℕ) → Result Found (Place × ℕ)
with_tail tail (Ok kept) = with_groups kept (groups_from (count_in kept) tail)
with_tail tail (Err bad) = Err bad

abbrev pub found_of : Places → Result Found (Place × ℕ)
found_of places = with_tail places.t (kept_of places)

-- ---- the state

-- the state of the chosen slot; where there is none nothing was followed yet
abbrev pub begins : Bytes → Option (Mailbox × Position) → State
begins me None = first_state me
begins me (Some kept) = record { mailbox = kept.0; position = kept.1 }

abbrev pub stand_of : Bytes → Result Found (Place × ℕ) → Result State (Place × ℕ)
stand_of me (Ok found) = in_tail (after_groups (begins me found.kept) found.groups)
stand_of me (Err bad) = Err bad

-- for this own address: the state, or the place of the first damage and the offset there
abbrev pub stands : Bytes → Places → Result State (Place × ℕ)
stands me places = stand_of me (found_of places)

-- this mailbox comes of that of the chosen slot, by the changes of the groups
abbrev pub ComesOf : Bytes → Found → Mailbox → Type 0
ComesOf me found m = ComesBy (begins me found.kept).mailbox (changes_in found.groups) m
