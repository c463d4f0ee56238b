-- How a group is spelled.
use Rattle.std.specs.Prelude.{◌≡◌, ℕ, ◌+◌, ◌^◌, ◌<◌, ◌≤◌, List, ◌∷◌, ◌++◌, length, flat_map}
use Rattle.std.specs.Int.{w16, to_be_bytes}
use Rattle.std.specs.List.{AllByRecursion}
use Rattle.card_type.specs.Records as records
use Rattle.mailbox_model.specs.declared.change.Change.{Change}
use Rattle.state_image.specs.declared.position.Position.{Position}
use Rattle.state_image.specs.Changes.{change_spelled, FitsChange}

-- changes, the count before them and the position after them
pub record Batch : Type 0 where
  pub base : ℕ
  pub position : Position
  pub changes : List Change

-- what has a spelling: from 1 to 256 valid changes, with which the count stays within its limit
pub record IsBatch (batch : Batch) : Type 0 where
  pub some : 1 ≤ length batch.changes
  pub few : length batch.changes ≤ 256
  pub fits : AllByRecursion FitsChange batch.changes
  pub count : batch.base + length batch.changes ≡ batch.position.count
  pub limit : batch.position.count ≤ 2 ^ 62
  pub mbox : batch.position.mbox < 2 ^ 64
  pub steps : batch.position.steps < 2 ^ 64
  pub lines : batch.position.lines ≤ batch.position.steps
  pub mbox_trace : length batch.position.mbox_trace ≡ 32
  pub steps_trace : length batch.position.steps_trace ≡ 32

-- a number of 2 bytes
abbrev pub b16 : ℕ → List ℕ
b16 n = to_be_bytes w16 n

-- the body of a group of n changes with this spelling
abbrev pub body_spelled : Position → ℕ → List ℕ → List ℕ
body_spelled position n changes =
    b16 (32768 + n) ++ records.b64 position.mbox ++ records.b64 position.steps ++ records.b64 position.lines
    ++ (position.mbox_trace ++ position.steps_trace) ++ changes

-- a group with an open gate
abbrev pub open_group : ℕ → List ℕ → List ℕ
open_group base body = 1 ∷ records.b64 base ++ records.block body

-- how many bytes it has before its changes
abbrev pub group_head : ℕ
group_head = 103

abbrev pub group_spelled : Batch → List ℕ
group_spelled batch = open_group batch.base (body_spelled batch.position (length batch.changes) (flat_map change_spelled batch.changes))

-- ---- version 1, which has no traces: it is read, and not written

abbrev pub old_body : Position → ℕ → List ℕ → List ℕ
old_body position n changes = b16 n ++ records.b64 position.mbox ++ records.b64 position.steps ++ records.b64 position.lines ++ changes

abbrev pub old_group_head : ℕ
old_group_head = 39

abbrev pub old_group : Batch → List ℕ
old_group batch = open_group batch.base (old_body batch.position (length batch.changes) (flat_map change_spelled batch.changes))

-- n changes that have this spelling
pub record AreSpelled (n : ℕ) (bytes : List ℕ) (changes : List Change) : Type 0 where
  pub length_is : length changes ≡ n
  pub text : bytes ≡ flat_map change_spelled changes
