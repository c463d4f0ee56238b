-- The order in which a value of JSON has the members of its objects.
use Rattle.std.specs.Prelude.{ℕ, List, [], ◌∷◌, ⊤}
use Rattle.std.specs.Cmp.Lexicographic.{slice_cmp}
use Rattle.std.specs.List.Sorted.{IsStrictlySortedBy}
use Rattle.std.specs.Ordering.{nat_cmp}
use Rattle.serde_json.specs.Data.{Data, null, boolean, number, string, array, object, Items, no_items, item, Members, no_members, member}

-- the names of members, in their order
abbrev pub names : Members → List (List ℕ)
names no_members = []
names (member name value later) = name ∷ names later

-- each object in a value has its members in byte order of their names, and each name once
abbrev mutual
  pub IsOrdered : Data → Type 0
  IsOrdered null = ⊤
  IsOrdered (boolean b) = ⊤
  IsOrdered (number n) = ⊤
  IsOrdered (string s) = ⊤
  IsOrdered (array values) = AreOrdered values
  IsOrdered (object fields) = IsStrictlySortedBy (slice_cmp nat_cmp) (names fields) × HaveOrdered fields

  pub AreOrdered : Items → Type 0
  AreOrdered no_items = ⊤
  AreOrdered (item value later) = IsOrdered value × AreOrdered later

  pub HaveOrdered : Members → Type 0
  HaveOrdered no_members = ⊤
  HaveOrdered (member name value later) = IsOrdered value × HaveOrdered later
