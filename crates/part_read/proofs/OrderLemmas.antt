-- What is read as JSON has its members in byte order.
use Rattle.std.proofs.Common.{◌≡◌, ℕ, List, Bool, true, false, Option, Some, None, Ordering, Less, Equal, Greater, refl, ap, ◌∙◌, IfSome, option_and_then, option_map}
use Rattle.std.specs.Cmp.Lexicographic.{slice_cmp, nat_list_cmp_total}
use Rattle.std.specs.List.{AllByRecursion}
use Rattle.std.specs.List.Sorted.{IsStrictlySortedBy}
use Rattle.std.specs.Ordering.{nat_cmp, match_ordering, ordering_reverse}
use Rattle.std.specs.Str.{is_utf8}
use Rattle.json.specs.Json as json
use Rattle.json.specs.Lex.{tokens}
use Rattle.serde_json.specs.Data.{Data, Num, number, item, array, object, Members, no_members, member, put}
use Rattle.serde_json.specs.Read.{number_of, of_json, of_items, of_members, max_depth, read}
use Rattle.part_read.specs.Updates.{json as json_of}
use Rattle.part_read.specs.Orders.{names, IsOrdered, AreOrdered, HaveOrdered}

abbrev cmp : List ℕ → List ℕ → Ordering
cmp = slice_cmp nat_cmp

-- a name is below those of all the members
abbrev Above : List ℕ → Members → Type 0
Above name fields = AllByRecursion (λ other. cmp name other ≡ Less) (names fields)

above_put_at : (o : Ordering) (low k l : List ℕ) (d e : Data) (fields : Members)
    → cmp low k ≡ Less → cmp low l ≡ Less → Above low fields → Above low (put k d fields)
    → Above low (match_ordering o (member k d (member l e fields)) (member l d fields) (member l e (put k d fields)))
above_put_at Less low k l d e fields new old more rest = (new, (old, more))
above_put_at Equal low k l d e fields new old more rest = (old, more)
above_put_at Greater low k l d e fields new old more rest = (old, rest)

above_put : (low k : List ℕ) (d : Data) (fields : Members) → cmp low k ≡ Less → Above low fields → Above low (put k d fields)
above_put low k d no_members new h = (new, tt)
above_put low k d (member l e fields) new h = above_put_at _ low k l d e fields new h.0 h.1 (above_put low k d fields new h.1)

-- what is below the lowest is below all
below : (low name : List ℕ) (fields : Members) → cmp low name ≡ Less → Above name fields → Above low fields
below low name no_members lower h = tt
below low name (member l e fields) lower h = (nat_list_cmp_total.trans low name l lower h.0, below low name fields lower h.1)

abbrev Sorted : Members → Type 0
Sorted fields = IsStrictlySortedBy cmp (names fields)

sorted_put_at : (o : Ordering) (k l : List ℕ) (d e : Data) (fields : Members)
    → cmp k l ≡ o → Above l fields → Sorted fields → Sorted (put k d fields)
    → Sorted (match_ordering o (member k d (member l e fields)) (member l d fields) (member l e (put k d fields)))
unfolding IsStrictlySortedBy
sorted_put_at Less k l d e fields is above sorted rest = ((is, below k l fields is above), (above, sorted))
sorted_put_at Equal k l d e fields is above sorted rest = (above, sorted)
sorted_put_at Greater k l d e fields is above sorted rest =
    (above_put l k d fields (nat_list_cmp_total.antisymm l k ∙ ap ordering_reverse is) above, rest)

-- members that are in order stay so with one more
sorted_put : (k : List ℕ) (d : Data) (fields : Members) → Sorted fields → Sorted (put k d fields)
unfolding IsStrictlySortedBy
sorted_put k d no_members h = (tt, tt)
sorted_put k d (member l e fields) h = sorted_put_at _ k l d e fields refl h.0 h.1 (sorted_put k d fields h.1)

sorted_none : Sorted no_members
unfolding IsStrictlySortedBy
sorted_none = tt

have_put_at : (o : Ordering) (k l : List ℕ) (d e : Data) (fields : Members)
    → IsOrdered d → IsOrdered e → HaveOrdered fields → HaveOrdered (put k d fields)
    → HaveOrdered (match_ordering o (member k d (member l e fields)) (member l d fields) (member l e (put k d fields)))
have_put_at Less k l d e fields new old more rest = (new, (old, more))
have_put_at Equal k l d e fields new old more rest = (new, more)
have_put_at Greater k l d e fields new old more rest = (old, rest)

-- so do their values
have_put : (k : List ℕ) (d : Data) (fields : Members) → IsOrdered d → HaveOrdered fields → HaveOrdered (put k d fields)
have_put k d no_members new h = (new, tt)
have_put k d (member l e fields) new h = have_put_at _ k l d e fields new h.0 h.1 (have_put k d fields new h.1)

-- what holds of the value in an option, through a step
after_map : {A B : Type 0} (f : A → B) (P : A → Type 0) (Q : B → Type 0) (o : Option A)
    → ((x : A) → P x → Q (f x)) → IfSome o P → IfSome (option_map f o) Q
after_map f P Q None step h = tt
after_map f P Q (Some x) step h = step x h

after_step : {A B : Type 0} (f : A → Option B) (P : A → Type 0) (Q : B → Type 0) (o : Option A)
    → ((x : A) → P x → IfSome (f x) Q) → IfSome o P → IfSome (option_and_then f o) Q
after_step f P Q None step h = tt
after_step f P Q (Some x) step h = step x h

of_number : (o : Option Num) → IfSome (option_map number o) IsOrdered
of_number None = tt
of_number (Some n) = tt

abbrev IsInOrder : Members → Type 0
IsInOrder fields = Sorted fields × HaveOrdered fields

mutual
  of_json_ordered : (value : json.Json) → IfSome (of_json value) IsOrdered
  of_json_ordered json.null = tt
  of_json_ordered (json.boolean b) = tt
  of_json_ordered (json.number s) = of_number (number_of s)
  of_json_ordered (json.string s) = tt
  of_json_ordered (json.array values) = after_map array AreOrdered IsOrdered (of_items values) (λ _ h. h) (of_items_ordered values)
  of_json_ordered (json.object fields) =
      after_map object IsInOrder IsOrdered (of_members fields no_members) (λ _ h. h) (of_members_ordered fields no_members sorted_none tt)

  of_items_ordered : (values : json.Items) → IfSome (of_items values) AreOrdered
  of_items_ordered json.no_items = tt
  of_items_ordered (json.item value later) =
      after_step _ IsOrdered AreOrdered (of_json value)
      (λ d h. after_map (item d) AreOrdered AreOrdered (of_items later) (λ _ t. (h, t)) (of_items_ordered later)) (of_json_ordered value)

  of_members_ordered : (fields : json.Members) (found : Members) → Sorted found → HaveOrdered found
      → IfSome (of_members fields found) IsInOrder
  of_members_ordered json.no_members found sorted have = (sorted, have)
  of_members_ordered (json.member name value later) found sorted have =
      after_step _ IsOrdered IsInOrder (of_json value)
      (λ d h. of_members_ordered later (put name d found) (sorted_put name d found sorted) (have_put name d found h have)) (of_json_ordered value)

of_read : (o : Option json.Json) → IfSome (option_and_then of_json o) IsOrdered
of_read None = tt
of_read (Some value) = of_json_ordered value

read_ordered : (bytes : List ℕ) → IfSome (read bytes) IsOrdered
read_ordered bytes = of_read (option_and_then (λ p. json.if_last p.0 p.1) (json.value max_depth (tokens bytes)))

of_some : (o : Option Data) (value : Data) → IfSome o IsOrdered → o ≡ Some value → IsOrdered value
of_some o value h is = rw is at h

pub json_ordered : (bytes : List ℕ) (value : Data) → json_of bytes ≡ Some value → IsOrdered value
json_ordered bytes value = decided (is_utf8 bytes) refl
  where
    decided : (utf8 : Bool) → is_utf8 bytes ≡ utf8 → json_of bytes ≡ Some value → IsOrdered value
    decided true text is = of_some (read bytes) value (read_ordered bytes) (rw text at is)
    decided false text is = absurd (let none : None ≡ Some value = rw text at is in cc)
