-- What the state between two tokens and the tokens after it give, by the grammar.
use Rattle.std.proofs.Common.{◌≡◌, ℕ, suc, ◌+◌, Bool, true, false, cond, ◌&&◌, ◌||◌, List, [], ◌∷◌, ◌++◌, take, drop, Option, Some, None, refl, sym, ap, ◌∙◌, arith, inl, inr, append_assoc}
use Rattle.std.specs.Prelude.{map, flat_map, filter_map, option_map, if◌then◌else◌}
use Rattle.std.specs.List.{after_last, after_first, before_first, slice_split, onto_first, list_any, cons_option, position_or_len}
use Rattle.std.proofs.lemmas.Bool.{cases_Bool}
use Rattle.std.proofs.lemmas.List.{append-nil}
use Rattle.encoded_words.specs.Runs.{decode_words}
use Rattle.mail_address.specs.declared.element.Position.{Position}
use Rattle.mail_address.specs.declared.element.Position.TheVariants.{BeforeAngle, InAngle, AfterAngle, InLaterAngle}
use Rattle.mail_address.specs.declared.person.Person.{Person}
use Rattle.mail_address.specs.Tokens.{Token, Atom, Quoted, Open, Close, Colon, End, tokens}
use Rattle.mail_address.specs.People.{Item, Plain, Angle, items, items_from, ends, drops, is_close, is_colon, are_joined, begins_joint, ends_joint, before_angle, first_angle, person, person_of, token_text, address, name, people}
use Rattle.mail_address.proofs.LastLemmas.{after_last-none, after_last-more, after_last-here}
use Rattle.std.specs.List.{join_with_byte}
use Rattle.mail_address.specs.States.{Atoms, State, nothing, put, address_with, start, next, ended, person_at, after_word, without_first}

-- words with a space before each
abbrev pub spaced : List Token → List ℕ
spaced ts = flat_map (λ t. 32 ∷ token_text t) ts

abbrev pub named : List ℕ → Option (List ℕ) → Option Person
named name address = option_map (λ a. record { addr = a; name = decode_words name }) address

-- the person of an element of which this was read and these tokens and this angle come
abbrev pub person_with : State → List Token → Option (List Token) → Option Person
person_with s before None = named [] (address_with s.address before)
person_with s before (Some inside) = named (without_first (s.name ++ spaced before)) (address (after_last is_colon inside))

-- the same, where an angle may have been read
abbrev pub person_from : Position → State → List Item → Option Person
person_from BeforeAngle s is = person_with s (before_angle is) (first_angle is)
person_from _ s is = named (without_first s.name) (address_with s.address [])

-- the person of an element whose rest these items are
abbrev pub element_from : State → List Item → Option Person
element_from s is = if list_any drops is then person (after_last drops is) else person_from s.position s is

abbrev pub people_of : List (List Item) → List Person
people_of parts = filter_map person (map (after_last drops) parts)

abbrev pub people_from : State → List (List Item) → List Person
people_from s [] = cons_option (element_from s []) []
people_from s (p ∷ ps) = cons_option (element_from s p) (people_of ps)

abbrev pub from_items : State → List Item → List Person
from_items s is = people_from s (slice_split ends is)

-- the atoms of an angle after its last colon, of which these were put together
abbrev pub in_angle : Atoms → Token → Atoms
in_angle a Colon = nothing
in_angle a t = put a t

abbrev pub all_in_angle : Atoms → List Token → Atoms
all_in_angle a [] = a
all_in_angle a (t ∷ ts) = all_in_angle (in_angle a t) ts

abbrev pub after_angle : State → Atoms → State
after_angle s a = record { position = AfterAngle; address = a; name = s.name }

abbrev pub left_at : Position → State → List Token → List Person
left_at BeforeAngle s ts = from_items s (items ts)
left_at InAngle s ts = from_items (after_angle s (all_in_angle s.address (before_first is_close ts))) (items (after_first is_close ts))
left_at AfterAngle s ts = from_items s (items ts)
left_at InLaterAngle s ts = from_items (after_angle s s.address) (items (after_first is_close ts))

-- the people that the state and the tokens after it give
abbrev pub left : State → List Token → List Person
left s ts = left_at s.position s ts

-- ---- the tokens of an address

guard : (whole joins more : Bool) → (whole && (true && joins && more)) ≡ (whole && joins && more)
guard true joins more = refl
guard false joins more = refl

never : (whole : Bool) → (whole && false) ≡ false
never true = refl
never false = refl

pub address_with-put : (a : Atoms) (t : Token) (ts : List Token) → address_with a (t ∷ ts) ≡ address_with (put a t) ts
address_with-put a (Atom bytes) ts =
    rw (guard a.whole (a.free || begins_joint bytes) (are_joined (ends_joint bytes) ts), append_assoc) refl
address_with-put a (Quoted bytes) ts = rw never refl
address_with-put a Open ts = rw never refl
address_with-put a Close ts = rw never refl
address_with-put a Colon ts = rw never refl
address_with-put a End ts = rw never refl

other_token : (a : Atoms) (t : Token) (ts : List Token) → is_colon t ≡ false → in_angle a t ≡ put a t
    → address_with (all_in_angle (put a t) ts) [] ≡ cond (list_any is_colon ts) (address (after_last is_colon ts)) (address_with (put a t) ts)
    → address_with (all_in_angle (in_angle a t) ts) []
    ≡ cond (is_colon t || list_any is_colon ts) (address (after_last is_colon (t ∷ ts))) (address_with a (t ∷ ts))
other_token a t ts no_colon is so_far =
    ap (λ b. address_with (all_in_angle b ts) []) is ∙ so_far ∙ elim (cases_Bool (list_any is_colon ts)) [
      | inl more ↦ rw (more, no_colon) (ap address (sym (after_last-more is_colon t ts more)))
      | inr none ↦ rw (none, no_colon) (sym (address_with-put a t ts))
    ]

-- the tokens of an angle, put together, are its address after its last colon
all_in_angle-is : (a : Atoms) (ts : List Token)
    → address_with (all_in_angle a ts) [] ≡ cond (list_any is_colon ts) (address (after_last is_colon ts)) (address_with a ts)
all_in_angle-is a [] = refl
all_in_angle-is a (Colon ∷ ts) =
    all_in_angle-is nothing ts ∙ elim (cases_Bool (list_any is_colon ts)) [
      | inl more ↦ rw more (ap address (sym (after_last-more is_colon Colon ts more)))
      | inr none ↦ rw none (ap address (sym (after_last-here is_colon Colon ts refl none)))
    ]
all_in_angle-is a (Atom bytes ∷ ts) = other_token a (Atom bytes) ts refl refl (all_in_angle-is (put a (Atom bytes)) ts)
all_in_angle-is a (Quoted bytes ∷ ts) = other_token a (Quoted bytes) ts refl refl (all_in_angle-is (put a (Quoted bytes)) ts)
all_in_angle-is a (Open ∷ ts) = other_token a Open ts refl refl (all_in_angle-is (put a Open) ts)
all_in_angle-is a (Close ∷ ts) = other_token a Close ts refl refl (all_in_angle-is (put a Close) ts)
all_in_angle-is a (End ∷ ts) = other_token a End ts refl refl (all_in_angle-is (put a End) ts)

pub angle_address : (ts : List Token) → address_with (all_in_angle nothing ts) [] ≡ address (after_last is_colon ts)
angle_address ts =
    all_in_angle-is nothing ts ∙ elim (cases_Bool (list_any is_colon ts)) [
      | inl some ↦ rw some refl
      | inr none ↦ rw none (ap address (sym (after_last-none is_colon ts none)))
    ]

-- ---- a name

pub named_words : (ts : List Token) → without_first (spaced ts) ≡ join_with_byte 32 (map token_text ts)
named_words [] = refl
named_words (t ∷ []) = append-nil (token_text t)
named_words (t ∷ u ∷ ts) = ap (λ (bs : List ℕ). token_text t ++ (32 ∷ bs)) (named_words (u ∷ ts))

-- ---- an element

from_start : (before : List Token) (angle : Option (List Token)) → person_with start before angle ≡ person_of before angle
from_start before None = refl
from_start before (Some inside) = ap (λ n. named n (address (after_last is_colon inside))) (named_words before)

element-start : (p : List Item) → element_from start p ≡ person (after_last drops p)
element-start p =
    elim (cases_Bool (list_any drops p)) [
      | inl some ↦ rw some refl
      | inr none ↦ rw none (from_start (before_angle p) (first_angle p) ∙ ap person (sym (after_last-none drops p none)))
    ]

element-step : (s next : State) (i : Item) (p : List Item) → drops i ≡ false
    → person_from s.position s (i ∷ p) ≡ person_from next.position next p → element_from s (i ∷ p) ≡ element_from next p
element-step s next i p stays same =
    elim (cases_Bool (list_any drops p)) [
      | inl some ↦ rw (stays, some) (ap person (after_last-more drops i p some))
      | inr none ↦ rw (stays, none) same
    ]

element-drop : (s : State) (p : List Item) → element_from s (Plain Colon ∷ p) ≡ element_from start p
element-drop s p =
    elim (cases_Bool (list_any drops p)) [
      | inl some ↦ rw some (ap person (after_last-more drops (Plain Colon) p some))
      | inr none ↦ rw none (ap person (after_last-here drops (Plain Colon) p refl none) ∙ sym (from_start (before_angle p) (first_angle p)))
    ]

-- ---- a list

onto : (s next : State) (i : Item) → ((p : List Item) → element_from s (i ∷ p) ≡ element_from next p)
    → (parts : List (List Item)) → people_from s (onto_first i parts) ≡ people_from next parts
onto s next i same [] = ap (λ p. cons_option p []) (same [])
onto s next i same (p ∷ ps) = ap (λ q. cons_option q (people_of ps)) (same p)

people-start : (parts : List (List Item)) → people_from start parts ≡ people_of parts
people-start [] = refl
people-start (p ∷ ps) = ap (λ q. cons_option q (people_of ps)) (element-start p)

-- ---- an angle

position_of_close : (t : Token) (ts : List Token) → is_close t ≡ false → position_or_len is_close (t ∷ ts) ≡ suc (position_or_len is_close ts)
position_of_close t ts other = rw other (omega arith)

before_close : (t : Token) (ts : List Token) → is_close t ≡ false → before_first is_close (t ∷ ts) ≡ t ∷ before_first is_close ts
before_close t ts other = ap (λ n. take n (t ∷ ts)) (position_of_close t ts other)

after_close : (t : Token) (ts : List Token) → is_close t ≡ false → after_first is_close (t ∷ ts) ≡ after_first is_close ts
after_close t ts other =
    let more : position_or_len is_close (t ∷ ts) + 1 ≡ suc (position_or_len is_close ts + 1) = omega (arith, position_of_close t ts other) in
    ap (λ n. drop n (t ∷ ts)) more

another_token : (inside : List Token) (t : Token) (ts : List Token) → is_close t ≡ false
    → items_from (Some (inside ++ t ∷ [])) ts ≡ Angle ((inside ++ t ∷ []) ++ before_first is_close ts) ∷ items (after_first is_close ts)
    → items_from (Some (inside ++ t ∷ [])) ts ≡ Angle (inside ++ before_first is_close (t ∷ ts)) ∷ items (after_first is_close (t ∷ ts))
another_token inside t ts other so_far =
    so_far
    ∙ ap (λ (us : List Token). Angle us ∷ items (after_first is_close ts)) (append_assoc inside (t ∷ []) (before_first is_close ts) ∙ ap (λ (us : List Token). inside ++ us) (sym (before_close t ts other)))
    ∙ ap (λ us. Angle (inside ++ before_first is_close (t ∷ ts)) ∷ items us) (sym (after_close t ts other))

-- an angle of which this was read has the tokens up to its end
open_angle : (inside ts : List Token) → items_from (Some inside) ts ≡ Angle (inside ++ before_first is_close ts) ∷ items (after_first is_close ts)
open_angle inside [] = ap (λ (us : List Token). Angle us ∷ []) (sym (append-nil inside))
open_angle inside (Close ∷ ts) = ap (λ (us : List Token). Angle us ∷ items ts) (sym (append-nil inside))
open_angle inside (Atom bytes ∷ ts) = another_token inside (Atom bytes) ts refl (open_angle (inside ++ Atom bytes ∷ []) ts)
open_angle inside (Quoted bytes ∷ ts) = another_token inside (Quoted bytes) ts refl (open_angle (inside ++ Quoted bytes ∷ []) ts)
open_angle inside (Open ∷ ts) = another_token inside Open ts refl (open_angle (inside ++ Open ∷ []) ts)
open_angle inside (Colon ∷ ts) = another_token inside Colon ts refl (open_angle (inside ++ Colon ∷ []) ts)
open_angle inside (End ∷ ts) = another_token inside End ts refl (open_angle (inside ++ End ∷ []) ts)

items-angle : (ts : List Token) → items (Open ∷ ts) ≡ Angle (before_first is_close ts) ∷ items (after_first is_close ts)
items-angle ts = open_angle [] ts

-- ---- one token more

word_step : (a : Atoms) (kept : List ℕ) (t : Token) (before : List Token) (angle : Option (List Token))
    → person_with (record { position = BeforeAngle; address = a; name = kept }) (t ∷ before) angle
    ≡ person_with (record { position = BeforeAngle; address = put a t; name = kept ++ 32 ∷ token_text t }) before angle
word_step a kept t before None = ap (named []) (address_with-put a t before)
word_step a kept t before (Some inside) =
    ap (λ n. named (without_first n) (address (after_last is_colon inside))) (sym (append_assoc kept (32 ∷ token_text t) (spaced before)))

open_step : (a : Atoms) (kept : List ℕ) (inside : List Token)
    → person_with (record { position = BeforeAngle; address = a; name = kept }) [] (Some inside)
    ≡ named (without_first kept) (address_with (all_in_angle nothing inside) [])
open_step a kept inside =
    ap (λ n. named (without_first n) (address (after_last is_colon inside))) (append-nil kept)
    ∙ ap (named (without_first kept)) (sym (angle_address inside))

inside_step : (s : State) (t : Token) (ts : List Token) → is_close t ≡ false
    → left_at InAngle s (t ∷ ts) ≡ left_at InAngle (record { position = InAngle; address = in_angle s.address t; name = s.name }) ts
inside_step s t ts other =
    ap (λ inside. from_items (after_angle s (all_in_angle s.address inside)) (items (after_first is_close (t ∷ ts)))) (before_close t ts other)
    ∙ ap (λ after. from_items (after_angle s (all_in_angle (in_angle s.address t) (before_first is_close ts))) (items after)) (after_close t ts other)

later_step : (s : State) (t : Token) (ts : List Token) → is_close t ≡ false → left_at InLaterAngle s (t ∷ ts) ≡ left_at InLaterAngle s ts
later_step s t ts other = ap (λ after. from_items (after_angle s s.address) (items after)) (after_close t ts other)

abbrev Step : Position → Atoms → List ℕ → Token → List Token → Type 0
Step position a kept t ts =
    let s : State = record { position = position; address = a; name = kept } in
    left s (t ∷ ts) ≡ cons_option (ended s t) (left (next s t) ts)

step_before : (a : Atoms) (kept : List ℕ) (t : Token) (ts : List Token) → Step BeforeAngle a kept t ts
step_before a kept (Atom bytes) ts =
    let s : State = record { position = BeforeAngle; address = a; name = kept } in
    let i = Plain (Atom bytes) in
    onto s (after_word s (Atom bytes)) i (λ p. element-step s (after_word s (Atom bytes)) i p refl (word_step a kept (Atom bytes) (before_angle p) (first_angle p))) (slice_split ends (items ts))
step_before a kept (Quoted bytes) ts =
    let s : State = record { position = BeforeAngle; address = a; name = kept } in
    let i = Plain (Quoted bytes) in
    onto s (after_word s (Quoted bytes)) i (λ p. element-step s (after_word s (Quoted bytes)) i p refl (word_step a kept (Quoted bytes) (before_angle p) (first_angle p))) (slice_split ends (items ts))
step_before a kept Open ts =
    let s : State = record { position = BeforeAngle; address = a; name = kept } in
    let inside = before_first is_close ts in
    let next : State = after_angle s (all_in_angle nothing inside) in
    ap (from_items s) (items-angle ts)
    ∙ onto s next (Angle inside) (λ p. element-step s next (Angle inside) p refl (open_step a kept inside)) (slice_split ends (items (after_first is_close ts)))
step_before a kept Close ts = refl
step_before a kept Colon ts =
    let s : State = record { position = BeforeAngle; address = a; name = kept } in
    onto s start (Plain Colon) (element-drop s) (slice_split ends (items ts))
step_before a kept End ts =
    let s : State = record { position = BeforeAngle; address = a; name = kept } in
    ap (cons_option (person_at s)) (sym (people-start (slice_split ends (items ts))))

step_after : (a : Atoms) (kept : List ℕ) (t : Token) (ts : List Token) → Step AfterAngle a kept t ts
step_after a kept (Atom bytes) ts =
    let s : State = record { position = AfterAngle; address = a; name = kept } in
    onto s s (Plain (Atom bytes)) (λ p. element-step s s (Plain (Atom bytes)) p refl refl) (slice_split ends (items ts))
step_after a kept (Quoted bytes) ts =
    let s : State = record { position = AfterAngle; address = a; name = kept } in
    onto s s (Plain (Quoted bytes)) (λ p. element-step s s (Plain (Quoted bytes)) p refl refl) (slice_split ends (items ts))
step_after a kept Open ts =
    let s : State = record { position = AfterAngle; address = a; name = kept } in
    let inside = before_first is_close ts in
    ap (from_items s) (items-angle ts)
    ∙ onto s s (Angle inside) (λ p. element-step s s (Angle inside) p refl refl) (slice_split ends (items (after_first is_close ts)))
step_after a kept Close ts = refl
step_after a kept Colon ts =
    let s : State = record { position = AfterAngle; address = a; name = kept } in
    onto s start (Plain Colon) (element-drop s) (slice_split ends (items ts))
step_after a kept End ts =
    let s : State = record { position = AfterAngle; address = a; name = kept } in
    ap (cons_option (person_at s)) (sym (people-start (slice_split ends (items ts))))

step_inside : (a : Atoms) (kept : List ℕ) (t : Token) (ts : List Token) → Step InAngle a kept t ts
step_inside a kept Close ts = refl
step_inside a kept (Atom bytes) ts = inside_step (record { position = InAngle; address = a; name = kept }) (Atom bytes) ts refl
step_inside a kept (Quoted bytes) ts = inside_step (record { position = InAngle; address = a; name = kept }) (Quoted bytes) ts refl
step_inside a kept Open ts = inside_step (record { position = InAngle; address = a; name = kept }) Open ts refl
step_inside a kept Colon ts = inside_step (record { position = InAngle; address = a; name = kept }) Colon ts refl
step_inside a kept End ts = inside_step (record { position = InAngle; address = a; name = kept }) End ts refl

step_later : (a : Atoms) (kept : List ℕ) (t : Token) (ts : List Token) → Step InLaterAngle a kept t ts
step_later a kept Close ts = refl
step_later a kept (Atom bytes) ts = later_step (record { position = InLaterAngle; address = a; name = kept }) (Atom bytes) ts refl
step_later a kept (Quoted bytes) ts = later_step (record { position = InLaterAngle; address = a; name = kept }) (Quoted bytes) ts refl
step_later a kept Open ts = later_step (record { position = InLaterAngle; address = a; name = kept }) Open ts refl
step_later a kept Colon ts = later_step (record { position = InLaterAngle; address = a; name = kept }) Colon ts refl
step_later a kept End ts = later_step (record { position = InLaterAngle; address = a; name = kept }) End ts refl

pub step_at : (position : Position) (a : Atoms) (kept : List ℕ) (t : Token) (ts : List Token) → Step position a kept t ts
step_at BeforeAngle a kept t ts = step_before a kept t ts
step_at InAngle a kept t ts = step_inside a kept t ts
step_at AfterAngle a kept t ts = step_after a kept t ts
step_at InLaterAngle a kept t ts = step_later a kept t ts

-- ---- a step of the loop

put_onto : (found : List Person) (p : Option Person) (more : List Person) → (found ++ cons_option p []) ++ more ≡ found ++ cons_option p more
put_onto found None more = ap (λ xs. xs ++ more) (append-nil found)
put_onto found (Some p) more = append_assoc found (p ∷ []) more

pub step : (found all : List Person) (s : State) (t : Token) (ts : List Token)
    → found ++ left s (t ∷ ts) ≡ all → (found ++ cons_option (ended s t) []) ++ left (next s t) ts ≡ all
step found all s t ts so_far =
    put_onto found (ended s t) (left (next s t) ts)
    ∙ ap (λ people. found ++ people) (sym (step_at s.position s.address s.name t ts))
    ∙ so_far

-- from the start, all people of the body are left
pub left-start : (body : List ℕ) → left start (tokens body) ≡ people body
left-start body = people-start (slice_split ends (items (tokens body)))

-- and at the end the person of the last element
left_at-none : (position : Position) (a : Atoms) (kept : List ℕ)
    → let s : State = record { position = position; address = a; name = kept } in left s [] ≡ cons_option (person_at s) []
left_at-none BeforeAngle a kept = refl
left_at-none InAngle a kept = refl
left_at-none AfterAngle a kept = refl
left_at-none InLaterAngle a kept = refl

pub left-none : (s : State) → left s [] ≡ cons_option (person_at s) []
left-none s = left_at-none s.position s.address s.name
