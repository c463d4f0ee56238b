-- No line of a written mail begins as a separator, quoted or not.
use Rattle.std.proofs.Common.{◌≡◌, ℕ, zero, suc, ◌==◌, Bool, true, false, not, ◌&&◌, List, [], ◌∷◌, ◌++◌, map, Option, Some, None, refl, ap, ◌∙◌, inl, inr, append_assoc}
use Rattle.std.specs.Prelude.{codes}
use Rattle.std.specs.List.{list_all}
use Rattle.std.proofs.lemmas.Bool.{and_parts, and_from, cases_Bool, not-true}
use Rattle.std.proofs.Common.{arith}
use Rattle.std.proofs.lemmas.Bool.Decides.{nat_tests}
use Rattle.std.proofs.lemmas.List.{map-append}
use Rattle.kit.specs.Lines.{put_before, raw_lines}
use Rattle.mboxrd.specs.Mails.{begins_with_from}
use Rattle.base64.specs.Engines.{standard}
use Rattle.base64.specs.GeneralPurpose.{encode_of, IsBytes}
use Rattle.compose.specs.declared.draft.Draft.{Draft}
use Rattle.compose.specs.Fields.{Slot, ended, header_lines, lines_of}
use Rattle.compose.specs.Mails.{slot, slots}
use Rattle.compose.specs.Written.{body_text, in_lines, lines_from}
use Rattle.compose.proofs.Base64Back.{coded_by}
use Rattle.compose.proofs.FieldsBack.{is_line, raw_lines-ended}
use Rattle.compose.proofs.LineEnds.{put_before-lf}
use Rattle.compose.proofs.MailsBack.{are_free, is_free}
use Rattle.compose.proofs.Printings.{all_both}

-- ---- lines without a space and without a `>`

abbrev pub is_inner : ℕ → Bool
is_inner b = not (b == 32) && not (b == 62)

one : (x : Bool) → (x && false) ≡ false
one true = refl
one false = refl

two : (x y : Bool) → (x && (y && false)) ≡ false
two true y = one y
two false y = refl

three : (x y z : Bool) → (x && (y && (z && false))) ≡ false
three true y z = two y z
three false y z = refl

never : (x y z w : Bool) → (x && (y && (z && (w && false)))) ≡ false
never true y z w = three y z w
never false y z w = refl

space : (b : ℕ) → is_inner b ≡ true → (32 == b) ≡ false
space b h = grind (arith, nat_tests)

no_from : (l : List ℕ) → list_all is_inner l ≡ true → begins_with_from l ≡ false
no_from [] all = refl
no_from (a ∷ []) all = one (70 == a)
no_from (a ∷ b ∷ []) all = two (70 == a) (114 == b)
no_from (a ∷ b ∷ c ∷ []) all = three (70 == a) (114 == b) (111 == c)
no_from (a ∷ b ∷ c ∷ d ∷ []) all = never (70 == a) (114 == b) (111 == c) (109 == d)
no_from (a ∷ b ∷ c ∷ d ∷ e ∷ l) all =
    let p = and_parts (is_inner a) _ all in
    let q = and_parts (is_inner b) _ p.1 in
    let r = and_parts (is_inner c) _ q.1 in
    let s = and_parts (is_inner d) _ r.1 in
    let t = and_parts (is_inner e) (list_all is_inner l) s.1 in
    rw (space e t.0) (never (70 == a) (114 == b) (111 == c) (109 == d))

inner_free : (l : List ℕ) → list_all is_inner l ≡ true → is_free l ≡ true
inner_free [] all = refl
inner_free (b ∷ bs) all =
    let parts = and_parts (is_inner b) (list_all is_inner bs) all in
    let mark = not-true (b == 62) (and_parts (not (b == 32)) (not (b == 62)) parts.0).1 in
    let none = no_from (b ∷ bs) all in
    rw mark (and_from (not (begins_with_from (b ∷ bs))) (not (begins_with_from (b ∷ bs))) (ap not none) (ap not none))

inner_put : (b : ℕ) (ls : List (List ℕ)) → is_inner b ≡ true → list_all (list_all is_inner) ls ≡ true → list_all (list_all is_inner) (put_before b ls) ≡ true
inner_put b [] h all = and_from (list_all is_inner (b ∷ [])) true (and_from (is_inner b) true h refl) refl
inner_put b (l ∷ ls) h all =
    let parts = and_parts (list_all is_inner l) (list_all (list_all is_inner) ls) all in
    elim (cases_Bool (b == 10)) [
      | inl lf ↦ rw lf (and_from (list_all is_inner (b ∷ [])) (list_all (list_all is_inner) (l ∷ ls)) (and_from (is_inner b) true h refl) all)
      | inr other ↦ rw other (and_from (list_all is_inner (b ∷ l)) (list_all (list_all is_inner) ls) (and_from (is_inner b) (list_all is_inner l) h parts.0) parts.1)
    ]

inner_lines : (bs : List ℕ) → list_all is_inner bs ≡ true → list_all (list_all is_inner) (raw_lines bs) ≡ true
inner_lines [] all = refl
inner_lines (b ∷ bs) all =
    let parts = and_parts (is_inner b) (list_all is_inner bs) all in
    inner_put b (raw_lines bs) parts.0 (inner_lines bs parts.1)

all_free : (ls : List (List ℕ)) → list_all (list_all is_inner) ls ≡ true → are_free ls ≡ true
all_free [] all = refl
all_free (l ∷ ls) all =
    let parts = and_parts (list_all is_inner l) (list_all (list_all is_inner) ls) all in
    and_from (is_free l) (are_free ls) (inner_free l parts.0) (all_free ls parts.1)

in_lines_inner : (room : ℕ) (bs : List ℕ) → list_all is_inner bs ≡ true → list_all is_inner (lines_from room bs) ≡ true
in_lines_inner room [] all = refl
in_lines_inner zero (b ∷ bs) all =
    let parts = and_parts (is_inner b) (list_all is_inner bs) all in
    and_from (is_inner b) (list_all is_inner (lines_from 75 bs)) parts.0 (in_lines_inner 75 bs parts.1)
in_lines_inner (suc room) (b ∷ bs) all =
    let parts = and_parts (is_inner b) (list_all is_inner bs) all in
    and_from (is_inner b) (list_all is_inner (lines_from room bs)) parts.0 (in_lines_inner room bs parts.1)

body_inner : (bs : List ℕ) → list_all is_inner bs ≡ true → list_all is_inner (in_lines bs) ≡ true
body_inner [] all = refl
body_inner (b ∷ bs) all =
    let parts = and_parts (is_inner b) (list_all is_inner bs) all in
    and_from (is_inner b) (list_all is_inner (lines_from 75 bs)) parts.0 (in_lines_inner 75 bs parts.1)

pub body_free : (text : List ℕ) → IsBytes text → are_free (raw_lines (body_text text)) ≡ true
body_free text h = all_free (raw_lines (body_text text)) (inner_lines (body_text text) (body_inner (encode_of standard text) (coded_by is_inner refl refl text h)))

-- ---- the lines of fields

abbrev pub with_lf : List (List ℕ) → List (List ℕ)
with_lf ls = map (λ (l : List ℕ). l ++ (10 ∷ [])) ls

pub record AreFree (ss : List Slot) : Type 0 where
  pub all : are_free (with_lf (header_lines ss)) ≡ true

free_append : (xs ys : List (List ℕ)) → are_free (with_lf xs) ≡ true → are_free (with_lf ys) ≡ true → are_free (with_lf (xs ++ ys)) ≡ true
free_append xs ys first second = ap are_free (map-append (λ (l : List ℕ). l ++ (10 ∷ [])) xs ys) ∙ all_both is_free (with_lf xs) (with_lf ys) first second

continued_free : (ls : List (List ℕ)) → are_free (with_lf (map (λ (l : List ℕ). 32 ∷ l) ls)) ≡ true
continued_free [] = refl
continued_free (l ∷ ls) = continued_free ls

pub put : (name : List ℕ) (body : Option (List (List ℕ))) (ss : List Slot) → ((rest : List ℕ) → is_free (name ++ (58 ∷ rest)) ≡ true) → AreFree ss → AreFree (slot name body ∷ ss)
put name body ss free rest = record { all = free_append (lines_of name body) (header_lines ss) (go body) rest.all }
  where
    go : (body : Option (List (List ℕ))) → are_free (with_lf (lines_of name body)) ≡ true
    go None = refl
    go (Some []) = and_from (is_free ((name ++ codes ": ") ++ (10 ∷ []))) true (ap is_free (append_assoc name (codes ": ") (10 ∷ [])) ∙ free (32 ∷ 10 ∷ [])) refl
    go (Some (l ∷ ls)) =
        and_from (is_free ((name ++ (58 ∷ 32 ∷ l)) ++ (10 ∷ []))) (are_free (with_lf (map (λ (l : List ℕ). 32 ∷ l) ls)))
        (ap is_free (append_assoc name (58 ∷ 32 ∷ l) (10 ∷ [])) ∙ free (32 ∷ (l ++ (10 ∷ [])))) (continued_free ls)

pub none : AreFree []
none = record { all = refl }

each : (d : Draft) → AreFree (slots d)
each d =
    put _ _ _ (λ rest. refl) (put _ _ _ (λ rest. refl) (put _ _ _ (λ rest. refl) (put _ _ _ (λ rest. refl) (put _ _ _ (λ rest. refl)
    (put _ _ _ (λ rest. refl) (put _ _ _ (λ rest. refl) (put _ _ _ (λ rest. refl) (put _ _ _ (λ rest. refl) (put _ _ _ (λ rest. refl)
    (put _ _ _ (λ rest. refl) (put _ _ _ (λ rest. refl) (put _ _ _ (λ rest. refl) (put _ _ _ (λ rest. refl) (put _ _ _ (λ rest. refl)
    (put _ _ _ (λ rest. refl) (put _ _ _ (λ rest. refl) (put _ _ _ (λ rest. refl) (put _ _ _ (λ rest. refl) (put _ _ _ (λ rest. refl)
    (put _ _ _ (λ rest. refl) none))))))))))))))))))))

pub fields_free : (d : Draft) → are_free (with_lf (header_lines (slots d))) ≡ true
fields_free d = (each d).all

-- ---- the mbox of one mail of a text

pub slots_free : (ss : List Slot) (content : List ℕ) → AreFree ss → list_all is_line (header_lines ss) ≡ true → are_free (raw_lines content) ≡ true
    → are_free (raw_lines (ended (header_lines ss) ++ (10 ∷ content))) ≡ true
slots_free ss content names lines free =
    ap are_free (raw_lines-ended (header_lines ss) (10 ∷ content) lines ∙ ap (λ (ls : List (List ℕ)). with_lf (header_lines ss) ++ ls) (put_before-lf (raw_lines content)))
    ∙ all_both is_free (with_lf (header_lines ss)) ((10 ∷ []) ∷ raw_lines content) names.all free

pub mail_free : (d : Draft) (content : List ℕ) → list_all is_line (header_lines (slots d)) ≡ true → are_free (raw_lines content) ≡ true
    → are_free (raw_lines (ended (header_lines (slots d)) ++ (10 ∷ content))) ≡ true
mail_free d content lines free = slots_free (slots d) content (each d) lines free
