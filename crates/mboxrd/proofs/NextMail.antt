-- The mails of lines, by what remains before and after their next separator line.
use Rattle.std.proofs.Common.{◌≡◌, ℕ, ◌+◌, Bool, true, false, ◌&&◌, List, [], ◌∷◌, ◌++◌, length, drop, flat_map, refl, sym, ap, ◌∙◌, append_assoc, arith, length-append, inl, inr}
use Rattle.std.proofs.lemmas.Bool.{and_parts, cases_eq, cases_Bool}
use Rattle.std.specs.Prelude.{if◌then◌else◌}
use Rattle.std.specs.List.{concat, onto_first}
use Rattle.kit.specs.Lines.{raw_lines}
use Rattle.mboxrd.specs.Mails.{is_empty_line, begins_with_from, unquoted, without_closing_line, groups, mails_of, mails_after_first, mails_from, Mail}
use Rattle.mboxrd.specs.Remaining.{Remaining, push, remaining, glue, head_line, tail_lines, from_text}
use Rattle.mboxrd.specs.LineStates.{remaining_from}
use Rattle.mboxrd.specs.declared.line_state.Preceding.TheVariants.{Nothing}
use Rattle.mboxrd.specs.declared.line_state.LineState.TheVariants.{Separator, Start}
use Rattle.kit.proofs.LineLemmas.{concat-raw_lines}
use Rattle.mboxrd.proofs.GluedLines.{glue_from, not_empty, unquoted_other}

first_group : List (List (List ℕ)) → List (List ℕ)
first_group [] = []
first_group (g ∷ gs) = g

other_groups : List (List (List ℕ)) → List (List (List ℕ))
other_groups [] = []
other_groups (g ∷ gs) = gs

onto : (l : List ℕ) (gs : List (List (List ℕ))) → onto_first l gs ≡ (l ∷ first_group gs) ∷ other_groups gs
unfolding first_group other_groups
onto l [] = refl
onto l (g ∷ gs) = refl

skipped : (at : ℕ) (gs : List (List (List ℕ))) → mails_after_first at gs ≡ mails_of (at + length (concat (first_group gs))) (other_groups gs)
unfolding first_group other_groups
skipped at [] = refl
skipped at (g ∷ gs) = refl

empty_unquoted : (l : List ℕ) → is_empty_line l ≡ true → unquoted l ≡ l
empty_unquoted [] e = refl
empty_unquoted (b ∷ t) e = elim (cases_eq b 62) [
  | inl is ↦ (let h : is_empty_line (b ∷ t) ≡ false = not_empty b t (λ z. absurd (omega arith)) (λ z. absurd (omega arith)) in cc)
  | inr ne ↦ unquoted_other b t ne
]

one_line : (empty : Bool) (l : List ℕ) → flat_map unquoted (if empty then [] else (l ∷ [])) ≡ (if empty then [] else unquoted l) ++ []
one_line true l = refl
one_line false l = refl

more_lines : (empty sep : Bool) (l m : List ℕ) (ms g : List (List ℕ)) (gs : List (List (List ℕ))) (q : List ℕ) (h : Remaining)
    → is_empty_line l ≡ empty → (empty ≡ true → unquoted l ≡ l) → flat_map unquoted (without_closing_line (m ∷ g)) ≡ q ++ h.mail
    → flat_map unquoted (without_closing_line (l ∷ first_group (if empty && sep then ([] ∷ (m ∷ g) ∷ gs) else ((m ∷ g) ∷ gs))))
    ≡ (if empty then [] else unquoted l) ++ (if empty && sep then (record { mail = []; rest = m ∷ ms }) else push (if empty then l else []) (push q h)).mail
unfolding first_group
more_lines true true l m ms g gs q h e un ih = rw e refl
more_lines true false l m ms g gs q h e un ih = rw (un refl, ih) refl
more_lines false sep l m ms g gs q h e un ih = rw ih refl

-- a line of a mail, and those after it
mail_on : (l : List ℕ) (ls : List (List ℕ)) → flat_map unquoted (without_closing_line (l ∷ first_group (groups (is_empty_line l) ls)))
    ≡ (if is_empty_line l then [] else unquoted l) ++ (remaining (is_empty_line l) (if is_empty_line l then l else []) ls).mail
unfolding first_group
mail_on l [] = one_line (is_empty_line l) l
mail_on l (m ∷ ms) =
    rw (onto m (groups (is_empty_line m) ms))
    (more_lines (is_empty_line l) (begins_with_from m) l m ms (first_group (groups (is_empty_line m) ms)) (other_groups (groups (is_empty_line m) ms))
    (if is_empty_line m then [] else unquoted m) (remaining (is_empty_line m) (if is_empty_line m then m else []) ms) refl (empty_unquoted l) (mail_on m ms))

mail_of : (ls : List (List ℕ)) → flat_map unquoted (without_closing_line (first_group (groups false ls))) ≡ (remaining false [] ls).mail
unfolding first_group
mail_of [] = refl
mail_of (l ∷ ls) = rw (onto l (groups (is_empty_line l) ls)) (mail_on l ls)

rest_of : (e : ℕ) (may : Bool) (withheld : List ℕ) (ls : List (List ℕ)) → mails_of e (other_groups (groups may ls)) ≡ mails_after_first e (groups true (remaining may withheld ls).rest)
unfolding first_group other_groups
rest_of e may withheld [] = refl
rest_of e may withheld (l ∷ ls) = elim (cases_Bool (may && begins_with_from l)) [
  | inl h ↦ (let parts = and_parts may (begins_with_from l) h in let z : e + 0 ≡ e = omega arith in rw (h, parts.1, z) refl)
  | inr h ↦ rw (h, onto l (groups (is_empty_line l) ls)) (rest_of e (is_empty_line l) (if is_empty_line l then l else []) ls)
]

-- the lines before the next separator line and those from it on are all the lines
bytes_of : (may : Bool) (withheld : List ℕ) (ls : List (List ℕ)) → concat (first_group (groups may ls)) ++ concat (remaining may withheld ls).rest ≡ concat ls
unfolding first_group other_groups
bytes_of may withheld [] = refl
bytes_of may withheld (l ∷ ls) = elim (cases_Bool (may && begins_with_from l)) [
  | inl h ↦ rw h refl
  | inr h ↦ rw (h, onto l (groups (is_empty_line l) ls))
      (append_assoc l (concat (first_group (groups (is_empty_line l) ls))) (concat (remaining (is_empty_line l) (if is_empty_line l then l else []) ls).rest)
      ∙ ap (λ z. l ++ z) (bytes_of (is_empty_line l) (if is_empty_line l then l else []) ls))
]

-- bytes are those before the next separator line, and those from it on
parts_of : (x rest m : List ℕ) → remaining_from (Start Nothing) x ≡ record { mail = m; rest = raw_lines rest } → x ≡ concat (first_group (groups true (raw_lines x))) ++ rest
unfolding remaining_from
parts_of x rest m h =
    let g = concat (first_group (groups true (raw_lines x))) in
    sym (concat-raw_lines x) ∙ sym (bytes_of true [] (raw_lines x)) ∙ ap (λ (k : Remaining). g ++ concat k.rest) h ∙ ap (λ z. g ++ z) (concat-raw_lines rest)

-- the same of a mail, with its separator line
mail_parts_of : (x rest m : List ℕ) → remaining_from Separator x ≡ record { mail = m; rest = raw_lines rest }
    → from_text ++ x ≡ ((from_text ++ head_line (raw_lines x)) ++ concat (first_group (groups false (tail_lines (raw_lines x))))) ++ rest
unfolding remaining_from
mail_parts_of x rest m h =
    let ls = raw_lines x in
    let s = from_text ++ head_line ls in
    let g = concat (first_group (groups false (tail_lines ls))) in
    sym (concat-raw_lines (from_text ++ x)) ∙ ap concat (glue_from ls) ∙ ap (λ z. s ++ z) (sym (bytes_of false [] (tail_lines ls)))
    ∙ ap (λ (k : Remaining). s ++ (g ++ concat k.rest)) h ∙ ap (λ z. s ++ (g ++ z)) (concat-raw_lines rest) ∙ sym (append_assoc s g rest)

-- bytes that begin with a separator line
first_mail : (at : ℕ) (ls : List (List ℕ)) → mails_after_first at (groups true (glue from_text ls))
    ≡ record { bytes = (remaining false [] (tail_lines ls)).mail; end = at + length (concat ((from_text ++ head_line ls) ∷ first_group (groups false (tail_lines ls)))) }
    ∷ mails_after_first (at + length (concat ((from_text ++ head_line ls) ∷ first_group (groups false (tail_lines ls))))) (groups true (remaining false [] (tail_lines ls)).rest)
unfolding first_group other_groups
first_mail at ls =
    let t = head_line ls in
    let z : at + 0 ≡ at = omega arith in
    rw (
      z,
      not_empty 70 (drop 1 from_text ++ t) (λ e. absurd (omega arith)) (λ e. absurd (omega arith)),
      onto (from_text ++ t) (groups false (tail_lines ls)),
      mail_of (tail_lines ls),
      rest_of (at + length (concat ((from_text ++ t) ∷ first_group (groups false (tail_lines ls))))) false [] (tail_lines ls),
    ) refl

pub mail_from : (at : ℕ) (x rest : List ℕ) (m : List ℕ) (end : ℕ) → remaining_from Separator x ≡ record { mail = m; rest = raw_lines rest } → end + length rest ≡ at + length (from_text ++ x)
    → mails_from at (from_text ++ x) ≡ record { bytes = m; end = end } ∷ mails_from end rest
unfolding remaining_from
mail_from at x rest m end h len =
    let ls = raw_lines x in
    let s = from_text ++ head_line ls in
    let g = first_group (groups false (tail_lines ls)) in
    let k = remaining false [] (tail_lines ls) in
    let there : at + length (concat (s ∷ g)) ≡ end = omega (arith, len, ap length (mail_parts_of x rest m h), length-append (s ++ concat g) rest) in
    let made : List ℕ → ℕ → Mail = λ b e. record { bytes = b; end = e } in
    ap (λ z. mails_after_first at (groups true z)) (glue_from ls) ∙ first_mail at ls
    ∙ ap (λ z. made k.mail z ∷ mails_after_first z (groups true k.rest)) there
    ∙ ap (λ (z : Remaining). made z.mail end ∷ mails_after_first end (groups true z.rest)) h

pub mails_after : (at : ℕ) (x rest : List ℕ) (m : List ℕ) (next : ℕ) → remaining_from (Start Nothing) x ≡ record { mail = m; rest = raw_lines rest } → next + length rest ≡ at + length x
    → mails_from at x ≡ mails_from next rest
unfolding remaining_from
mails_after at x rest m next h len =
    let ls = raw_lines x in
    let g = concat (first_group (groups true ls)) in
    let there : at + length g ≡ next = omega (arith, len, ap length (parts_of x rest m h), length-append g rest) in
    skipped at (groups true ls) ∙ rest_of (at + length g) true [] ls ∙ ap (λ (k : Remaining). mails_after_first (at + length g) (groups true k.rest)) h ∙ ap (λ k. mails_from k rest) there

-- what was passed ends with the `From ` of the separator line
pub ends_in_from : (x rest m : List ℕ) → remaining_from (Start Nothing) x ≡ record { mail = m; rest = raw_lines rest } → (prefix : List ℕ) × (x ≡ prefix ++ rest)
ends_in_from x rest m h = (_, parts_of x rest m h)

pub mail_ends_in_from : (x rest m : List ℕ) → remaining_from Separator x ≡ record { mail = m; rest = raw_lines rest } → (prefix : List ℕ) × (from_text ++ x ≡ prefix ++ rest)
mail_ends_in_from x rest m h = (from_text ++ head_line (raw_lines x) ++ concat (first_group (groups false (tail_lines (raw_lines x)))), mail_parts_of x rest m h)
