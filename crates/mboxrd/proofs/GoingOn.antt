-- The mails from the end of a mail on.
use Rattle.std.proofs.Common.{◌≡◌, inl, inr, ℕ, ◌+◌, ◌-◌, ◌≤◌, Bool, true, ◌&&◌, List, [], ◌∷◌, ◌++◌, length, drop, refl, sym, ap, subst, ◌∙◌, append_assoc, length-append, arith}
use Rattle.std.specs.Prelude.{⊤}
use Rattle.std.specs.List.{concat}
use Rattle.std.proofs.lemmas.Bool.{and_parts, cases_Bool}
use Rattle.std.proofs.lemmas.List.Folds.{concat-append}
use Rattle.kit.specs.Lines.{raw_lines}
use Rattle.kit.proofs.LineLemmas.{concat-raw_lines}
use Rattle.mboxrd.specs.Mails.{Mail, is_empty_line, begins_with_from, groups, mail_bytes, mails_of, mails_after_first, mails_from}
use Rattle.mboxrd.specs.Growth.{MailsGoOn}
use Rattle.mboxrd.proofs.Groups.{Lines, head, tail, flat, onto, some_groups, all_lines}
use Rattle.mboxrd.proofs.LineCuts.{after_lines}

-- groups of which each tail has the groups of its lines
abbrev Tails : List Lines → Type 0
Tails [] = ⊤
Tails (g ∷ gs) = (groups true (flat gs) ≡ [] ∷ gs) × Tails gs

tails_of : (may : Bool) (ls : Lines) → Tails (groups may ls)
tails_of may [] = (refl, tt)
tails_of may (l ∷ ls) =
    let e = is_empty_line l in
    let gs = groups e ls in
    let some = some_groups e ls in
    let more = subst Tails some (tails_of e ls) in
    elim (cases_Bool (may && begins_with_from l)) [
      | inl h ↦
          let whole : l ∷ (head gs ++ flat (tail gs)) ≡ l ∷ ls = ap (λ (z : Lines). l ∷ z) (ap flat (sym some) ∙ all_lines e ls) in
          let again : groups true (l ∷ ls) ≡ [] ∷ (l ∷ head gs) ∷ tail gs = rw ((and_parts may (begins_with_from l) h).1, onto l gs) refl in
          rw (h, onto l gs) (ap (groups true) whole ∙ again, more)
      | inr h ↦ rw (h, onto l gs) more
    ]

go_on : (at : ℕ) (bytes : List ℕ) (gs : List Lines) (mail : Mail) (mails : List Mail) → groups true (raw_lines bytes) ≡ gs → mails_after_first at gs ≡ mail ∷ mails
    → (at ≤ mail.end) × (mail.end ≤ at + length bytes) × (mails_from mail.end (drop (mail.end - at) bytes) ≡ mails)
go_on at bytes [] mail mails is e = absurd cc
go_on at bytes (g ∷ []) mail mails is e = absurd cc
go_on at bytes (g ∷ h ∷ gs) mail mails is e =
    let end = at + length (concat g) + length (concat h) in
    let made : Mail = record { bytes = mail_bytes h; end = end } in
    let same : made ≡ mail = cc in
    let others : mails_of end gs ≡ mails = cc in
    let lines : raw_lines bytes ≡ (g ++ h) ++ flat gs = sym (all_lines true (raw_lines bytes)) ∙ ap flat is ∙ sym (append_assoc g h (flat gs)) in
    let two : length (concat (g ++ h)) ≡ length (concat g) + length (concat h) = ap length (concat-append g h) ∙ length-append (concat g) (concat h) in
    let size : length bytes ≡ length (concat (g ++ h)) + length (concat (flat gs)) =
    sym (ap length (concat-raw_lines bytes)) ∙ ap (λ (z : Lines). length (concat z)) lines ∙ ap length (concat-append (g ++ h) (flat gs)) ∙ length-append (concat (g ++ h)) (concat (flat gs)) in
    let cut : end - at ≡ length (concat (g ++ h)) = omega (arith, two) in
    let tails = subst Tails is (tails_of true (raw_lines bytes)) in
    let rest : mails_from end (drop (end - at) bytes) ≡ mails_of end gs =
    ap (λ (n : ℕ). mails_after_first end (groups true (raw_lines (drop n bytes)))) cut
    ∙ ap (λ (z : Lines). mails_after_first end (groups true z)) (after_lines (g ++ h) (flat gs) bytes lines)
    ∙ ap (mails_after_first end) tails.1.0 ∙ ap (λ (k : ℕ). mails_of k gs) (let z : end + 0 ≡ end = omega arith in z) in
    subst (λ (m : Mail). (at ≤ m.end) × (m.end ≤ at + length bytes) × (mails_from m.end (drop (m.end - at) bytes) ≡ mails)) same
    (omega arith, omega (arith, two, size), rest ∙ others)

pub mails_go_on : MailsGoOn
mails_go_on at bytes mail mails e = go_on at bytes (groups true (raw_lines bytes)) mail mails refl e
