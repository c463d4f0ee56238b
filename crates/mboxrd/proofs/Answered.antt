-- The answer of a reader that goes to the next separator line, and then reads a mail.
use Rattle.std.proofs.Common.{◌≡◌, ◌≢◌, ℕ, ◌+◌, ◌<◌, ◌≤◌, true, false, List, [], ◌∷◌, ◌++◌, length, take, refl, sym, ap, subst, ◌∙◌, append_assoc, arith, Option, None, Some, Vec, Global}
use Rattle.std.proofs.lemmas.List.{length-append, length-take, take_all}
use Rattle.std.specs.Io.KnownBytes.{IsAtEnd}
use Rattle.source_buffer.specs.Known.{IfKnown}
use Rattle.mboxrd.specs.declared.taken.Taken.{Taken}
use Rattle.mboxrd.specs.declared.taken.Taken.TheVariants as taken
use Rattle.mboxrd.specs.Mails.{Mail, mails_from}
use Rattle.mboxrd.specs.Reading.{Reading, position, Takes}
use Rattle.mboxrd.specs.Answers.{max_mail_len, AtMostOneMail, IsNext, Decides}
use Rattle.mboxrd.specs.ToSeparator.{SameMails, OneMail}

-- to the separator line, and from there
both : (old mid new : Reading) (p q mail : List ℕ) → mid.at_separator ≡ true → SameMails old p mid → OneMail mid q mail new → OneMail old (p ++ q) mail new
both old mid new p q mail met same one rest may =
    ap (λ z. mails_from (position old) (old.held ++ z)) (append_assoc p q rest)
    ∙ same (q ++ rest) (λ e. cc) ∙ one rest may

pub both_most : (old mid : Reading) (p q : List ℕ) → mid.at_separator ≡ true → SameMails old p mid → AtMostOneMail mid q → AtMostOneMail old (p ++ q)
both_most old mid p q met same most = omega (arith, ap length (same q (λ e. cc)), most)

pub answers_long : (old mid new : Reading) (p q mail bytes : List ℕ) → mid.at_separator ≡ true → SameMails old p mid → OneMail mid q mail new → new.place ≡ position new
    → bytes ≡ take (max_mail_len + 1) mail → max_mail_len < length bytes → Decides old (p ++ q) taken.TooLong new
answers_long old mid new p q mail bytes met same one place is long rest may =
    let later = mails_from (position new) (new.held ++ rest) in
    let P : List Mail → Type 0 = λ ms. IsNext ms taken.TooLong old new later in
    subst P (sym (both old mid new p q mail met same one rest may)) (omega (arith, ap length is, length-take (max_mail_len + 1) mail), place, refl, refl)

pub answers_mail : (old mid new : Reading) (p q mail : List ℕ) (v : Vec ℕ Global) → mid.at_separator ≡ true → SameMails old p mid → OneMail mid q mail new → new.place ≡ position new
    → v.items ≡ take (max_mail_len + 1) mail → length v.items ≤ max_mail_len → Decides old (p ++ q) (taken.Mail v) new
answers_mail old mid new p q mail v met same one place is short rest may =
    let later = mails_from (position new) (new.held ++ rest) in
    let whole : take (max_mail_len + 1) mail ≡ mail = take_all (max_mail_len + 1) mail (omega (arith, short, ap length is, length-take (max_mail_len + 1) mail)) in
    let P : List Mail → Type 0 = λ ms. IsNext ms (taken.Mail v) old new later in
    subst P (sym (both old mid new p q mail met same one rest may)) (is ∙ whole, omega (arith, short, ap length is, ap length whole), place, refl, refl)

pub answer_known : (l m : Option (List ℕ)) (old new : Reading) (p : List ℕ) (answer : Taken) → Takes l m old new p → (new.at_separator ≡ false → IsAtEnd m × (new.held ≡ [])) → Decides old p answer new
    → IfKnown l m (λ before after. IsNext (mails_from (position old) (old.held ++ before)) answer old new (mails_from (position new) (new.held ++ after)))
answer_known None m old new p answer takes end answers = tt
answer_known (Some l) None old new p answer takes end answers = absurd takes.left
answer_known (Some l) (Some m) old new p answer takes end answers =
    let P : List ℕ → Type 0 = λ b. IsNext (mails_from (position old) (old.held ++ b)) answer old new (mails_from (position new) (new.held ++ m)) in
    subst P (sym takes.left) (answers m (λ e. (end e).0))

-- what is no end comes of some bytes
pub given_some : (old new : Reading) (bytes : List ℕ) (answer : Taken) → answer ≢ taken.End → Decides old bytes answer new → length old.held ≤ old.taken
    → new.taken ≡ old.taken + length bytes → 1 ≤ new.taken
given_some old new bytes answer some decides held count = by (old.held ++ (bytes ++ [])) refl (decides [] (λ e. refl))
  where
    no_mail : (a : Taken) (others : List Mail) → a ≢ taken.End → IsNext [] a old new others → ⊥
    no_mail taken.End others some next = some refl
    no_mail taken.TooLong others some next = next
    no_mail (taken.Mail v) others some next = next

    by : (all : List ℕ) → old.held ++ (bytes ++ []) ≡ all
        → IsNext (mails_from (position old) all) answer old new (mails_from (position new) (new.held ++ [])) → 1 ≤ new.taken
    by [] is next = absurd (no_mail answer (mails_from (position new) (new.held ++ [])) some next)
    by (b ∷ all) is next =
        omega (arith, ap length is, length-append old.held (bytes ++ []), length-append bytes [], held, count)
