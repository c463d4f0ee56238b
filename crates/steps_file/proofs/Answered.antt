-- The answer for the line that was passed.
use Rattle.std.proofs.Common.{◌≡◌, ℕ, ◌+◌, ◌≤◌, Bool, true, List, [], ◌∷◌, ◌++◌, length, take, drop, Option, Some, None, refl, sym, ap, subst, ◌∙◌, arith, length-append}
use Rattle.std.proofs.lemmas.List.{append-nil}
use Rattle.std.specs.Io.KnownBytes.{IsAtEnd}
use Rattle.kit.specs.Lines.{content}
use Rattle.source_buffer.specs.Buffered.{Buffered, BufferTakes, Drops, position as at}
use Rattle.kit.specs.Chains.{Cut}
use Rattle.source_buffer.specs.Known.{IfKnown}
use Rattle.source_buffer.proofs.Positions.{moved, at_position}
use Rattle.source_buffer.proofs.Taking.{held_on}
use Rattle.steps_file.specs.declared.step.Step.{Step}
use Rattle.steps_file.specs.declared.taken.Taken.{Taken}
use Rattle.steps_file.specs.declared.taken.Taken.TheVariants as taken
use Rattle.steps_file.specs.Lines.{ended_lines}
use Rattle.steps_file.specs.Steps.{step_of}
use Rattle.steps_file.specs.Passing.{HasNoLf, IsLineAt}
use Rattle.steps_file.specs.Reading.{Reading, IsAt, Takes, buffered, position}
use Rattle.steps_file.specs.Answers.{IsNext, Decides, HoldsRest, answer_of}
use Rattle.steps_file.proofs.EndedLines.{ended_none, ended_first}
use Rattle.steps_file.proofs.LongLines.{first_bytes_tell}

is_next : (raw : List ℕ) (lines others : List (List ℕ)) (o : Option Step) (old new : Reading) → step_of (content raw) ≡ o → new.place ≡ old.place + length raw → others ≡ lines
    → IsNext (raw ∷ lines) (answer_of o) old new others
is_next raw lines others (Some s) old new step place same = (step, place, same)
is_next raw lines others None old new step place same = (step, place, same)

pub no_end : (o : Option Step) → answer_of o ≡ taken.End → ⊥
no_end (Some s) e = cc
no_end None e = cc

pub line_decides : (old new : Reading) (bytes passed line : List ℕ) (answer : Taken) → old.held ++ bytes ≡ passed ++ new.held → IsLineAt true passed → line ≡ take 23 passed
    → new.place ≡ old.place + length passed → answer ≡ answer_of (step_of (content line)) → Decides old bytes answer new
line_decides old new bytes passed line answer held one is place answers rest may =
    let others = ended_lines (new.held ++ rest) in
    let lines : ended_lines (old.held ++ (bytes ++ rest)) ≡ passed ∷ others = ap ended_lines (held_on old.held bytes passed new.held rest held) ∙ ended_first passed (new.held ++ rest) one in
    let told : step_of (content line) ≡ step_of (content passed) = ap (λ (l : List ℕ). step_of (content l)) is ∙ first_bytes_tell passed in
    let says : answer ≡ answer_of (step_of (content passed)) = answers ∙ ap answer_of told in
    let P : List (List ℕ) → Type 0 = λ ls. IsNext ls answer old new others in
    let Q : Taken → Type 0 = λ t. IsNext (passed ∷ others) t old new others in
    subst P (sym lines) (subst Q (sym says) (is_next passed others others (step_of (content passed)) old new refl place refl))

pub end_decides : (old new : Reading) (bytes passed : List ℕ) → old.held ++ bytes ≡ passed ++ new.held → HasNoLf passed → new.held ≡ [] → new.place ≡ old.place → Decides old bytes taken.End new
end_decides old new bytes passed held none nothing place rest may =
    let after : new.held ++ rest ≡ [] = ap (λ z. z ++ rest) nothing ∙ may refl in
    let all : old.held ++ (bytes ++ rest) ≡ passed = held_on old.held bytes passed new.held rest held ∙ ap (λ z. passed ++ z) after ∙ append-nil passed in
    let P : List (List ℕ) → List (List ℕ) → Type 0 = λ ls others. IsNext ls taken.End old new others in
    subst (λ ls. P ls (ended_lines (new.held ++ rest))) (sym (ap ended_lines all ∙ ended_none passed none)) (subst (P []) (sym (ap ended_lines after)) (refl, place))

pub answer_known : (l m : Option (List ℕ)) (old new : Reading) (p : List ℕ) (answer : Taken) → Takes l m old new p → (answer ≡ taken.End → IsAtEnd m × (new.held ≡ [])) → Decides old p answer new
    → IfKnown l m (λ before after. IsNext (ended_lines (old.held ++ before)) answer old new (ended_lines (new.held ++ after)))
answer_known None m old new p answer takes end answers = tt
answer_known (Some l) None old new p answer takes end answers = absurd takes.left
answer_known (Some l) (Some m) old new p answer takes end answers =
    let P : List ℕ → Type 0 = λ b. IsNext (ended_lines (old.held ++ b)) answer old new (ended_lines (new.held ++ m)) in
    subst P (sym takes.left) (answers m (λ e. (end e).0))

-- ---- a reader whose buffer was this one

abbrev pub reading : Buffered → ℕ → Bool → Cut → Reading
reading b place refused trace = record { held = b.held; place = place; taken = b.taken; budget = b.budget; refused = refused; trace = trace }

-- how far it moved, and that what it holds was taken after its place
pub passes : (l m : Option (List ℕ)) (f b : Buffered) (place : ℕ) (bytes passed : List ℕ) → place + length f.held ≤ f.taken → BufferTakes l m f b bytes → f.held ++ bytes ≡ passed ++ b.held
    → (at b ≡ at f + length passed) × (place + length passed + length b.held ≤ b.taken)
passes l m f b place bytes passed fits took held =
    let count : length f.held + length bytes ≡ length passed + length b.held = omega (arith, ap length held, length-append f.held bytes, length-append passed b.held) in
    (moved l m f b bytes passed (omega (arith, fits)) (omega (arith, fits, count, took.taken)) took held, omega (arith, fits, count, took.taken))

abbrev Answers : Option (List ℕ) → Option (List ℕ) → Reading → Reading → List ℕ → Taken → Type 0
Answers l m old new bytes answer = Takes l m old new bytes × (Decides old bytes answer new × HoldsRest old bytes new)

pub line_answer : (l m : Option (List ℕ)) (old new : Reading) (f : Buffered) (bytes passed line : List ℕ) (answer : Taken) → f ≡ buffered old → BufferTakes l m f (buffered new) bytes
    → f.held ++ bytes ≡ passed ++ new.held → line ≡ take 23 passed → IsLineAt true passed → new.place ≡ old.place + length passed → answer ≡ answer_of (step_of (content line))
    → Answers l m old new bytes answer
line_answer l m old new f bytes passed line answer is took held kept one place says =
    let P : Buffered → Type 0 = λ b. BufferTakes l m b (buffered new) bytes × (b.held ++ bytes ≡ passed ++ new.held) in
    let h = subst P is (took, held) in
    (h.0, (line_decides old new bytes passed line answer h.1 one kept place says, (passed, h.1)))

pub end_answer : (l m : Option (List ℕ)) (old new : Reading) (f : Buffered) (bytes passed : List ℕ) → f ≡ buffered old → BufferTakes l m f (buffered new) bytes
    → f.held ++ bytes ≡ passed ++ new.held → HasNoLf passed → new.held ≡ [] → new.place ≡ old.place → Answers l m old new bytes taken.End
end_answer l m old new f bytes passed is took held none nothing place =
    let P : Buffered → Type 0 = λ b. BufferTakes l m b (buffered new) bytes × (b.held ++ bytes ≡ passed ++ new.held) in
    let h = subst P is (took, held) in
    (h.0, (end_decides old new bytes passed h.1 none nothing place, (passed, h.1)))

pub no_answer : (l m : Option (List ℕ)) (old new : Reading) (f : Buffered) (bytes : List ℕ) → f ≡ buffered old → BufferTakes l m f (buffered new) bytes → HasNoLf (f.held ++ bytes)
    → Takes l m old new bytes × (ended_lines (old.held ++ bytes) ≡ [])
no_answer l m old new f bytes is took none =
    let P : Buffered → Type 0 = λ b. BufferTakes l m b (buffered new) bytes × HasNoLf (b.held ++ bytes) in
    let h = subst P is (took, none) in
    (h.0, ended_none (old.held ++ bytes) h.1)

-- what is held and left is the file from its new position on
pub stays_at : (l m : Option (List ℕ)) (old new : Reading) (f : Buffered) (place : ℕ) (bytes passed : List ℕ) → f ≡ buffered old → place + length f.held ≤ f.taken → BufferTakes l m f (buffered new) bytes
    → f.held ++ bytes ≡ passed ++ new.held → IfKnown l m (λ before after. (file : List ℕ) → IsAt file before old → IsAt file after new)
stays_at l m old new f place bytes passed is fits took held =
    let fewer : length new.held ≤ new.taken = omega (arith, (passes l m f (buffered new) place bytes passed fits took held).1) in
    let P : Buffered → Type 0 = λ b. IfKnown l m (λ before after. (file : List ℕ) → b.held ++ before ≡ drop (at b) file → IsAt file after new) in
    subst P is (at_position l m f (buffered new) bytes (omega (arith, fits)) fewer took (passed, held))

pub skipped : (l m : Option (List ℕ)) (old new : Reading) (f : Buffered) (i j : Cut) (place : ℕ) (bytes : List ℕ) (n : ℕ) → f ≡ buffered old → place + length f.held ≤ f.taken → BufferTakes l m f (buffered new) bytes
    → Drops i j f.held bytes n new.held → position new ≡ position old + n
skipped l m old new f i j place bytes n is fits took drops =
    omega (arith, (passes l m f (buffered new) place bytes drops.0 fits took drops.1).0, ap at is, drops.2)
