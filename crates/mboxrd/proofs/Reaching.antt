-- The mails from a reader's position on.
use Rattle.std.proofs.Common.{◌≡◌, ℕ, ◌+◌, ◌-◌, ◌≤◌, Bool, true, false, List, [], ◌∷◌, ◌++◌, length, refl, sym, ap, subst, ◌∙◌, append_assoc, arith, length-append, Option}
use Rattle.std.proofs.lemmas.List.{append-nil}
use Rattle.mboxrd.specs.declared.line_state.Preceding.TheVariants.{Nothing}
use Rattle.mboxrd.specs.declared.line_state.LineState.TheVariants.{Separator, Start}
use Rattle.mboxrd.specs.Remaining.{from_text}
use Rattle.mboxrd.specs.Mails.{Mail, mails_from}
use Rattle.mboxrd.specs.LineStates.{remaining_from}
use Rattle.source_buffer.specs.Buffered.{Buffered, BufferTakes}
use Rattle.source_buffer.proofs.Taking.{held_on}
use Rattle.kit.specs.Chains.{Adds, Cut}
use Rattle.kit.proofs.ChainLaws.{adds_more}
use Rattle.mboxrd.specs.Traced.{Goes, Traced, held_back_if}
use Rattle.mboxrd.proofs.Tracing.{back_held}
use Rattle.mboxrd.specs.Reading.{Reading, Takes}
use Rattle.mboxrd.specs.Held.{with_from}
use Rattle.mboxrd.specs.Answers.{HoldsRest, AtMostOneMail}
use Rattle.mboxrd.specs.ToSeparator.{Reaches, NoSeparator, SameMails, OneMail}
use Rattle.mboxrd.proofs.NextMail.{mail_from, mails_after, ends_in_from, mail_ends_in_from}

abbrev pub reading : Buffered → ℕ → Bool → Bool → Cut → Reading
reading f place met refused trace = record { held = with_from met f.held; place = place; taken = f.taken; budget = f.budget; at_separator = met; refused = refused; trace = trace }

-- at a separator line, what was passed ends with its `From `
passed_from : (passed added : List ℕ) → Reaches (Start Nothing) passed added true → (prefix : List ℕ) × (passed ≡ prefix ++ from_text)
passed_from passed added reaching = ends_in_from passed from_text added (ap (remaining_from (Start Nothing)) (sym (append-nil passed)) ∙ reaching [])

pub reaches : (a b : Buffered) (p q : ℕ) (r v : Bool) (i j : Cut) (bytes passed added : List ℕ) (found : Bool) → length a.held ≤ a.taken → b.taken ≡ a.taken + length bytes
    → a.held ++ bytes ≡ passed ++ b.held → (found ≡ false → b.held ≡ []) → Reaches (Start Nothing) passed added found
    → SameMails (reading a p false r i) bytes (reading b q found v j)
reaches a b p q r v i j bytes passed added true within t met none reaching rest may =
    let x = passed ++ (b.held ++ rest) in
    let y = from_text ++ (b.held ++ rest) in
    let e = passed_from passed added reaching in
    let count : length a.held + length bytes ≡ length passed + length b.held = omega (arith, ap length met, length-append a.held bytes, length-append passed b.held) in
    ap (mails_from (a.taken - length a.held)) (held_on a.held bytes passed b.held rest met)
    ∙ mails_after (a.taken - length a.held) x y added (b.taken - length (from_text ++ b.held)) (reaching (b.held ++ rest))
    (omega (arith, within, t, count, ap length e.1, length-append e.0 from_text, length-append b.held rest, length-append passed (b.held ++ rest)))
    ∙ ap (mails_from (b.taken - length (from_text ++ b.held))) (sym (append_assoc from_text b.held rest))
reaches a b p q r v i j bytes passed added false within t met none reaching rest may =
    let met_all : a.held ++ bytes ≡ passed = met ∙ ap (λ z. passed ++ z) (none refl) ∙ append-nil passed in
    let count : length a.held + length bytes ≡ length passed = omega (arith, ap length met_all, length-append a.held bytes) in
    let nothing : b.held ++ rest ≡ [] = ap (λ z. z ++ rest) (none refl) ∙ may refl in
    ap (mails_from (a.taken - length a.held)) (held_on a.held bytes passed b.held rest met ∙ ap (λ z. passed ++ z) nothing ∙ append-nil passed)
    ∙ mails_after (a.taken - length a.held) passed [] added (b.taken - length b.held) reaching (omega (arith, within, t, count, ap length (none refl)))
    ∙ ap (mails_from (b.taken - length b.held)) (sym nothing)

pub reaches_none : (a : Buffered) (p : ℕ) (r : Bool) (i : Cut) (bytes : List ℕ) → NoSeparator (Start Nothing) (a.held ++ bytes) → AtMostOneMail (reading a p false r i) bytes
reaches_none a p r i bytes u =
    let e : mails_from (a.taken - length a.held) (a.held ++ bytes) ≡ [] =
    mails_after (a.taken - length a.held) (a.held ++ bytes) [] u.0 (a.taken - length a.held + length (a.held ++ bytes)) u.1 (omega arith) in
    omega (arith, ap length e)

pub one_mail : (a b : Buffered) (p q : ℕ) (r v : Bool) (i j : Cut) (bytes passed added : List ℕ) (found : Bool) → length (from_text ++ a.held) ≤ a.taken → b.taken ≡ a.taken + length bytes
    → a.held ++ bytes ≡ passed ++ b.held → (found ≡ false → b.held ≡ []) → Reaches Separator passed added found
    → OneMail (reading a p true r i) bytes added (reading b q found v j)
one_mail a b p q r v i j bytes passed added true within t met none reaching rest may =
    let x = passed ++ (b.held ++ rest) in
    let y = from_text ++ (b.held ++ rest) in
    let end = b.taken - length (from_text ++ b.held) in
    let count : length a.held + length bytes ≡ length passed + length b.held = omega (arith, ap length met, length-append a.held bytes, length-append passed b.held) in
    ap (λ z. mails_from (a.taken - length (from_text ++ a.held)) (from_text ++ z)) (held_on a.held bytes passed b.held rest met)
    ∙ mail_from (a.taken - length (from_text ++ a.held)) x y added end (reaching (b.held ++ rest))
    (omega (arith, within, t, count, length-append b.held rest, length-append passed (b.held ++ rest)))
one_mail a b p q r v i j bytes passed added false within t met none reaching rest may =
    let met_all : a.held ++ bytes ≡ passed = met ∙ ap (λ z. passed ++ z) (none refl) ∙ append-nil passed in
    let count : length a.held + length bytes ≡ length passed = omega (arith, ap length met_all, length-append a.held bytes) in
    let nothing : b.held ++ rest ≡ [] = ap (λ z. z ++ rest) (none refl) ∙ may refl in
    let made : List Mail → List Mail = λ ms. record { bytes = added; end = b.taken - length b.held } ∷ ms in
    ap (λ z. mails_from (a.taken - length (from_text ++ a.held)) (from_text ++ z)) (held_on a.held bytes passed b.held rest met ∙ ap (λ z. passed ++ z) nothing ∙ append-nil passed)
    ∙ mail_from (a.taken - length (from_text ++ a.held)) passed [] added (b.taken - length b.held) reaching (omega (arith, within, t, count, ap length (none refl)))
    ∙ ap (λ z. made (mails_from (b.taken - length b.held) z)) (sym nothing)

pub one_at_most : (a : Buffered) (p : ℕ) (r : Bool) (i : Cut) (bytes : List ℕ) → length (from_text ++ a.held) ≤ a.taken → NoSeparator Separator (a.held ++ bytes) → AtMostOneMail (reading a p true r i) bytes
one_at_most a p r i bytes within u =
    let at = a.taken - length (from_text ++ a.held) in
    let e = mail_from at (a.held ++ bytes) [] u.0 (at + length (from_text ++ (a.held ++ bytes))) u.1 (omega arith) in
    omega (arith, ap length e)

pub takes_buffered : (l m : Option (List ℕ)) (a b : Buffered) (p q : ℕ) (r v : Bool) (i j : Cut) (s t : Bool) (bytes : List ℕ) → BufferTakes l m a b bytes → Takes l m (reading a p s r i) (reading b q t v j) bytes
takes_buffered l m a b p q r v i j s t bytes h = record { left = h.left; taken = h.taken; budget = h.budget; within = h.within }

prefix_on : (h p passed held from prefix : List ℕ) → h ++ p ≡ passed ++ held → passed ≡ prefix ++ from → h ++ p ≡ prefix ++ (from ++ held)
prefix_on h p passed held from prefix met e = met ∙ ap (λ z. z ++ held) e ∙ append_assoc prefix from held

reach_holds_rest : (a b : Buffered) (p q : ℕ) (r v : Bool) (i j : Cut) (bytes passed added : List ℕ) (found : Bool) → a.held ++ bytes ≡ passed ++ b.held → Reaches (Start Nothing) passed added found → HoldsRest (reading a p false r i) bytes (reading b q found v j)
reach_holds_rest a b p q r v i j bytes passed added true met reaching =
    let e = passed_from passed added reaching in
    (e.0, prefix_on a.held bytes passed b.held from_text e.0 met e.1)
reach_holds_rest a b p q r v i j bytes passed added false met reaching = (passed, met)

mail_holds_rest : (a b : Buffered) (p q : ℕ) (r v : Bool) (i j : Cut) (bytes passed added : List ℕ) (found : Bool) → a.held ++ bytes ≡ passed ++ b.held → Reaches Separator passed added found → HoldsRest (reading a p true r i) bytes (reading b q found v j)
mail_holds_rest a b p q r v i j bytes passed added true met reaching =
    let e = mail_ends_in_from passed from_text added (ap (remaining_from Separator) (sym (append-nil passed)) ∙ reaching []) in
    (e.0, prefix_on (from_text ++ a.held) bytes (from_text ++ passed) b.held from_text e.0 (ap (λ z. from_text ++ z) met) e.1)
mail_holds_rest a b p q r v i j bytes passed added false met reaching = (from_text ++ passed, ap (λ z. from_text ++ z) met)

-- the same of a reader whose value is another name for these fields
as_reading : (P : Reading → Type 0) (f : Buffered) (p : ℕ) (r : Bool) (i : Cut) (s t : Bool) (old : Reading) → reading f p s r i ≡ old → s ≡ t → P (reading f p t r i) → P old
as_reading P f p r i s t old view is h = let Q : Bool → Type 0 = λ z. P (reading f p z r i) in subst P view (subst Q (sym is) h)

pub fits_as : (f : Buffered) (s t : Bool) → s ≡ t → length (with_from s f.held) ≤ f.taken → length (with_from t f.held) ≤ f.taken
fits_as f s t is h = let Q : Bool → Type 0 = λ z. length (with_from z f.held) ≤ f.taken in subst Q is h

pub reach_ok : (l m : Option (List ℕ)) (old : Reading) (f b : Buffered) (s found : Bool) (p q : ℕ) (r v : Bool) (i j : Cut) (bytes passed added : List ℕ)
    → reading f p s r i ≡ old → s ≡ false → length (with_from s f.held) ≤ f.taken → BufferTakes l m f b bytes → f.held ++ bytes ≡ passed ++ b.held → (found ≡ false → b.held ≡ [])
    → Reaches (Start Nothing) passed added found → Takes l m old (reading b q found v j) bytes × (SameMails old bytes (reading b q found v j) × HoldsRest old bytes (reading b q found v j))
reach_ok l m old f b s found p q r v i j bytes passed added view is within took met none reaching =
    as_reading (λ o. Takes l m o (reading b q found v j) bytes × (SameMails o bytes (reading b q found v j) × HoldsRest o bytes (reading b q found v j))) f p r i s false old view is
    (takes_buffered l m f b p q r v i j false found bytes took, (reaches f b p q r v i j bytes passed added found (fits_as f s false is within) took.taken met none reaching, reach_holds_rest f b p q r v i j bytes passed added found met reaching))

pub reach_err : (l m : Option (List ℕ)) (old : Reading) (f b : Buffered) (s t : Bool) (p q : ℕ) (r v : Bool) (i j : Cut) (bytes : List ℕ) (E : Type 0)
    → reading f p s r i ≡ old → s ≡ false → BufferTakes l m f b bytes → (E → NoSeparator (Start Nothing) (f.held ++ bytes)) → Takes l m old (reading b q t v j) bytes × (E → AtMostOneMail old bytes)
reach_err l m old f b s t p q r v i j bytes E view is took u =
    as_reading (λ o. Takes l m o (reading b q t v j) bytes × (E → AtMostOneMail o bytes)) f p r i s false old view is
    (takes_buffered l m f b p q r v i j false t bytes took, λ e. reaches_none f p r i bytes (u e))

pub mail_ok : (l m : Option (List ℕ)) (old : Reading) (f b : Buffered) (s found : Bool) (p q : ℕ) (r v : Bool) (i j : Cut) (bytes passed added : List ℕ)
    → reading f p s r i ≡ old → s ≡ true → length (with_from s f.held) ≤ f.taken → BufferTakes l m f b bytes → f.held ++ bytes ≡ passed ++ b.held → (found ≡ false → b.held ≡ [])
    → Reaches Separator passed added found → Takes l m old (reading b q found v j) bytes × OneMail old bytes added (reading b q found v j) × HoldsRest old bytes (reading b q found v j)
mail_ok l m old f b s found p q r v i j bytes passed added view is within took met none reaching =
    as_reading (λ o. Takes l m o (reading b q found v j) bytes × OneMail o bytes added (reading b q found v j) × HoldsRest o bytes (reading b q found v j)) f p r i s true old view is
    (takes_buffered l m f b p q r v i j true found bytes took, one_mail f b p q r v i j bytes passed added found (fits_as f s true is within) took.taken met none reaching, mail_holds_rest f b p q r v i j bytes passed added found met reaching)

pub mail_err : (l m : Option (List ℕ)) (old : Reading) (f b : Buffered) (s t : Bool) (p q : ℕ) (r v : Bool) (i j : Cut) (bytes : List ℕ) (E : Type 0)
    → reading f p s r i ≡ old → s ≡ true → length (with_from s f.held) ≤ f.taken → BufferTakes l m f b bytes → (E → NoSeparator Separator (f.held ++ bytes)) → Takes l m old (reading b q t v j) bytes × (E → AtMostOneMail old bytes)
mail_err l m old f b s t p q r v i j bytes E view is within took u =
    as_reading (λ o. Takes l m o (reading b q t v j) bytes × (E → AtMostOneMail o bytes)) f p r i s true old view is
    (takes_buffered l m f b p q r v i j true t bytes took, λ e. one_at_most f p r i bytes (fits_as f s true is within) (u e))

-- what is held is no more than what was taken, also with the `From ` of a separator line before it
pub reach_fits : (a b : Buffered) (s : Bool) (bytes passed added : List ℕ) (found : Bool) → s ≡ false → length (with_from s a.held) ≤ a.taken → b.taken ≡ a.taken + length bytes → length b.held ≤ b.taken
    → a.held ++ bytes ≡ passed ++ b.held → Reaches (Start Nothing) passed added found → length (with_from found b.held) ≤ b.taken
reach_fits a b s bytes passed added true is within t few met reaching =
    let e = passed_from passed added reaching in
    omega (arith, fits_as a s false is within, t, ap length met, length-append a.held bytes, length-append passed b.held, ap length e.1, length-append e.0 from_text)
reach_fits a b s bytes passed added false is within t few met reaching = few

pub mail_fits : (a b : Buffered) (s : Bool) (bytes passed : List ℕ) → s ≡ true → length (with_from s a.held) ≤ a.taken → b.taken ≡ a.taken + length bytes
    → a.held ++ bytes ≡ passed ++ b.held → 5 + length b.held ≤ b.taken
mail_fits a b s bytes passed is within t met = omega (arith, fits_as a s true is within, t, ap length met, length-append a.held bytes, length-append passed b.held)

pub with_from_fits : (found : Bool) (b : Buffered) → 5 + length b.held ≤ b.taken → length (with_from found b.held) ≤ b.taken
with_from_fits true b h = omega arith
with_from_fits false b h = omega arith

-- what is added to the trace
pub reach_goes : (old : Reading) (f b : Buffered) (s found : Bool) (p q : ℕ) (r v : Bool) (i j : Cut) (bytes passed : List ℕ) → reading f p s r i ≡ old → s ≡ false
    → f.held ++ bytes ≡ passed ++ b.held → Traced [] passed (held_back_if found) i j → Goes old bytes (reading b q found v j)
reach_goes old f b s found p q r v i j bytes passed view is met t =
    as_reading (λ o. Goes o bytes (reading b q found v j)) f p r i s false old view is (t.added, back_held found f.held bytes passed t.added b.held met t.all, t.adds)

pub mail_goes : (old : Reading) (f b : Buffered) (s found : Bool) (p q : ℕ) (r v : Bool) (i k j : Cut) (bytes passed : List ℕ) → reading f p s r i ≡ old → s ≡ true
    → f.held ++ bytes ≡ passed ++ b.held → Adds i k from_text → Traced [] passed (held_back_if found) k j → Goes old bytes (reading b q found v j)
mail_goes old f b s found p q r v i k j bytes passed view is met from t =
    as_reading (λ o. Goes o bytes (reading b q found v j)) f p r i s true old view is
    (from_text ++ t.added, ap (λ z. from_text ++ z) (back_held found f.held bytes passed t.added b.held met t.all), adds_more i k j from_text t.added from t.adds)
