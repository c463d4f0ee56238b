-- How far a reader has come on its way to the next separator line.
use Rattle.std.proofs.Common.{◌≡◌, ℕ, Bool, true, false, List, [], ◌++◌, refl, sym, ap, ◌∙◌, append_assoc, Option, None, Some}
use Rattle.std.proofs.lemmas.List.{append-nil}
use Rattle.mboxrd.specs.declared.fault.BoxFault.{BoxFault}
use Rattle.mboxrd.specs.declared.fault.BoxFault.TheVariants.{Memory, Endless}
use Rattle.mboxrd.specs.declared.line_state.LineState.{LineState}
use Rattle.mboxrd.specs.declared.line_state.LineState.TheVariants.{Separator, Start, From, Quote, Cr, Inside}
use Rattle.mboxrd.specs.Remaining.{Remaining, push, from_text}
use Rattle.mboxrd.specs.LineStates.{remaining_from, IsLineState, StepsTo, EndsWith}
use Rattle.source_buffer.specs.Buffered.{Buffered, BufferTakes}
use Rattle.source_buffer.specs.Kept.{Kept, Keeps}
use Rattle.kit.specs.Chains.{Adds, Cut}
use Rattle.mboxrd.specs.Traced.{Traced, held_back, held_back_if}
use Rattle.mboxrd.proofs.Tracing.{traced_none, traced_more, traced_end}
use Rattle.mboxrd.specs.ToSeparator.{Reaches, NoSeparator}
use Rattle.source_buffer.proofs.Prefixes.{Keeps_more, Keeps_none}
use Rattle.source_buffer.proofs.Taking.{BufferTakes_more, BufferTakes_none, held_more}
use Rattle.mboxrd.proofs.Stepping.{from_end, quote_end, separator_end, start_end, inside_end, cr_end}

-- `bytes` were taken of the source, `passed` is what the reader has passed, and `added` is what the mail has of it.
pub record Progress (l m : Option (List ℕ)) (a b : Buffered) (k n : Kept) (x y : Cut) (start state : LineState) : Type 0 where
  pub bytes : List ℕ
  pub passed : List ℕ
  pub added : List ℕ
  pub took : BufferTakes l m a b bytes
  pub held : a.held ++ bytes ≡ passed ++ b.held
  pub keeps : Keeps k n added
  pub comes : (bs : List ℕ) → remaining_from start (passed ++ bs) ≡ push added (remaining_from state bs)
  pub traced : Traced (held_back start) passed (held_back state) x y

pub progress_none : (l : Option (List ℕ)) (a : Buffered) (k : Kept) (x : Cut) (start : LineState) → Progress l l a a k k x x start start
progress_none l a k x start = record {
  bytes = [];
  passed = [];
  added = [];
  took = BufferTakes_none l a a refl refl;
  held = append-nil a.held;
  keeps = Keeps_none k;
  comes = λ bs. refl;
  traced = traced_none (held_back start) x;
}

push_push : (x y : List ℕ) (h : Remaining) → push x (push y h) ≡ push (x ++ y) h
push_push x y h = rw append_assoc refl

pub progress_more : (l m o : Option (List ℕ)) (a b c : Buffered) (k n p : Kept) (x y z : Cut) (start state next : LineState) (read bytes added : List ℕ)
    → Progress l m a b k n x y start state → BufferTakes m o b c bytes → b.held ++ bytes ≡ read ++ c.held → Keeps n p added → StepsTo state read added (Some next)
    → Traced (held_back state) read (held_back next) y z → Progress l o a c k p x z start next
progress_more l m o a b c k n p x y z start state next read bytes added r took held keeps steps traced = record {
  bytes = r.bytes ++ bytes;
  passed = r.passed ++ read;
  added = r.added ++ added;
  took = BufferTakes_more l m o a b c r.bytes bytes r.took took;
  held = held_more a.held r.bytes bytes r.passed b.held read c.held r.held held;
  keeps = Keeps_more k n p r.added added r.keeps keeps;
  comes = λ bs. ap (remaining_from start) (append_assoc r.passed read bs) ∙ r.comes (read ++ bs) ∙ ap (push r.added) (steps.1 bs) ∙ push_push r.added added (remaining_from next bs);
  traced = traced_more (held_back start) (held_back state) (held_back next) r.passed read x y z r.traced traced;
}

-- the same at the separator line or the end
abbrev pub Arrival : Option (List ℕ) → Option (List ℕ) → Buffered → Buffered → Kept → Kept → Cut → Cut → LineState → Bool → Type 0
Arrival l m a b k n x y start found = (bytes : List ℕ) × BufferTakes l m a b bytes × ((passed : List ℕ) × (added : List ℕ) × (a.held ++ bytes ≡ passed ++ b.held) × Keeps k n added × Reaches start passed added found × Traced (held_back start) passed (held_back_if found) x y)

pub arrives_cut : (l m o : Option (List ℕ)) (a b c : Buffered) (k n p : Kept) (x y z : Cut) (start state : LineState) (read bytes added : List ℕ)
    → Progress l m a b k n x y start state → BufferTakes m o b c bytes → b.held ++ bytes ≡ read ++ c.held → Keeps n p added → StepsTo state read added None
    → Traced (held_back state) read from_text y z → Arrival l o a c k p x z start true
arrives_cut l m o a b c k n p x y z start state read bytes added r took held keeps steps traced = (
  r.bytes ++ bytes,
  BufferTakes_more l m o a b c r.bytes bytes r.took took,
  (
    r.passed ++ read,
    r.added ++ added,
    held_more a.held r.bytes bytes r.passed b.held read c.held r.held held,
    Keeps_more k n p r.added added r.keeps keeps,
    λ bs. ap (remaining_from start) (append_assoc r.passed read bs) ∙ r.comes (read ++ bs) ∙ ap (push r.added) (steps bs),
    traced_more (held_back start) (held_back state) from_text r.passed read x y z r.traced traced,
  ),
)

pub arrives_end : (l m o : Option (List ℕ)) (a b c : Buffered) (k n p : Kept) (x y z : Cut) (start state : LineState) (bytes added : List ℕ)
    → Progress l m a b k n x y start state → BufferTakes m o b c bytes → b.held ++ bytes ≡ c.held → Keeps n p added → EndsWith state added
    → Adds y z (held_back state) → Arrival l o a c k p x z start false
arrives_end l m o a b c k n p x y z start state bytes added r took held keeps ends adds = (
  r.bytes ++ bytes,
  BufferTakes_more l m o a b c r.bytes bytes r.took took,
  (
    r.passed,
    r.added ++ added,
    held_more a.held r.bytes bytes r.passed b.held [] c.held r.held held ∙ ap (λ z. z ++ c.held) (append-nil r.passed),
    Keeps_more k n p r.added added r.keeps keeps,
    ap (remaining_from start) (sym (append-nil r.passed)) ∙ r.comes [] ∙ ap (push r.added) ends,
    traced_end (held_back start) (held_back state) r.passed x y z r.traced adds,
  ),
)

ends_somehow : (state : LineState) → IsLineState state → (added : List ℕ) × EndsWith state added
ends_somehow Separator s = (_, separator_end)
ends_somehow (Start c) s = (_, start_end c)
ends_somehow (From c k) s = (_, from_end c k s.0 s.1)
ends_somehow (Quote k) s = (_, quote_end k s)
ends_somehow Cr s = (_, cr_end)
ends_somehow Inside s = (_, inside_end)

-- where all that was taken has been passed, and no separator line was found in it
pub progress_all : (l m o : Option (List ℕ)) (a b c : Buffered) (k n : Kept) (x y : Cut) (start state : LineState) (bytes : List ℕ)
    → Progress l m a b k n x y start state → IsLineState state → BufferTakes m o b c bytes → b.held ++ bytes ≡ []
    → (all : List ℕ) × BufferTakes l o a c all × NoSeparator start (a.held ++ all)
progress_all l m o a b c k n x y start state bytes r s took none =
    let e = ends_somehow state s in
    let met : a.held ++ (r.bytes ++ bytes) ≡ r.passed = sym (append_assoc a.held r.bytes bytes) ∙ ap (λ z. z ++ bytes) r.held ∙ append_assoc r.passed b.held bytes ∙ ap (λ z. r.passed ++ z) none ∙ append-nil r.passed in (
      r.bytes ++ bytes,
      BufferTakes_more l m o a b c r.bytes bytes r.took took,
      (r.added ++ e.0, ap (remaining_from start) (met ∙ sym (append-nil r.passed)) ∙ r.comes [] ∙ ap (push r.added) e.1),
    )

pub clash : (x : BoxFault) → x ≡ Memory → x ≡ Endless → ⊥
clash x m e = cc
