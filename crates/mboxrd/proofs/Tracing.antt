-- What a reader adds to its trace.
use Rattle.std.proofs.Common.{◌≡◌, ℕ, zero, suc, ◌+◌, ◌<◌, ◌≤◌, Bool, true, false, List, [], ◌∷◌, ◌++◌, length, take, refl, sym, ap, subst, ◌∙◌, append_assoc, arith, Option, None, Some}
use Rattle.std.specs.Prelude.{slice_index}
use Rattle.std.proofs.lemmas.List.{append-nil}
use Rattle.kit.specs.Chains.{Adds, Cut, StandsFor}
use Rattle.kit.proofs.ChainLaws.{adds_none, adds_more, adds_as}
use Rattle.source_buffer.specs.Known.{IfKnown}
use Rattle.source_buffer.proofs.Traced.{stands_on}
use Rattle.mboxrd.specs.Remaining.{from_text}
use Rattle.mboxrd.specs.declared.line_state.LineState.{LineState}
use Rattle.mboxrd.specs.declared.line_state.LineState.TheVariants.{Separator, Start, From, Quote, Cr, Inside}
use Rattle.mboxrd.specs.Held.{with_from}
use Rattle.mboxrd.specs.Reading.{Reading, IsAt, IsTraced, Takes, buffered, position}
use Rattle.mboxrd.specs.Traced.{HoldsBack, Traced, Goes, held_back, held_back_at, held_back_if, holds_any}

-- ---- steps

pub traced_none : (before : List ℕ) (c : Cut) → Traced before [] before c c
traced_none before c = record { added = []; all = append-nil before; adds = adds_none c }

pub traced_more : (x y z p q : List ℕ) (a b c : Cut) → Traced x p y a b → Traced y q z b c → Traced x (p ++ q) z a c
traced_more x y z p q a b c s t = record {
  added = s.added ++ t.added;
  all = sym (append_assoc x p q) ∙ ap (λ l. l ++ q) s.all ∙ append_assoc s.added y q ∙ ap (λ l. s.added ++ l) t.all ∙ sym (append_assoc s.added t.added z);
  adds = adds_more a b c s.added t.added s.adds t.adds;
}

-- what was held back is added
pub traced_end : (x y p : List ℕ) (a b c : Cut) → Traced x p y a b → Adds b c y → Traced x p [] a c
traced_end x y p a b c t adds = record { added = t.added ++ y; all = t.all ∙ sym (append-nil (t.added ++ y)); adds = adds_more a b c t.added y t.adds adds }

-- all of it is held back
pub back_all : (before read after : List ℕ) (c : Cut) → before ++ read ≡ after → Traced before read after c c
back_all before read after c is = record { added = []; all = is; adds = adds_none c }

-- none of it is
pub back_none : (before read : List ℕ) (a b c : Cut) → Adds a b before → Adds b c read → Traced before read [] a c
back_none before read a b c x y = record { added = before ++ read; all = sym (append-nil (before ++ read)); adds = adds_more a b c before read x y }

pub holds_all : (state : LineState) (read : List ℕ) (next : Option LineState) → HoldsBack state read next → holds_any next ≡ true → held_back state ++ read ≡ held_back_at next
holds_all state read None back any = back
holds_all state read (Some (From p k)) back any = back
holds_all state read (Some Separator) back any = absurd cc
holds_all state read (Some (Start p)) back any = absurd cc
holds_all state read (Some (Quote k)) back any = absurd cc
holds_all state read (Some Cr) back any = absurd cc
holds_all state read (Some Inside) back any = absurd cc

pub holds_none : (next : Option LineState) → holds_any next ≡ false → held_back_at next ≡ []
holds_none None any = absurd cc
holds_none (Some (From p k)) any = absurd cc
holds_none (Some Separator) any = refl
holds_none (Some (Start p)) any = refl
holds_none (Some (Quote k)) any = refl
holds_none (Some Cr) any = refl
holds_none (Some Inside) any = refl

pub back_none_at : (state : LineState) (back read : List ℕ) (next : Option LineState) (a b c : Cut) → holds_any next ≡ false → back ≡ held_back state → Adds a b back → Adds b c read
    → Traced (held_back state) read (held_back_at next) a c
back_none_at state back read next a b c any is x y =
    let whole = back_none (held_back state) read a b c (adds_as a b back (held_back state) is x) y in
    subst (λ (l : List ℕ). Traced (held_back state) read l a c) (sym (holds_none next any)) whole

pub traced_as : (before l m : List ℕ) (n : ℕ) (o q : Option LineState) (x y : Cut) → l ≡ m → o ≡ q → Traced before (take n l) (held_back_at o) x y → Traced before (take n m) (held_back_at q) x y
traced_as before l m n o q x y same is t =
    subst (λ (z : List ℕ). Traced before (take n z) (held_back_at q) x y) same (subst (λ (z : Option LineState). Traced before (take n l) (held_back_at z) x y) is t)

pub from_grows : (k b : ℕ) → k < 5 → b ≡ slice_index from_text k → take k from_text ++ (b ∷ []) ≡ take (k + 1) from_text
from_grows zero b lt is = ap (λ z. z ∷ []) is
from_grows (suc zero) b lt is = ap (λ z. 70 ∷ z ∷ []) is
from_grows (suc (suc zero)) b lt is = ap (λ z. 70 ∷ 114 ∷ z ∷ []) is
from_grows (suc (suc (suc zero))) b lt is = ap (λ z. 70 ∷ 114 ∷ 111 ∷ z ∷ []) is
from_grows (suc (suc (suc (suc zero)))) b lt is = ap (λ z. 70 ∷ 114 ∷ 111 ∷ 109 ∷ z ∷ []) is
from_grows (suc (suc (suc (suc (suc k))))) b lt is = absurd (omega arith)

-- ---- up to a separator line, or to the end

pub goes_as : (old : Reading) (new : Reading) (bytes passed : List ℕ) → old.held ++ bytes ≡ passed ++ new.held → Adds old.trace new.trace passed → Goes old bytes new
goes_as old new bytes passed held adds = (passed, held, adds)

-- what was passed and held back is held again
pub back_held : (found : Bool) (h p passed added held : List ℕ) → h ++ p ≡ passed ++ held → passed ≡ added ++ held_back_if found → h ++ p ≡ added ++ with_from found held
back_held true h p passed added held met is = met ∙ ap (λ z. z ++ held) is ∙ append_assoc added from_text held
back_held false h p passed added held met is = met ∙ ap (λ z. z ++ held) (is ∙ append-nil added)

pub goes_more : (a b c : Reading) (p q : List ℕ) → Goes a p b → Goes b q c → Goes a (p ++ q) c
goes_more a b c p q g h = (
  g.0 ++ h.0,
  sym (append_assoc a.held p q) ∙ ap (λ l. l ++ q) g.1 ∙ append_assoc g.0 b.held q ∙ ap (λ l. g.0 ++ l) h.1 ∙ sym (append_assoc g.0 h.0 c.held),
  adds_more a.trace b.trace c.trace g.0 h.0 g.2 h.2,
)

-- ---- the bytes of the file up to the place

abbrev pub StaysTraced : Reading → Reading → Option (List ℕ) → Option (List ℕ) → Type 0
StaysTraced old new l m = IfKnown l m (λ before after. (file : List ℕ) → IsAt file before old → IsTraced file old → IsTraced file new)

pub stays_traced : (l m : Option (List ℕ)) (old new : Reading) (bytes : List ℕ) → length old.held ≤ old.taken → length new.held ≤ new.taken → Takes l m old new bytes
    → Goes old bytes new → new.place ≡ position new → StaysTraced old new l m
stays_traced None m old new bytes a b takes goes place = tt
stays_traced (Some l) None old new bytes a b takes goes place = absurd takes.left
stays_traced (Some l) (Some m) old new bytes a b takes goes place = λ file at traced.
    let before : StandsFor old.trace (take (position old) file) = subst (λ (k : ℕ). StandsFor old.trace (take k file)) traced.place traced.trace in
    let after = stands_on file l m (buffered old) (buffered new) old.trace new.trace bytes goes.0 a b takes goes.1 goes.2 at before in
    record { place = place; trace = subst (λ (k : ℕ). StandsFor new.trace (take k file)) (sym place) after }

pub traced_both : (E : Type 0) (l m : Option (List ℕ)) (old new : Reading) → StaysTraced old new l m
    → IfKnown l m (λ before after. (file : List ℕ) → IsAt file before old → IsTraced file old → StandsFor new.trace (take new.place file) × (E → IsTraced file new))
traced_both E None m old new stays = tt
traced_both E (Some l) None old new stays = absurd stays
traced_both E (Some l) (Some m) old new stays = λ file at traced. ((stays file at traced).trace, λ e. stays file at traced)
