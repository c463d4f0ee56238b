-- One change more that is pending.
use Rattle.std.proofs.Common.{◌≡◌, ℕ, ◌+◌, ◌<◌, List, [], ◌∷◌, ◌++◌, length, drop, flat_map, ◌≤◌, ◌==◌, false, ◌⊎◌, inl, inr, refl, sym, ◌∙◌, ap, subst, arith, length-append}
use Rattle.std.proofs.lemmas.Bool.{true≢false}
use Rattle.std.proofs.lemmas.List.{drop-append-le}
use Rattle.std.specs.List.{AllByRecursion}
use Rattle.std.proofs.lemmas.Grind.{common_steps}
use Rattle.mailbox_model.specs.declared.change.Change.{Change}
use Rattle.state_image.specs.Changes.{change_spelled, FitsChange}
use Rattle.tail_journal.specs.Spelling.{group_head}
use Rattle.tail_journal.specs.Pending.{PendingChanges, ArePending, AreWritten, HoldsPending, with_change}

all_more : {X : Type 0} (P : X → Type 0) (xs : List X) (x : X) → AllByRecursion P xs → P x → AllByRecursion P (xs ++ x ∷ [])
all_more P [] x all one = (one, tt)
all_more P (y ∷ ys) x all one = (all.0, all_more P ys x all.1 one)

pub pending_more : (p : PendingChanges) (held : List Change) (change : Change) → ArePending p held → FitsChange change → ArePending (with_change p change) (held ++ change ∷ [])
pending_more p held change are fits = record {
  spelled = record {
    length_is = length-append held (change ∷ []) ∙ ap (λ (n : ℕ). n + 1) are.spelled.length_is;
    text = ap (λ (bytes : List ℕ). bytes ++ change_spelled change) are.spelled.text ∙ sym (spelled_more held);
  };
  fits = all_more FitsChange held change are.fits fits;
}
  where
    spelled_more : (xs : List Change) → flat_map change_spelled (xs ++ change ∷ []) ≡ flat_map change_spelled xs ++ change_spelled change
    spelled_more xs = grind (arith, common_steps)

pub written_more : (p : PendingChanges) (change : Change) → AreWritten p → FitsChange change → p.count < 256 → AreWritten (with_change p change)
written_more p change written fits few = record {
  held = written.held ++ change ∷ [];
  are = pending_more p written.held change written.are fits;
  few = omega (arith, few);
}

-- ---- the bytes that hold them

pub none_held : (group : List ℕ) → group ≡ [] → HoldsPending 0 group
none_held group is = subst (HoldsPending 0) (sym is) (record {
  written = record { held = []; are = record { spelled = record { length_is = refl; text = refl }; fits = tt }; few = omega arith };
  head = inl refl;
  some = λ more. absurd (omega (arith, more));
})

pub one_held : (count : ℕ) (old new : List ℕ) (change : Change) → HoldsPending count old → FitsChange change → count < 256
    → drop group_head new ≡ drop group_head old ++ change_spelled change → group_head ≤ length new → HoldsPending (count + 1) new
one_held count old new change holds fits few is room = record {
  written = subst (λ (bytes : List ℕ). AreWritten (record { count = count + 1; bytes = bytes })) (sym is) (written_more (record { count = count; bytes = drop group_head old }) change holds.written fits few);
  head = inr room;
  some = λ _. room;
}

-- a change after the room for a head and the changes that are there
pub after_head : (old new spelled : List ℕ) → group_head ≤ length old → new ≡ old ++ spelled → drop group_head new ≡ drop group_head old ++ spelled
after_head old new spelled room is = ap (drop group_head) is ∙ drop-append-le group_head old spelled room

-- bytes that are not empty have the room
pub has_room : (group : List ℕ) (len : ℕ) → len ≡ length group → (group ≡ []) ⊎ (group_head ≤ length group) → (len == 0) ≡ false → group_head ≤ length group
has_room group len is (inl none) some = absurd (true≢false (sym (ap (λ (n : ℕ). n == 0) (is ∙ ap length none)) ∙ some))
has_room group len is (inr room) some = room
