-- The state that stands, and the count of its position.
use Rattle.std.proofs.Common.{◌≡◌, ℕ, ◌+◌, List, [], ◌∷◌, ◌++◌, length, Bool, Option, None, Some, Result, Ok, Err, cond, eqb, nat_lt, inl, inr, refl, sym, ◌∙◌, ap}
use Rattle.std.proofs.lemmas.Bool.{cases_Bool}
use Rattle.outside.specs.declared.shelf.Place.{Place}
use Rattle.outside.specs.Places.{Places}
use Rattle.mailbox_model.specs.declared.change.Change.{Change}
use Rattle.mailbox_model.specs.Lists.{Bytes}
use Rattle.mailbox_model.specs.Mailbox.{Mailbox, after, after_all, AreAllowed}
use Rattle.box_state.specs.declared.ready.Ready.TheVariants.{Unready}
use Rattle.card_record.specs.Reading.{◌>>=◌}
use Rattle.card_record.proofs.FieldLaws.{bind_ok, ok_is}
use Rattle.state_image.specs.Changes.{change_spelled}
use Rattle.state_image.specs.declared.position.Position.{Position}
use Rattle.checkpoint.specs.Slots.{Slot, chosen_of}
use Rattle.checkpoint.specs.Kept.{chosen_kept, kept_of, number_of}
use Rattle.checkpoint.proofs.Found.{number_is}
use Rattle.tail_journal.specs.Frames.{Frame, frame_size, frames}
use Rattle.tail_journal.specs.Groups.{Applied, Reading, nothing_more, with_first, applied, reading_on, reading}
use Rattle.tail_journal.specs.Tails.{placed_changes}
use Rattle.tail_journal.specs.Read.{in_tail, groups_from}
use Rattle.tail_journal.proofs.ReadingLaws.{skipped, applies, stops}
use Rattle.state_store.specs.States.{State}
use Rattle.state_store.specs.Stands.{made, after_group, after_groups, count_in, with_groups, with_tail, begins, stand_of, stands}

-- ---- changes and groups

-- where each is allowed, all are made
pub all_made : (m : Mailbox) (at : ℕ) (changes : List Change) → AreAllowed m changes → made m (placed_changes at changes) ≡ Ok (after_all m changes)
all_made m at [] allowed = refl
all_made m at (change ∷ more) allowed =
    let next = at + length (change_spelled change) in
    ap (λ (b : Bool). cond b (Err at) (made (after m change) (placed_changes next more))) allowed.1 ∙ all_made (after m change) next more allowed.2

pub one_group_more : (s t : State) (groups : List Applied) (last : Applied) → after_groups s groups ≡ Ok t → after_groups s (groups ++ last ∷ []) ≡ (after_group t last >>= λ next. Ok next)
one_group_more s t [] last e = ap (λ (x : State). after_group x last >>= λ next. Ok next) (ok_is s t e)
one_group_more s t (group ∷ more) last e =
    let b = bind_ok (after_group s group) (λ next. after_groups next more) t e in
    ap (λ (x : Result State ℕ). x >>= λ next. after_groups next (more ++ last ∷ [])) b.1 ∙ one_group_more b.0 t more last b.2

position_of : (s next : State) (group : Applied) → after_group s group ≡ Ok next → next.position ≡ group.position
position_of s next group e =
    let b = bind_ok (made s.mailbox group.changes) (λ m. Ok (record { mailbox = m; position = group.position })) next e in
    let is : record { mailbox = b.0; position = group.position } ≡ next = ok_is (record { mailbox = b.0; position = group.position }) next b.2 in
    sym (ap (λ (x : State). x.position) is)

ends_with : (at count : ℕ) (r : Reading) (s t : State) → nothing_more at count ≡ r → s.position.count ≡ count → after_groups s r.groups ≡ Ok t → t.position.count ≡ r.count
ends_with at count r s t is counted e =
    let same : s ≡ t = ok_is s t (ap (λ (q : Reading). after_groups s q.groups) is ∙ e) in
    sym (ap (λ (x : State). x.position.count) same) ∙ counted ∙ ap (λ (q : Reading). q.count) is

-- the count of the position is that to which the frames are read
count_after : (fs : List Frame) (at count : ℕ) (r : Reading) (s t : State) → reading_on at count fs ≡ Ok r → s.position.count ≡ count → after_groups s r.groups ≡ Ok t → t.position.count ≡ r.count
count_after [] at count r s t e counted after = ends_with at count r s t (ok_is (nothing_more at count) r e) counted after
count_after (f ∷ fs) at count r s t e counted after = elim (cases_Bool (nat_lt f.base count)) [
  | inl less ↦ count_after fs (at + frame_size f) count r s t (sym (skipped f fs at count less) ∙ e) counted after
  | inr not_less ↦ elim (cases_Bool (eqb f.base count)) [
    | inl same ↦
        let b = bind_ok (applied at f) _ r (sym (applies f fs at count not_less same) ∙ e) in
        let d = bind_ok (reading_on (at + frame_size f) b.0.position.count fs) (λ rest. Ok (with_first b.0 rest)) r b.2 in
        let is : with_first b.0 d.0 ≡ r = ok_is (with_first b.0 d.0) r d.2 in
        let first = bind_ok (after_group s b.0) (λ next. after_groups next d.0.groups) t (ap (λ (q : Reading). after_groups s q.groups) {x = with_first b.0 d.0} is ∙ after) in
        count_after fs (at + frame_size f) b.0.position.count d.0 first.0 t d.1 (ap (λ (p : Position). p.count) (position_of s first.0 b.0 first.1)) first.2 ∙ ap (λ (q : Reading). q.count) is
    | inr other ↦ ends_with at count r s t (ok_is (nothing_more at count) r (sym (stops f fs at count not_less other) ∙ e)) counted after
  ]
]

-- ---- a state that stands

-- what a state stands on
pub record Stood (me : Bytes) (places : Places) (s : State) : Type 0 where
  pub kept : Option (Mailbox × Position)
  pub groups : List Applied
  pub kept_is : kept_of places ≡ Ok kept
  pub groups_are : groups_from (count_in kept) places.t ≡ Ok groups
  pub after : after_groups (begins me kept) groups ≡ Ok s

in_tail_ok : (x : Result State ℕ) (s : State) → in_tail x ≡ Ok s → x ≡ Ok s
in_tail_ok (Ok t) s e = let same : t ≡ s = cc in ap (λ (y : State). Ok y) same
in_tail_ok (Err at) s e = absurd (cc)

stood_on : (me : Bytes) (places : Places) (s : State) (kept : Option (Mailbox × Position)) (x : Result (List Applied) ℕ) → kept_of places ≡ Ok kept → groups_from (count_in kept) places.t ≡ x → stand_of me (with_groups kept x) ≡ Ok s → Stood me places s
stood_on me places s kept (Ok groups) kept_is groups_are e = record { kept = kept; groups = groups; kept_is = kept_is; groups_are = groups_are; after = in_tail_ok (after_groups (begins me kept) groups) s e }
stood_on me places s kept (Err at) kept_is groups_are e = absurd (cc)

stood_at : (me : Bytes) (places : Places) (s : State) (x : Result (Option (Mailbox × Position)) (Place × ℕ)) → kept_of places ≡ x → stand_of me (with_tail places.t x) ≡ Ok s → Stood me places s
stood_at me places s (Ok kept) is e = stood_on me places s kept (groups_from (count_in kept) places.t) is refl e
stood_at me places s (Err bad) is e = absurd (cc)

pub stood : (me : Bytes) (places : Places) (s : State) → stands me places ≡ Ok s → Stood me places s
stood me places s e = stood_at me places s (kept_of places) refl e

pub stands_on : (me : Bytes) (places : Places) (s : State) → Stood me places s → stands me places ≡ Ok s
stands_on me places s on =
    ap (λ (x : Result (Option (Mailbox × Position)) (Place × ℕ)). stand_of me (with_tail places.t x)) on.kept_is
    ∙ ap (λ (x : Result (List Applied) ℕ). stand_of me (with_groups on.kept x)) on.groups_are ∙ ap (λ (x : Result State ℕ). in_tail x) on.after

-- the number of the chosen slot is the count of what it keeps
pub kept_number : (x : Option (Place × Slot)) (kept : Option (Mailbox × Position)) → chosen_kept x ≡ Ok kept → number_of x ≡ count_in kept
kept_number x None e = number_is x None e
kept_number x (Some k) e = number_is x (Some (record { mailbox = k.0; ready = Unready }, k.1)) e

pub groups_read : (count : ℕ) (bytes : List ℕ) (groups : List Applied) (r : Reading) → groups_from (Some count) bytes ≡ Ok groups → reading count bytes ≡ Ok r → r.groups ≡ groups
groups_read count bytes groups r e is = ok_is r.groups groups (sym (ap (λ (x : Result Reading ℕ). x >>= λ q. Ok q.groups) is) ∙ e)

counted : (me : Bytes) (kept : Option (Mailbox × Position)) (count : ℕ) → count_in kept ≡ Some count → (begins me kept).position.count ≡ count
counted me None count e = absurd (cc)
counted me (Some k) count e = let same : k.1.count ≡ count = cc in same

-- the state that stands has the count to which T is read
pub committed_count : (me : Bytes) (places : Places) (s : State) (count : ℕ) (r : Reading) → stands me places ≡ Ok s → number_of (chosen_of places) ≡ Some count → reading count places.t ≡ Ok r → s.position.count ≡ r.count
committed_count me places s count r e number is =
    let on = stood me places s e in
    let here : count_in on.kept ≡ Some count = sym (kept_number (chosen_of places) on.kept on.kept_is) ∙ number in
    let groups : r.groups ≡ on.groups = groups_read count places.t on.groups r (ap (λ (n : Option ℕ). groups_from n places.t) (sym here) ∙ on.groups_are) is in
    count_after (frames places.t) 0 count r (begins me on.kept) s is (counted me on.kept count here) (ap (after_groups (begins me on.kept)) groups ∙ on.after)
