-- The state after a group was appended.
use Rattle.std.proofs.Common.{◌≡◌, ℕ, ◌+◌, List, [], ◌∷◌, ◌++◌, true, is_some, Option, None, Some, Result, Ok, inl, inr, refl, sym, ◌∙◌, ap, subst}
use Rattle.outside.specs.declared.shelf.Place.TheVariants.{T}
use Rattle.outside.specs.Places.{Places, Changes}
use Rattle.outside.specs.Moments.{Reached}
use Rattle.mailbox_model.specs.Lists.{Bytes}
use Rattle.mailbox_model.specs.Mailbox.{Mailbox}
use Rattle.card_record.specs.Reading.{◌>>=◌}
use Rattle.checkpoint.specs.Slots.{chosen_of}
use Rattle.checkpoint.specs.Kept.{number_of}
use Rattle.tail_journal.specs.Groups.{Applied, Reading, reading}
use Rattle.tail_journal.specs.Spelling.{group_head}
use Rattle.tail_journal.specs.Tails.{read_back, with_last, ReadsAll, IsNext, KeepsOrAdds, Adds}
use Rattle.tail_journal.specs.Read.{groups_from, EndsThere}
use Rattle.state_store.specs.States.{State}
use Rattle.state_store.specs.Stands.{after_group, count_in, begins, stands}
use Rattle.state_store.specs.Stored.{IsStored}
use Rattle.state_store.specs.Commits.{Appends, OldOrNew}
use Rattle.state_store.specs.declared.store.Store.{Store}
use Rattle.state_store.proofs.Knowing.{same_chosen, same_kept, some_number}
use Rattle.state_store.proofs.Standing.{all_made, one_group_more, stood, stands_on, kept_number, groups_read, committed_count}

module _ (me : Bytes) (new : State) (group : List ℕ) (x : Places) (a : Appends me new x group) (count : ℕ) (number : number_of (chosen_of x) ≡ Some count) (r : Reading) (all : ReadsAll count x.t r) where
  pub next : IsNext group r a.batch
  next = record { rules = a.leads.rules; text = a.text; base = a.leads.base ∙ committed_count me x a.leads.committed count r a.leads.is number all.is }

  abbrev last : Applied
  last = read_back r.end a.batch

  one_group : after_group a.leads.committed last ≡ Ok new
  one_group = ap (λ (y : Result Mailbox ℕ). y >>= λ m. Ok (record { mailbox = m; position = a.batch.position })) (all_made a.leads.committed.mailbox (r.end + group_head) a.batch.changes a.leads.allowed)
      ∙ (λ i. Ok (record { mailbox = sym a.leads.mailbox i; position = sym a.leads.position i }))

  -- where the new group is read too, the new state stands
  added : (y : Places) → y.a ≡ x.a → y.b ≡ x.b → reading count y.t ≡ Ok (with_last r a.batch) → stands me y ≡ Ok new
  added y same_a same_b read =
      let on = stood me x a.leads.committed a.leads.is in
      let here : count_in on.kept ≡ Some count = sym (kept_number (chosen_of x) on.kept on.kept_is) ∙ number in
      let groups : r.groups ≡ on.groups = groups_read count x.t on.groups r (ap (λ (n : Option ℕ). groups_from n x.t) (sym here) ∙ on.groups_are) all.is in
      stands_on me y new (record {
        kept = on.kept;
        groups = on.groups ++ last ∷ [];
        kept_is = same_kept x y (same_a, same_b) ∙ on.kept_is;
        groups_are = ap (λ (n : Option ℕ). groups_from n y.t) here ∙ ap (λ (q : Result Reading ℕ). q >>= λ s. Ok s.groups) read ∙ ap (λ (l : List Applied). Ok (l ++ last ∷ [])) groups;
        after = one_group_more (begins me on.kept) a.leads.committed on.groups last on.after ∙ ap (λ (q : Result State ℕ). q >>= λ s. Ok s) one_group;
      })

  kept_as_before : (y : Places) → y.a ≡ x.a → y.b ≡ x.b → reading count y.t ≡ Ok r → stands me y ≡ stands me x
  kept_as_before y same_a same_b read =
      let on = stood me x a.leads.committed a.leads.is in
      let here : count_in on.kept ≡ Some count = sym (kept_number (chosen_of x) on.kept on.kept_is) ∙ number in
      let same : groups_from (count_in on.kept) y.t ≡ groups_from (count_in on.kept) x.t = (λ i. groups_from (here i) y.t) ∙ ap (λ (q : Result Reading ℕ). q >>= λ s. Ok s.groups) (read ∙ sym all.is) ∙ (λ i. groups_from (sym here i) x.t) in
      stands_on me y a.leads.committed (record { kept = on.kept; groups = on.groups; kept_is = same_kept x y (same_a, same_b) ∙ on.kept_is; groups_are = same ∙ on.groups_are; after = on.after })
      ∙ sym a.leads.is

  pub old_or_new : (y : Places) → Changes T (KeepsOrAdds group) x y → OldOrNew me new x y
  old_or_new y h = elim (h.2 count r a.batch all next) [
    | inl same ↦ inl (kept_as_before y h.0 h.1 same)
    | inr more ↦ inr (added y h.0 h.1 more)
  ]

  pub new_stands : (y : Places) → Changes T (Adds group) x y → stands me y ≡ Ok new
  new_stands y h = added y h.0 h.1 (h.2 count r a.batch all next).is

  pub ends_again : (y : Places) → Changes T (Adds group) x y → EndsThere (number_of (chosen_of y)) y.t
  ends_again y h = subst (λ (n : Option ℕ). EndsThere n y.t) (sym (ap number_of (same_chosen x y (h.0, h.1)) ∙ number)) (with_last r a.batch, h.2 count r a.batch all next)

-- ---- what a store has read

-- T is read to its end from the number of the chosen slot
pub record IsRead (x : Places) : Type 0 where
  pub count : ℕ
  pub number : number_of (chosen_of x) ≡ Some count
  pub r : Reading
  pub all : ReadsAll count x.t r

from_number : (x : Places) (n : Option ℕ) → number_of (chosen_of x) ≡ n → is_some n ≡ true → EndsThere n x.t → IsRead x
from_number x None e some ends = absurd (cc)
from_number x (Some count) e some ends = record { count = count; number = e; r = ends.0; all = ends.1 }

pub read_from : (store : Store) (outcomes : Places → Type 0) (x : Places) → IsStored store outcomes x → store.chosen ≡ true → IsRead x
read_from store outcomes x stored chosen = from_number x (number_of (chosen_of x)) refl (some_number (chosen_of x) ∙ sym stored.chosen ∙ chosen) stored.ends

-- each crash outcome is what the reads give
pub is_settled : (store : Store) (outcomes : Places → Type 0) (x : Places) → IsStored store outcomes x → (d : Places) → outcomes d → d ≡ x
is_settled store outcomes x stored d left = λ i. record { a = stored.slots.settled.a d left i; b = stored.slots.settled.b d left i; t = stored.tail.settled d left i }

pub append_leaves : (me : Bytes) (new : State) (group : List ℕ) (store : Store) (outcomes : Places → Type 0) (x : Places) → IsStored store outcomes x → store.chosen ≡ true → Appends me new x group
    → (c : Places) → Reached outcomes (Changes T (KeepsOrAdds group)) c → Reached outcomes (OldOrNew me new) c
append_leaves me new group store outcomes x stored chosen a c reached =
    let read = read_from store outcomes x stored chosen in
    let here = old_or_new me new group x a read.count read.number read.r read.all c in
    let same = is_settled store outcomes x stored reached.0 reached.1 in
    let is : OldOrNew me new reached.0 c = subst (λ (d : Places). Changes T (KeepsOrAdds group) d c → OldOrNew me new d c) (sym same) here reached.2 in
    (reached.0, reached.1, is)
