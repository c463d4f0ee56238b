-- From changes in their written form to the state after them.
use Rattle.std.proofs.Common.{◌≡◌, ℕ, ◌-◌, ◌<◌, ◌≤◌, List, length, Option, None, Some, refl, sym, ◌∙◌, ap, subst, arith}
use Rattle.outside.specs.declared.shelf.Place.{Place}
use Rattle.outside.specs.Places.{Places}
use Rattle.mailbox_model.specs.declared.change.Change.{Change}
use Rattle.mailbox_model.specs.Lists.{Bytes}
use Rattle.state_image.specs.declared.position.Position.{Position}
use Rattle.checkpoint.specs.Slots.{Slot, chosen_of}
use Rattle.checkpoint.specs.Kept.{number_of}
use Rattle.checkpoint.specs.Saves.{IsAbove}
use Rattle.tail_journal.specs.Frames.{frames}
use Rattle.tail_journal.specs.Groups.{Reading}
use Rattle.tail_journal.specs.Spelling.{AreSpelled, group_spelled}
use Rattle.tail_journal.specs.Tails.{ReadsAll}
use Rattle.tail_journal.specs.Read.{EndsThere}
use Rattle.tail_journal.proofs.FrameLaws.{total_fits}
use Rattle.tail_journal.proofs.ReadingLaws.{ends_within}
use Rattle.tail_journal.proofs.JointLaw.{all_below}
use Rattle.state_store.specs.States.{State}
use Rattle.state_store.specs.Commits.{Appends, Commits, IsLater, batch_to}
use Rattle.state_store.proofs.Standing.{committed_count}

-- the group that is written is that of the changes
pub appends_them : (me : Bytes) (new : State) (position : Position) (base n : ℕ) (changes group : List ℕ) (places : Places) → base ≡ position.count - n
    → ((held : List Change) → AreSpelled n changes held → group ≡ group_spelled (record { base = base; position = position; changes = held })) → new.position ≡ position → Commits me new n changes places → Appends me new places group
appends_them me new position base n changes group places start spelled same commits =
    let from : base ≡ new.position.count - length commits.held = start ∙ (λ i. (sym same i).count - sym commits.spelled.length_is i) in
    record {
      batch = batch_to new.position commits.held;
      text = spelled commits.held commits.spelled ∙ (λ i. group_spelled (record { base = from i; position = sym same i; changes = commits.held }));
      leads = commits.leads;
    }

-- a count that is read to its end does not fall
reads_up : (count : ℕ) (bytes : List ℕ) (r : Reading) → ReadsAll count bytes r → count ≤ r.count
reads_up count bytes r all =
    let within = ends_within (frames bytes) 0 count r all.is in
    let fits = total_fits 0 bytes (omega arith) in
    (all_below (frames bytes) 0 count r all.is (omega (arith, within.1, fits, all.end))).0

module _ (me : Bytes) (new : State) (n : ℕ) (changes : List ℕ) (places : Places) (commits : Commits me new n changes places) (ends : EndsThere (number_of (chosen_of places)) places.t) where
  -- the state that stands has a smaller count
  grows : commits.leads.committed.position.count < new.position.count
  grows = omega (arith, commits.leads.base, commits.leads.rules.count, commits.leads.rules.some)

  read_up : (count : ℕ) (r : Reading) → number_of (chosen_of places) ≡ Some count → ReadsAll count places.t r → r.count < new.position.count
  read_up count r number all = omega (arith, grows, committed_count me places commits.leads.committed count r commits.leads.is number all.is)

  above_number : (count : ℕ) → number_of (chosen_of places) ≡ Some count → EndsThere (Some count) places.t → count < new.position.count
  above_number count number read = omega (arith, reads_up count places.t read.0 read.1, read_up count read.0 number read.1)

  above : (chosen : Option (Place × Slot)) → chosen_of places ≡ chosen → IsAbove new.position.count chosen
  above None e = tt
  above (Some p) e = above_number p.1.number (ap number_of e) (subst (λ (q : Option (Place × Slot)). EndsThere (number_of q) places.t) e ends)

  pub later : IsLater new.position.count places
  later = record {
    above = above (chosen_of places) refl;
    read = λ count r number all. omega (arith, read_up count r number all);
  }
