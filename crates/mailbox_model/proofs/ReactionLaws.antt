-- The reactions to a card: of each sender the last one counts, and says something.
use Rattle.std.proofs.Common.{◌≡◌, refl, Bool, true, false, cond, List, [], ◌∷◌, ◌++◌, map, not}
use Rattle.std.specs.Prelude.{if◌then◌else◌, filter, reverse}
use Rattle.std.specs.List.{AllByRecursion, IsDistinct, list_all}
use Rattle.std.specs.Str.{bytes_eq}
use Rattle.std.proofs.lemmas.Cmp.{nat_list_eq_equiv}
use Rattle.std.proofs.lemmas.List.Sorted.{IsPermutation-reverse}
use Rattle.std.proofs.lemmas.Map.Keys.{IsDistinct-IsPermutation}
use Rattle.lists.specs.Distinct.{firsts, lasts}
use Rattle.lists.proofs.DistinctLaws.{IsDistinct-filter, IsDistinct-firsts}
use Rattle.lists.proofs.Lasts.{lasts_said-push}
use Rattle.card_type.specs.Kinds.{has_some}
use Rattle.mailbox_model.specs.Lists.{Bytes}
use Rattle.mailbox_model.specs.Present.{Placed}
use Rattle.mailbox_model.specs.Rows.{reaction_of, reactions_by, same_reactor, same_sender}

abbrev says : Placed → Bool
says e = has_some (reaction_of e.card)

abbrev said : Placed → Bytes × Bytes
said e = (e.card.from, reaction_of e.card)

-- one that comes after the others takes the place of that of its sender
pub reactions_more : (es : List Placed) (e : Placed)
    → reactions_by (es ++ e ∷ []) ≡ filter (λ r. not (bytes_eq e.card.from r.0)) (reactions_by es) ++ (if says e then said e ∷ [] else [])
reactions_more es e = lasts_said-push said same_sender says (λ r. bytes_eq e.card.from r.0) es e (λ z. refl)

-- ---- of each sender one

said_apart : (es : List Placed) → IsDistinct same_sender es → IsDistinct same_reactor (map said es)
unfolding IsDistinct
said_apart [] d = tt
said_apart (e ∷ es) d = (others es d.0, said_apart es d.1)
  where
    others : (fs : List Placed) → AllByRecursion (λ f. same_sender e f ≡ false) fs → AllByRecursion (λ r. same_reactor (said e) r ≡ false) (map said fs)
    others [] a = tt
    others (f ∷ fs) a = (a.0, others fs a.1)

lasts_apart : (es : List Placed) → IsDistinct same_sender (lasts same_sender es)
lasts_apart es =
    let once = firsts same_sender (reverse es) in
    IsDistinct-IsPermutation same_sender (λ x y. nat_list_eq_equiv.symm x.card.from y.card.from) once (reverse once) (IsPermutation-reverse once) (IsDistinct-firsts same_sender (reverse es))

pub reactors_apart : (es : List Placed) → IsDistinct same_reactor (reactions_by es)
reactors_apart es =
    said_apart (filter says (lasts same_sender es)) (IsDistinct-filter same_sender says (lasts same_sender es) (lasts_apart es))

-- ---- which says something

all_say : (es : List Placed) → list_all (λ r. has_some r.1) (map said (filter says es)) ≡ true
all_say [] = refl
all_say (e ∷ es) = by (says e) refl (all_say es)
  where
    by : (b : Bool) → says e ≡ b → list_all (λ r. has_some r.1) (map said (filter says es)) ≡ true
        → list_all (λ r. has_some r.1) (map said (cond b (e ∷ filter says es) (filter says es))) ≡ true
    by true h rest = rw (h, rest) refl
    by false h rest = rest

pub reactions_say : (es : List Placed) → list_all (λ r. has_some r.1) (reactions_by es) ≡ true
reactions_say es = all_say (lasts same_sender es)
