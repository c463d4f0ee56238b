-- Several calls of a shelf, one after the other: what is known of its contents.
use Rattle.std.proofs.Common.{◌≡◌, Option, None, Some, IfSome, refl, subst}
use Rattle.outside.specs.Places.{Places}
use Rattle.outside.specs.Crash.{IfKnown}
use Rattle.outside.specs.Moments.{WhereKnown, IsKnown, KnownThen}

-- from the words of the shelf's clauses, and to them
pub from_some : (o : Option Places) (P : Places → Type 0) → IfSome o P → WhereKnown o P
from_some o P h s is = subst (λ (x : Option Places). IfSome x P) is h

pub to_some : (o : Option Places) (P : Places → Type 0) → WhereKnown o P → IfSome o P
to_some None P h = tt
to_some (Some s) P h = h s refl

after_some : (s : Places) (n : Option Places) (R : Places → Places → Type 0) → IfKnown (Some s) n R → IsKnown n (R s)
after_some s None R h = absurd h
after_some s (Some m) R h = record { places = m; is = refl; holds = h }

before_some : (o : Option Places) (n : Places) (R : Places → Places → Type 0) → IfKnown o (Some n) R → IsKnown o (λ s. R s n)
before_some None n R h = absurd h
before_some (Some s) n R h = record { places = s; is = refl; holds = h }

pub from_known : (o n : Option Places) (R : Places → Places → Type 0) → IfKnown o n R → KnownThen o n R
from_known o n R h =
    record {
      forth = λ s is. after_some s n R (subst (λ (x : Option Places). IfKnown x n R) is h);
      back = λ m is. before_some o m R (subst (λ (x : Option Places). IfKnown o x R) is h);
    }

-- one call after another
pub known_on : (o m n : Option Places) (P Q R : Places → Places → Type 0) → ((x y z : Places) → m ≡ Some y → P x y → Q y z → R x z) → KnownThen o m P → KnownThen m n Q → KnownThen o n R
known_on o m n P Q R f p q =
    record {
      forth = λ s is. let a = p.forth s is in let b = q.forth a.places a.is in record { places = b.places; is = b.is; holds = f s a.places b.places a.is a.holds b.holds };
      back = λ z is. let b = q.back z is in let a = p.back b.places b.is in record { places = a.places; is = a.is; holds = f a.places b.places z b.is a.holds b.holds };
    }

-- what is known then has a weaker relation too
pub known_as : (o n : Option Places) (P R : Places → Places → Type 0) → ((x y : Places) → o ≡ Some x → P x y → R x y) → KnownThen o n P → KnownThen o n R
known_as o n P R f p =
    record {
      forth = λ s is. let a = p.forth s is in record { places = a.places; is = a.is; holds = f s a.places is a.holds };
      back = λ z is. let a = p.back z is in record { places = a.places; is = a.is; holds = f a.places z a.is a.holds };
    }

-- and what is known of the contents after it
pub known_with : (o n : Option Places) (P : Places → Places → Type 0) (Q : Places → Type 0) → KnownThen o n P → WhereKnown n Q → KnownThen o n (λ x y. P x y × Q y)
known_with o n P Q p q =
    record {
      forth = λ s is. let a = p.forth s is in record { places = a.places; is = a.is; holds = (a.holds, q a.places a.is) };
      back = λ z is. let a = p.back z is in record { places = a.places; is = a.is; holds = (a.holds, q z is) };
    }
