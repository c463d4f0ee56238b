-- The present cards: in mail order, each id once, and the ids of all cards.
use Rattle.std.proofs.Common.{◌≡◌, ap, subst, true, false, List, [], ◌∷◌, ◌++◌}
use Rattle.std.specs.Prelude.{if◌then◌else◌, fold, filter_map}
use Rattle.std.specs.List.{find, IsDistinct}
use Rattle.std.specs.List.Sorted.{IsStrictlySortedBy, IsPermutation}
use Rattle.std.specs.Str.{bytes_eq}
use Rattle.std.specs.declared.cmp.Ordering.{Ordering}
use Rattle.std.specs.Ordering.{is_lt}
use Rattle.std.specs.Cmp.Lexicographic.{bytes_decides}
use Rattle.std.proofs.lemmas.List.{append-nil}
use Rattle.std.proofs.lemmas.List.Sorted.{IsPermutation-refl, IsPermutation-cons, IsPermutation-trans, IsPermutation-middle, IsPermutation-sym, IsPermutation-append_right}
use Rattle.lists.specs.Sorted.{insert_by, sorted_by}
use Rattle.mailbox_model.specs.Lists.{Bytes}
use Rattle.mailbox_model.specs.Mailbox.{Mailbox, RiseBelow}
use Rattle.mailbox_model.specs.Present.{mail_of, mail_cmp, mails, has_id, same_id, present}
use Rattle.lists.proofs.DistinctLaws.{IsDistinct-firsts}
use Rattle.lists.proofs.Rising.{Rising-firsts, sorted_from}
use Rattle.lists.proofs.Inserts.{find-firsts}
use Rattle.mailbox_model.proofs.MailLaws.{order, line_of}

-- ---- a sorted list has the same elements

module _ {X : Type 0} (cmp : X → X → Ordering) where
  pub permuted-insert_by : (x : X) (ys : List X) → IsPermutation (x ∷ ys) (insert_by cmp x ys)
  permuted-insert_by x [] = IsPermutation-refl (x ∷ [])
  permuted-insert_by x (y ∷ ys) =
      elim (is_lt (cmp x y)) as (λ b. IsPermutation (x ∷ y ∷ ys) (if b then x ∷ y ∷ ys else y ∷ insert_by cmp x ys)) [
        | true ↦ IsPermutation-refl (x ∷ y ∷ ys)
        | false ↦ IsPermutation-trans (x ∷ y ∷ ys) (y ∷ x ∷ ys) (y ∷ insert_by cmp x ys) (IsPermutation-middle (x ∷ []) y ys) (IsPermutation-cons y (x ∷ ys) (insert_by cmp x ys) (permuted-insert_by x ys))
      ]

  permuted_from : (zs xs : List X) → IsPermutation (xs ++ zs) (fold (λ sorted x. insert_by cmp x sorted) zs xs)
  permuted_from zs [] = IsPermutation-refl zs
  permuted_from zs (x ∷ xs) =
      IsPermutation-trans (x ∷ (xs ++ zs)) (xs ++ insert_by cmp x zs) (fold (λ sorted x. insert_by cmp x sorted) (insert_by cmp x zs) xs)
      (IsPermutation-trans (x ∷ (xs ++ zs)) (xs ++ x ∷ zs) (xs ++ insert_by cmp x zs) (IsPermutation-sym (xs ++ x ∷ zs) (x ∷ (xs ++ zs)) (IsPermutation-middle xs x zs)) (IsPermutation-append_right xs (x ∷ zs) (insert_by cmp x zs) (permuted-insert_by x zs)))
      (permuted_from (insert_by cmp x zs) xs)

  pub permuted : (xs : List X) → IsPermutation xs (sorted_by cmp xs)
  permuted xs = subst (λ ys. IsPermutation ys (sorted_by cmp xs)) (append-nil xs) (permuted_from [] xs)

-- ---- mail order

pub present_sorted : (m : Mailbox) → RiseBelow 1 m.entries m.next_uid → IsStrictlySortedBy mail_cmp (present m)
present_sorted m u = sorted_from mail_cmp order (present m) (Rising-firsts same_id mail_cmp (mails m) (line_of m u).rising)

pub mails_sorted : (m : Mailbox) → RiseBelow 1 m.entries m.next_uid → IsStrictlySortedBy mail_cmp (mails m)
mails_sorted m u = sorted_from mail_cmp order (mails m) (line_of m u).rising

pub mails_all : (m : Mailbox) → IsPermutation (filter_map mail_of m.entries) (mails m)
mails_all m = permuted mail_cmp (filter_map mail_of m.entries)

pub present_once : (m : Mailbox) → IsDistinct same_id (present m)
present_once m = IsDistinct-firsts same_id (mails m)

pub present_first : (m : Mailbox) (id : Bytes) → find (has_id id) (present m) ≡ find (has_id id) (mails m)
present_first m id =
    find-firsts same_id (has_id id) (λ x y e. ap (bytes_eq id) ((bytes_decides x.placed.card.id y.placed.card.id).0 e)) (mails m)
