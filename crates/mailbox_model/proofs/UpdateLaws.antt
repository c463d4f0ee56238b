-- The updates of a row: their serials run from 1, and each is one place in one mail.
use Rattle.std.proofs.Common.{◌≡◌, refl, ap, ◌∙◌, ℕ, ◌+◌, ◌<◌, Bool, true, false, ◌&&◌, List, [], ◌∷◌, ◌++◌, length, map, arith}
use Rattle.std.specs.Prelude.{◌==◌, flat_map}
use Rattle.std.specs.List.{AllByRecursion, IsDistinct, enumerate_from, range_with_len}
use Rattle.std.proofs.lemmas.Bool.{ne_eqb}
use Rattle.card_type.specs.declared.card.Card.{Card}
use Rattle.card_type.specs.declared.card.Update.{Update}
use Rattle.card_type.specs.declared.effect.Effect.TheVariants as effects
use Rattle.mailbox_model.specs.Mailbox.{Mailbox, RiseBelow}
use Rattle.mailbox_model.specs.Present.{Placed, Mail, present, present_cards, same_uid}
use Rattle.mailbox_model.specs.Rows.{Brought, acting, acting_by, brought_by, update_row, updates_by, same_part}
use Rattle.mailbox_model.proofs.Elements.{All-append}
use Rattle.mailbox_model.proofs.ActLaws.{IsDistinct-acting}
use Rattle.mailbox_model.proofs.UidLaws.{present_uids}

-- ---- serials

serials_from : (n : ℕ) (bs : List Brought)
    → map (λ r. r.serial) (map (λ b. update_row b.0 b.1) (enumerate_from n bs)) ≡ range_with_len n (length (map (λ b. update_row b.0 b.1) (enumerate_from n bs)))
serials_from n [] = refl
serials_from n (b ∷ bs) = ap (λ ns. n ∷ ns) (serials_from (n + 1) bs)

pub serials : (es : List Placed) → map (λ r. r.serial) (updates_by es) ≡ range_with_len 1 (length (updates_by es))
serials es = serials_from 1 (flat_map brought_by es)

-- ---- places

abbrev same_place : Brought → Brought → Bool
same_place a b = (a.by.uid == b.by.uid) && (a.part == b.part)

abbrev placed_uid : Placed → Placed → Bool
placed_uid a b = a.uid == b.uid

and_no : (a : Bool) → (a && false) ≡ false
and_no true = refl
and_no false = refl

-- of one mail
abbrev bring : Placed → ℕ → List Update → List Brought
bring e n us = map (λ p. record { by = e; part = p.0; update = p.1 }) (enumerate_from n us)

later_parts : (e : Placed) (x : Brought) (n : ℕ) (us : List Update) → x.part < n
    → AllByRecursion (λ b. same_place x b ≡ false) (bring e n us)
later_parts e x n [] h = tt
later_parts e x n (u ∷ us) h =
    (ap (λ c. (x.by.uid == e.uid) && c) (ne_eqb x.part n (λ k. omega (arith, k, h))) ∙ and_no (x.by.uid == e.uid), later_parts e x (n + 1) us (omega (arith, h)))

one_mail : (e : Placed) (n : ℕ) (us : List Update) → IsDistinct same_place (bring e n us)
unfolding IsDistinct
one_mail e n [] = tt
one_mail e n (u ∷ us) =
    (later_parts e (record { by = e; part = n; update = u }) (n + 1) us (omega arith), one_mail e (n + 1) us)

-- of several
IsDistinct-both : {X : Type 0} (same : X → X → Bool) (xs ys : List X) → IsDistinct same xs → IsDistinct same ys
    → AllByRecursion (λ x. AllByRecursion (λ y. same x y ≡ false) ys) xs → IsDistinct same (xs ++ ys)
unfolding IsDistinct
IsDistinct-both same [] ys d e a = e
IsDistinct-both same (x ∷ xs) ys d e a =
    (All-append (λ y. same x y ≡ false) xs ys d.0 a.0, IsDistinct-both same xs ys d.1 e a.1)

other_mail : (x : Brought) (f : Placed) (n : ℕ) (us : List Update) → (x.by.uid == f.uid) ≡ false
    → AllByRecursion (λ b. same_place x b ≡ false) (bring f n us)
other_mail x f n [] h = tt
other_mail x f n (u ∷ us) h = (ap (λ c. c && (x.part == n)) h, other_mail x f (n + 1) us h)

other_mails : (x : Brought) (fs : List Placed) → AllByRecursion (λ f. placed_uid x.by f ≡ false) fs
    → AllByRecursion (λ b. same_place x b ≡ false) (flat_map brought_by fs)
other_mails x [] a = tt
other_mails x (f ∷ fs) a =
    All-append (λ b. same_place x b ≡ false) (brought_by f) (flat_map brought_by fs) (other_mail x f 0 f.card.updates a.0) (other_mails x fs a.1)

each_other : (e : Placed) (n : ℕ) (us : List Update) (fs : List Placed) → AllByRecursion (λ f. placed_uid e f ≡ false) fs
    → AllByRecursion (λ x. AllByRecursion (λ b. same_place x b ≡ false) (flat_map brought_by fs)) (bring e n us)
each_other e n [] fs a = tt
each_other e n (u ∷ us) fs a = (other_mails (record { by = e; part = n; update = u }) fs a, each_other e (n + 1) us fs a)

all_mails : (es : List Placed) → IsDistinct placed_uid es → IsDistinct same_place (flat_map brought_by es)
unfolding IsDistinct
all_mails [] d = tt
all_mails (e ∷ es) d =
    IsDistinct-both same_place (brought_by e) (flat_map brought_by es) (one_mail e 0 e.card.updates) (all_mails es d.1) (each_other e 0 e.card.updates es d.0)

-- of the numbered rows
row_apart : (k : ℕ) (x : Brought) (n : ℕ) (bs : List Brought) → AllByRecursion (λ b. same_place x b ≡ false) bs
    → AllByRecursion (λ r. same_part (update_row k x) r ≡ false) (map (λ b. update_row b.0 b.1) (enumerate_from n bs))
row_apart k x n [] a = tt
row_apart k x n (b ∷ bs) a = (a.0, row_apart k x (n + 1) bs a.1)

rows_apart : (n : ℕ) (bs : List Brought) → IsDistinct same_place bs
    → IsDistinct same_part (map (λ b. update_row b.0 b.1) (enumerate_from n bs))
unfolding IsDistinct
rows_apart n [] d = tt
rows_apart n (b ∷ bs) d = (row_apart n b (n + 1) bs d.0, rows_apart (n + 1) bs d.1)

-- of what acts on a card
placed_apart : (ts : List Mail) → IsDistinct same_uid ts → IsDistinct placed_uid (map (λ t. t.placed) ts)
unfolding IsDistinct
placed_apart [] d = tt
placed_apart (t ∷ ts) d = (apart ts d.0, placed_apart ts d.1)
  where
    apart : (us : List Mail) → AllByRecursion (λ u. same_uid t u ≡ false) us
        → AllByRecursion (λ p. placed_uid t.placed p ≡ false) (map (λ u. u.placed) us)
    apart [] a = tt
    apart (u ∷ us) a = (a.0, apart us a.1)

pub parts_apart : (m : Mailbox) → RiseBelow 1 m.entries m.next_uid → (t : Card)
    → IsDistinct same_part (updates_by (acting_by effects.Update (acting m t)))
parts_apart m u t =
    let es = acting_by effects.Update (acting m t) in
    rows_apart 1 (flat_map brought_by es) (all_mails es (IsDistinct-acting m.me t effects.Update placed_uid (present_cards m) (placed_apart (present m) (present_uids m u))))
