-- The size of an image: none is over the bound of a slot.
use Rattle.std.proofs.Common.{◌≡◌, ℕ, suc, ◌+◌, ◌*◌, ◌≤◌, List, [], ◌∷◌, ◌++◌, length, Bool, true, false, ◌&&◌, nat_le, nat_lt, Option, None, Some, Result, Ok, Err, cond, eqb, flat_map, refl, sym, subst, ◌∙◌, ap, arith, length-append}
use Rattle.std.specs.Prelude.{IsTrue}
use Rattle.std.specs.List.{list_all}
use Rattle.std.proofs.lemmas.Bool.Decides.{nat_tests}
use Rattle.std.proofs.lemmas.List.Sums.{sum_by-cons}
use Rattle.kit.specs.Addresses.{is_addr, is_addr_byte, has_inner_at, has_inner_colons}
use Rattle.card_type.specs.Records as records
use Rattle.card_type.specs.declared.card.Card.{Card}
use Rattle.mailbox_model.specs.declared.change.Fault.{Fault}
use Rattle.mailbox_model.specs.Mailbox.{Mailbox, Entry, weight_read, weights}
use Rattle.state_image.specs.declared.fault.ImageFault.{ImageFault}
use Rattle.state_image.specs.declared.position.Position.{Position}
use Rattle.state_image.specs.Images.{counts_of, counts_written, name_of, image, image_of, IsPosition, position_spelled, mail_spelled, entry_spelled, HasImage}
use Rattle.checkpoint.specs.Kept.{max_image, numbered, slot_kept}

mail_size : (read : Result Card Fault) → length (mail_spelled read) ≤ 1 + weight_read read
mail_size (Ok card) = omega arith
mail_size (Err fault) = omega arith

seen_size : (seen : Option ℕ) (rest : List ℕ) → length (records.opt records.b64 seen ++ rest) ≤ 9 + length rest
seen_size None rest = omega arith
seen_size (Some moment) rest = omega arith

entry_size : (entry : Entry) → length (entry_spelled entry) ≤ 22 + weight_read entry.read
entry_size entry = omega (arith, mail_size entry.read, seen_size entry.seen (mail_spelled entry.read))

step : (xs ys : List ℕ) (n x y : ℕ) → length xs ≤ 22 + x → length ys ≤ 22 * n + y → length (xs ++ ys) ≤ 22 * suc n + (x + y)
step xs ys n x y p q = omega (arith, length-append xs ys, p, q)

entries_size : (entries : List Entry) → length (flat_map entry_spelled entries) ≤ 22 * length entries + weights entries
entries_size [] = omega arith
entries_size (entry ∷ entries) =
    subst (λ (w : ℕ). length (flat_map entry_spelled (entry ∷ entries)) ≤ 22 * suc (length entries) + w) (sym (sum_by-cons (λ (e : Entry). weight_read e.read) entry entries))
    (step (entry_spelled entry) (flat_map entry_spelled entries) (length entries) (weight_read entry.read) (weights entries) (entry_size entry) (entries_size entries))

second : (a b c d e : Bool) → IsTrue (a && b && c && d && e) → b ≡ true
second true true c d e h = refl
second true false c d e h = absurd (let no_ : false ≡ true = h in cc)
second false b c d e h = absurd (let no_ : false ≡ true = h in cc)

addr_size : (me : List ℕ) → IsTrue (is_addr me) → length me ≤ 254
addr_size me is =
    let few = second (nat_le 3 (length me)) (nat_le (length me) 254) (list_all is_addr_byte me) (has_inner_at me) (has_inner_colons false me) is in
    grind (arith, nat_tests)

parts_size : (a b c d e f : List ℕ) → length (a ++ b ++ c ++ d ++ e ++ f) ≡ length a + length b + length c + length d + length e + length f
parts_size a b c d e f = omega (arith, length-append (a ++ b ++ c ++ d ++ e) f, length-append (a ++ b ++ c ++ d) e, length-append (a ++ b ++ c) d, length-append (a ++ b) c, length-append a b)

block_size : (me : List ℕ) → length (records.block me) ≡ 4 + length me
block_size me = omega arith

position_size : (p : Position) → IsPosition p → length (position_spelled true p) ≡ 96
position_size p is =
    omega (arith, is.mbox_trace, is.steps_trace, length-append (counts_written (counts_of p)) (p.mbox_trace ++ p.steps_trace), length-append p.mbox_trace p.steps_trace)

list_size : (entries : List Entry) → length (records.list entry_spelled entries) ≡ 4 + length (flat_map entry_spelled entries)
list_size entries = omega arith

bound : (size a b c d e f me items n w : ℕ) → size ≡ a + b + c + d + e + f → a ≡ 8 → b ≡ 4 + me → c ≡ 96 → d ≡ 8 → e ≡ 4 → f ≡ 4 + items → me ≤ 254 → items ≤ 22 * n + w → n ≤ 65536 → w ≤ 268435456 → size ≤ 1073741824
bound size a b c d e f me items n w is a8 b4 c96 d8 e4 f4 few long many heavy = omega (arith, is, a8, b4, c96, d8, e4, f4, few, long, many, heavy)

image_size : (m : Mailbox) (p : Position) → HasImage m p → length (image m p) ≤ max_image
image_size m p has =
    bound (length (image m p)) (length (name_of true)) (length (records.block m.me)) (length (position_spelled true p)) (length (records.b64 m.now)) (length (records.b32 m.next_uid)) (length (records.list entry_spelled m.entries)) (length m.me) (length (flat_map entry_spelled m.entries)) (length m.entries) (weights m.entries)
    (parts_size (name_of true) (records.block m.me) (position_spelled true p) (records.b64 m.now) (records.b32 m.next_uid) (records.list entry_spelled m.entries))
    refl (block_size m.me) (position_size p has.position) refl refl (list_size m.entries) (addr_size m.me has.me) (entries_size m.entries) has.rules.count_fits has.rules.weight_fits

within_bound : (b : Bool) (x : Result (Mailbox × Position) ℕ) → b ≡ false → cond b (Err 9) x ≡ x
within_bound b x is = ap (λ (c : Bool). cond c (Err 9) x) is

same_count : (n : ℕ) → eqb n n ≡ true
same_count n = grind (arith, nat_tests)

its_number : (n : ℕ) (k : Mailbox × Position) → k.1.count ≡ n → numbered n (Ok k) ≡ Ok k
its_number n k is = ap (λ (b : Bool). cond {A = Result (Mailbox × Position) ℕ} b (Ok k) (Err 1)) (ap (λ (x : ℕ). eqb x n) is ∙ same_count n)

pub saved_kept : (m : Mailbox) (p : Position) → HasImage m p → image_of (image m p) ≡ Ok (m, p) → slot_kept (record { number = p.count; image = image m p }) ≡ Ok (m, p)
saved_kept m p has read =
    let small = image_size m p has in
    let fits : nat_lt max_image (length (image m p)) ≡ false = grind (arith, nat_tests) in
    within_bound (nat_lt max_image (length (image m p))) (numbered p.count (image_of (image m p))) fits ∙ ap (λ (r : Result (Mailbox × Position) ImageFault). numbered p.count r) read ∙ its_number p.count (m, p) refl
