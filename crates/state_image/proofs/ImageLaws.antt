-- An image is read as it is spelled.
use Rattle.std.proofs.Common.{◌≡◌, ◌⊎◌, ℕ, suc, ◌+◌, ◌*◌, ◌^◌, ◌<◌, ◌≤◌, Bool, true, false, cond, eqb, List, [], ◌∷◌, ◌++◌, length, drop, Option, Some, None, Result, Ok, Err, refl, sym, ap, subst, ◌∙◌, append_assoc, arith, inl, inr}
use Rattle.std.specs.Prelude.{⊤, ◌&&◌, nat_le, nat_lt, nat_eq, option_map, IfSome, IfOk, flat_map}
use Rattle.std.specs.Int.{w32, w64, to_be_bytes}
use Rattle.std.specs.List.{starts_with, list_all, AllByRecursion}
use Rattle.std.proofs.lemmas.Bool.{and_parts, and_from, eqb-true}
use Rattle.std.proofs.lemmas.Bool.Decides.{nat_tests, Decides-eqb}
use Rattle.std.proofs.lemmas.Slice.Eq.{starts_is}
use Rattle.std.proofs.lemmas.List.{append-nil, length-append}
use Rattle.std.proofs.lemmas.List.Concat.{flat_map-cons}
use Rattle.std.proofs.lemmas.List.Sums.{fold-append, sum_by-append, sum_by-cons}
use Rattle.kit.specs.Addresses.{is_addr, is_addr_byte, has_inner_at, has_inner_colons}
use Rattle.kit.specs.Moments.{last_moment}
use Rattle.card_type.specs.Records as records
use Rattle.card_type.specs.Rules.{is_valid}
use Rattle.card_type.specs.declared.card.Card.{Card}
use Rattle.mailbox_model.specs.declared.change.Fault.{Fault}
use Rattle.mailbox_model.specs.declared.change.Fault.TheVariants.{NoFields, NoFrom, CardTooLong, TooLong}
use Rattle.mailbox_model.specs.Mailbox.{Mailbox, Entry, max_entries, max_total_weight, end_of_uids, weight_read, weights, RiseBelow, IsEntry, IsMailbox}
use Rattle.card_record.specs.Reading.{◌>>=◌, Read, number_at, opt_of, run_at, times_of}
use Rattle.card_record.specs.Cards.{record_at}
use Rattle.card_record.specs.Spelling.{IsBytes}
use Rattle.card_record.proofs.FieldLaws.{IsRead, IsPart, IsBytes-drop, Takes, Takes-then, Each, IfThere, bind_ok, chosen, rule_ok, ok_is, then_field, all_fields, part_law, part_as, law_as, number_law, wide32, wide64, block_law, ruled_law, opt_law, run_takes, run_again, times_take, times_again}
use Rattle.card_record.proofs.CardLaws.{record_law, moment_law}
use Rattle.state_image.specs.declared.fault.ImageFault.{ImageFault}
use Rattle.state_image.specs.declared.fault.ImageFault.TheVariants as faults
use Rattle.state_image.specs.declared.position.Position.{Position}
use Rattle.state_image.specs.declared.read.Counts.{Counts}
use Rattle.state_image.specs.declared.read.Head.{Head}
use Rattle.state_image.specs.Faults.{code_of, fault_of}
use Rattle.state_image.specs.Changes.{or_malformed}
use Rattle.state_image.specs.Images.{name_of, no_trace, mail_spelled, entry_spelled, counts_of, position_of, counts_written, traces_spelled, position_spelled, image_in, image_with, image, begins_as, IsPosition, IsUntraced, FitsPosition, IsImage, HasImage, count_at, counts_at, both_traces_at, traces_at, lines_at, position_at, next_uid_at, head_at, card_after, mail_after, uid_between, arrival_by, seen_between, entry_after, last_uid, entry_at, item_count_at, entries_at, body_at, mailbox_by, head_of, from_body, image_of}
use Rattle.state_image.proofs.ChangeLaws.{known, first_taken, code_is, done}

-- ---- positions

record IsCounts (c : Counts) : Type 0 where
  pub some : 1 ≤ c.count
  pub few : c.count ≤ 2 ^ 62
  pub mbox : c.mbox < 2 ^ 64
  pub steps : c.steps < 2 ^ 64
  pub lines : c.lines ≤ c.steps

abbrev IsCount : ℕ → Type 0
IsCount n = (n < 2 ^ 64) × ((nat_le 1 n && nat_le n (2 ^ 62)) ≡ true)

abbrev AreLines : ℕ → ℕ → Type 0
AreLines steps n = (n < 2 ^ 64) × (nat_le n steps ≡ true)

count_law : IsRead records.b64 IsCount count_at
count_law = ruled_law records.b64 (λ n. n < 2 ^ 64) (number_at w64) (λ n. nat_le 1 n && nat_le n (2 ^ 62)) (number_law w64 (2 ^ 64) wide64)

lines_law : (steps : ℕ) → IsRead records.b64 (AreLines steps) (lines_at steps)
lines_law steps = ruled_law records.b64 (λ n. n < 2 ^ 64) (number_at w64) (λ n. nat_le n steps) (number_law w64 (2 ^ 64) wide64)

counts_part : IsPart (λ (p : Counts). ⊤)
    (λ p. records.b64 p.count ++ (records.b64 p.mbox ++ (records.b64 p.steps ++ (records.b64 p.lines ++ []))))
    (λ p. IsCount p.count × ((p.mbox < 2 ^ 64) × ((p.steps < 2 ^ 64) × (AreLines p.steps p.lines × ⊤)))) counts_at
unfolding counts_at
counts_part =
    then_field _ _ _ count_law (λ p. p.count) _ _ _ _ (λ count.
    then_field _ _ _ (number_law w64 (2 ^ 64) wide64) (λ p. p.mbox) _ _ _ _ (λ mbox.
    then_field _ _ _ (number_law w64 (2 ^ 64) wide64) (λ p. p.steps) _ _ _ _ (λ steps.
    part_as _ _ (λ (p : Counts). AreLines steps p.lines × ⊤) (λ (p : Counts). AreLines p.steps p.lines × ⊤) _
    (then_field _ _ _ (lines_law steps) (λ p. p.lines) _ _ _ _ (λ lines.
    all_fields _ (record { count = count; mbox = mbox; steps = steps; lines = lines }) ((((tt, refl), refl), refl), refl)
    (λ y k i. record { count = k.0.0.0.1 i; mbox = k.0.0.1 i; steps = k.0.1 i; lines = k.1 i })))
    (λ p k f. subst (λ (n : ℕ). AreLines n p.lines × ⊤) (sym k.1) f)
    (λ p k f. subst (λ (n : ℕ). AreLines n p.lines × ⊤) k.1 f))))

counts_are : (p : Counts) → records.b64 p.count ++ (records.b64 p.mbox ++ (records.b64 p.steps ++ (records.b64 p.lines ++ []))) ≡ counts_written p
counts_are p = simp (append-nil, append_assoc)

fits_counts : (p : Counts) → IsCount p.count × ((p.mbox < 2 ^ 64) × ((p.steps < 2 ^ 64) × (AreLines p.steps p.lines × ⊤))) → IsCounts p
fits_counts p f =
    let count = and_parts (nat_le 1 p.count) (nat_le p.count (2 ^ 62)) f.0.1 in
    let lines : nat_le p.lines p.steps ≡ true = f.1.1.1.0.1 in
    let wide : p.steps < 2 ^ 64 = f.1.1.0 in
    record { some = at_most 1 p.count count.0; few = at_most p.count (2 ^ 62) count.1; mbox = f.1.0; steps = wide; lines = at_most p.lines p.steps lines }
  where
    at_most : (a b : ℕ) → nat_le a b ≡ true → a ≤ b
    at_most a b h = grind (arith, nat_tests)

low_enough : (a b : ℕ) → a ≤ b → nat_le a b ≡ true
low_enough a b h = grind (arith, nat_tests)

at_most : (a b : ℕ) → nat_le a b ≡ true → a ≤ b
at_most a b h = grind (arith, nat_tests)

counts_fit : (p : Counts) → IsCounts p → IsCount p.count × ((p.mbox < 2 ^ 64) × ((p.steps < 2 ^ 64) × (AreLines p.steps p.lines × ⊤)))
counts_fit p k =
    let few : p.count ≤ 2 ^ 62 = k.few in
    let lines : p.lines ≤ p.steps = k.lines in
    let wide : p.steps < 2 ^ 64 = k.steps in
    ((omega arith, and_from _ _ (low_enough 1 p.count k.some) (low_enough p.count (2 ^ 62) k.few)), (k.mbox, (wide, ((omega arith, low_enough p.lines p.steps lines), tt))))

counts_law : IsRead counts_written IsCounts counts_at
counts_law = law_as _ _ _ _ _ (part_law _ counts_written _ _ counts_part counts_are (λ p. omega arith)) (λ p. refl) fits_counts (λ p k small. counts_fit p k)

-- ---- traces

both_take : (bytes : List ℕ) (t : List ℕ × List ℕ) (rest : List ℕ) → IsBytes bytes → both_traces_at bytes ≡ Ok (t, rest)
    → Takes bytes (t.0 ++ t.1) rest × ((length t.0 ≡ 32) × (length t.1 ≡ 32))
unfolding both_traces_at
both_take bytes t rest fits e =
    let a = bind_ok (run_at 32 bytes) (λ x. run_at 32 x.1 >>= λ y. Ok ((x.0, y.0), y.1)) (t, rest) e in
    let b = bind_ok (run_at 32 a.0.1) (λ y. Ok ((a.0.0, y.0), y.1)) (t, rest) a.2 in
    let one = run_takes 32 bytes a.0.0 a.0.1 fits a.1 in
    let two = run_takes 32 a.0.1 b.0.0 b.0.1 one.0.rest_fits b.1 in
    let both = Takes-then bytes a.0.0 a.0.1 b.0.0 b.0.1 one.0 two.0 in
    let P : (List ℕ × List ℕ) × List ℕ → Type 0 = λ p. Takes bytes (p.0.0 ++ p.0.1) p.1 × ((length p.0.0 ≡ 32) × (length p.0.1 ≡ 32)) in
    subst P (ok_is ((a.0.0, b.0.0), b.0.1) (t, rest) b.2) (both, (one.1, two.1))

both_again : (t : List ℕ × List ℕ) (rest : List ℕ) → length t.0 ≡ 32 → length t.1 ≡ 32 → both_traces_at ((t.0 ++ t.1) ++ rest) ≡ Ok (t, rest)
unfolding both_traces_at
both_again t rest p q =
    ap both_traces_at (append_assoc t.0 t.1 rest) ∙ rw (run_again 32 t.0 (t.1 ++ rest) p, run_again 32 t.1 rest q) refl

abbrev pub FitTraces : Bool → List ℕ × List ℕ → Type 0
FitTraces false t = t ≡ (no_trace, no_trace)
FitTraces true t = (length t.0 ≡ 32) × (length t.1 ≡ 32)

pub traces_take : (traced : Bool) (bytes : List ℕ) (t : List ℕ × List ℕ) (rest : List ℕ) → IsBytes bytes → traces_at traced bytes ≡ Ok (t, rest)
    → Takes bytes (traces_spelled traced t) rest × FitTraces traced t
traces_take true bytes t rest fits e = both_take bytes t rest fits e
traces_take false bytes t rest fits e =
    let is = ok_is ((no_trace, no_trace), bytes) (t, rest) e in
    let none : List ℕ × List ℕ = (no_trace, no_trace) in (
      record { parts = ap (λ (p : (List ℕ × List ℕ) × List ℕ). p.1) is; rest_fits = subst IsBytes (ap (λ (p : (List ℕ × List ℕ) × List ℕ). p.1) is) fits },
      sym (ap (λ (p : (List ℕ × List ℕ) × List ℕ). p.0) is),
    )

pub traces_again : (traced : Bool) (t : List ℕ × List ℕ) (rest : List ℕ) → FitTraces traced t → traces_at traced (traces_spelled traced t ++ rest) ≡ Ok (t, rest)
traces_again true t rest f = both_again t rest f.0 f.1
traces_again false t rest f = ap (λ (u : List ℕ × List ℕ). done (u, rest)) (sym f)

fits_made : (traced : Bool) (c : Counts) (t : List ℕ × List ℕ) → IsCounts c → FitTraces traced t → FitsPosition traced (position_of c t)
fits_made false c t k f = record {
  is = record { some = k.some; few = k.few; mbox = k.mbox; steps = k.steps; lines = k.lines; mbox_trace = ap (λ (u : List ℕ × List ℕ). length u.0) f; steps_trace = ap (λ (u : List ℕ × List ℕ). length u.1) f };
  traces = λ e. record { mbox = ap (λ (u : List ℕ × List ℕ). u.0) f; steps = ap (λ (u : List ℕ × List ℕ). u.1) f };
}
fits_made true c t k f = record {
  is = record { some = k.some; few = k.few; mbox = k.mbox; steps = k.steps; lines = k.lines; mbox_trace = f.0; steps_trace = f.1 };
  traces = λ e. absurd cc;
}

position_takes : (traced : Bool) (bytes : List ℕ) (p : Position) (rest : List ℕ) → IsBytes bytes → position_at traced bytes ≡ Ok (p, rest)
    → Takes bytes (position_spelled traced p) rest × FitsPosition traced p
unfolding position_at
position_takes traced bytes p rest fits e =
    let a = bind_ok (counts_at bytes) (λ c. traces_at traced c.1 >>= λ t. Ok (position_of c.0 t.0, t.1)) (p, rest) e in
    let b = bind_ok (traces_at traced a.0.1) (λ t. Ok (position_of a.0.0 t.0, t.1)) (p, rest) a.2 in
    let one = counts_law.takes bytes a.0.0 a.0.1 fits a.1 in
    let two = traces_take traced a.0.1 b.0.0 b.0.1 one.0.rest_fits b.1 in
    let both = Takes-then bytes (counts_written a.0.0) a.0.1 (traces_spelled traced b.0.0) b.0.1 one.0 two.0 in
    subst (λ (x : Position × List ℕ). Takes bytes (position_spelled traced x.0) x.1 × FitsPosition traced x.0) (ok_is (position_of a.0.0 b.0.0, b.0.1) (p, rest) b.2)
    (both, fits_made traced a.0.0 b.0.0 one.1 two.1)

traces_fit : (traced : Bool) (p : Position) → FitsPosition traced p → FitTraces traced (p.mbox_trace, p.steps_trace)
traces_fit false p k = pair_is p.mbox_trace p.steps_trace (k.traces refl).mbox (k.traces refl).steps
  where
    pair_is : (a b : List ℕ) → a ≡ no_trace → b ≡ no_trace → FitTraces false (a, b)
    pair_is a b e f i = (e i, f i)
traces_fit true p k = (k.is.mbox_trace, k.is.steps_trace)

position_again : (traced : Bool) (p : Position) (rest : List ℕ) → FitsPosition traced p → length (position_spelled traced p) < 2 ^ 32
    → position_at traced (position_spelled traced p ++ rest) ≡ Ok (p, rest)
unfolding position_at
position_again traced p rest k small =
    let c : Counts = counts_of p in
    let t : List ℕ × List ℕ = (p.mbox_trace, p.steps_trace) in
    let is : IsCounts c = record { some = k.is.some; few = k.is.few; mbox = k.is.mbox; steps = k.is.steps; lines = k.is.lines } in
    let one = counts_law.again c (traces_spelled traced t ++ rest) is (omega (arith, small, length-append (counts_written c) (traces_spelled traced t))) in
    let two = traces_again traced t rest (traces_fit traced p k) in
    ap (position_at traced) (append_assoc (counts_written c) (traces_spelled traced t) rest) ∙ rw (one, two) refl

position_law : (traced : Bool) → IsRead (position_spelled traced) (FitsPosition traced) (position_at traced)
position_law traced = record {
  some = λ p. omega (arith, length-append (counts_written (counts_of p)) (traces_spelled traced (p.mbox_trace, p.steps_trace)));
  takes = position_takes traced;
  again = position_again traced;
}

-- ---- all before the items

abbrev IsNextUid : ℕ → Type 0
IsNextUid n = (n < 2 ^ 32) × (nat_le 1 n ≡ true)

next_uid_law : IsRead records.b32 IsNextUid next_uid_at
next_uid_law = ruled_law records.b32 (λ n. n < 2 ^ 32) (number_at w32) (λ n. nat_le 1 n) (number_law w32 (2 ^ 32) wide32)

abbrev pub head_in_image : Bool → Head → List ℕ
head_in_image traced h = records.block h.me ++ (position_spelled traced h.position ++ (records.b64 h.moment ++ (records.b32 h.next_uid ++ [])))

abbrev pub FitsHead : Bool → Head → Type 0
FitsHead traced h = (is_addr h.me ≡ true) × (FitsPosition traced h.position × ((nat_le h.moment last_moment ≡ true) × (IsNextUid h.next_uid × ⊤)))

head_part : (traced : Bool) → IsPart (λ (h : Head). ⊤) (head_in_image traced) (FitsHead traced) (head_at traced)
unfolding head_at
head_part traced =
    then_field _ _ _ (block_law is_addr) (λ h. h.me) _ _ _ _ (λ me.
    then_field _ _ _ (position_law traced) (λ h. h.position) _ _ _ _ (λ position.
    then_field _ _ _ moment_law (λ h. h.moment) _ _ _ _ (λ moment.
    then_field _ _ _ next_uid_law (λ h. h.next_uid) _ _ _ _ (λ next_uid.
    all_fields _ (record { me = me; position = position; moment = moment; next_uid = next_uid }) ((((tt, refl), refl), refl), refl)
    (λ y k i. record { me = k.0.0.0.1 i; position = k.0.0.1 i; moment = k.0.1 i; next_uid = k.1 i })))))

head_law : (traced : Bool) → IsRead (head_in_image traced) (FitsHead traced) (head_at traced)
head_law traced = part_law _ (head_in_image traced) _ _ (head_part traced) (λ h. refl) (λ h. omega arith)

-- ---- what an item holds

abbrev FitsMail : ℕ → Result Card Fault → Type 0
FitsMail weight (Ok card) = (is_valid card ≡ true) × (nat_le (weight + records.weight card) max_total_weight ≡ true)
FitsMail weight (Err fault) = ⊤

card_after_law : (weight : ℕ) → IsRead records.record_of (λ card. (is_valid card ≡ true) × (nat_le (weight + records.weight card) max_total_weight ≡ true)) (card_after weight)
card_after_law weight = ruled_law records.record_of (λ card. is_valid card ≡ true) record_at (λ card. nat_le (weight + records.weight card) max_total_weight) record_law

abbrev of_card : Card × List ℕ → Read (Result Card Fault)
of_card x = Ok (Ok x.0, x.1)

mapped : (o : Option Fault) (r : Result Card Fault) → option_map Err o ≡ Some r → (f : Fault) × (o ≡ Some f) × (Err f ≡ r)
mapped None r e = absurd cc
mapped (Some f) r e = (f, refl, some_is (Err f) r e)
  where
    some_is : (a b : Result Card Fault) → Some a ≡ Some b → a ≡ b
    some_is a b e = cc

mail_takes : (weight : ℕ) (bytes : List ℕ) (r : Result Card Fault) (rest : List ℕ) → IsBytes bytes → mail_after weight bytes ≡ Ok (r, rest)
    → Takes bytes (mail_spelled r) rest × FitsMail weight r
unfolding mail_after
mail_takes weight [] r rest fits e = absurd cc
mail_takes weight (n ∷ bytes) r rest fits e =
    elim (chosen (eqb n 0) (card_after weight bytes >>= of_card) (or_malformed (suc (length bytes)) (option_map Err (fault_of n)) bytes) (done (r, rest)) e) [
      | inl h ↦
          let b = bind_ok (card_after weight bytes) of_card (r, rest) h.1 in
          let t = (card_after_law weight).takes bytes b.0.0 b.0.1 (λ i. fits (suc i)) b.1 in
          let both = Takes-then (n ∷ bytes) (0 ∷ []) bytes (records.record_of b.0.0) b.0.1 (first_taken n 0 bytes fits (eqb-true n 0 h.0)) t.0 in
          subst (λ (p : Result Card Fault × List ℕ). Takes (n ∷ bytes) (mail_spelled p.0) p.1 × FitsMail weight p.0) (ok_is (Ok b.0.0, b.0.1) (r, rest) b.2) (both, t.1)
      | inr h ↦
          let k = known (suc (length bytes)) (option_map Err (fault_of n)) bytes r rest h.1 in
          let m = mapped (fault_of n) r k.0 in
          let first = first_taken n (code_of m.0) bytes fits (code_is n m.0 m.1) in
          subst (λ (q : Result Card Fault). Takes (n ∷ bytes) (mail_spelled q) rest × FitsMail weight q) m.2
          (subst (λ (left : List ℕ). Takes (n ∷ bytes) (records.b8 (code_of m.0)) left) k.1 first, tt)
    ]

mail_again : (weight : ℕ) (r : Result Card Fault) (rest : List ℕ) → FitsMail weight r → length (mail_spelled r) < 2 ^ 32 → mail_after weight (mail_spelled r ++ rest) ≡ Ok (r, rest)
unfolding mail_after
mail_again weight (Ok card) rest fits small = rw ((card_after_law weight).again card rest fits (omega (arith, small))) refl
mail_again weight (Err NoFields) rest fits small = refl
mail_again weight (Err NoFrom) rest fits small = refl
mail_again weight (Err CardTooLong) rest fits small = refl
mail_again weight (Err TooLong) rest fits small = refl

mail_some : (r : Result Card Fault) → 1 ≤ length (mail_spelled r)
mail_some (Ok card) = omega arith
mail_some (Err fault) = omega arith

mail_law : (weight : ℕ) → IsRead mail_spelled (FitsMail weight) (mail_after weight)
mail_law weight = record { some = mail_some; takes = mail_takes weight; again = mail_again weight }

-- ---- items

abbrev FitsUid : ℕ → ℕ → ℕ → Type 0
FitsUid last next n = (n < 2 ^ 32) × ((nat_lt last n && nat_lt n next) ≡ true)

abbrev FitsArrival : ℕ → ℕ → Type 0
FitsArrival now n = (n < 2 ^ 64) × (nat_le n now ≡ true)

abbrev FitsSeen : ℕ → ℕ → ℕ → Type 0
FitsSeen now arrival n = (n < 2 ^ 64) × ((nat_le arrival n && nat_le n now) ≡ true)

abbrev FitsAfter : ℕ → ℕ → ℕ → ℕ → Entry → Type 0
FitsAfter now next last weight e = FitsUid last next e.uid × (FitsArrival now e.arrival × (IfThere (FitsSeen now e.arrival) e.seen × (FitsMail weight e.read × ⊤)))

uid_law : (last next : ℕ) → IsRead records.b32 (FitsUid last next) (uid_between last next)
uid_law last next = ruled_law records.b32 (λ n. n < 2 ^ 32) (number_at w32) (λ n. nat_lt last n && nat_lt n next) (number_law w32 (2 ^ 32) wide32)

arrival_law : (now : ℕ) → IsRead records.b64 (FitsArrival now) (arrival_by now)
arrival_law now = ruled_law records.b64 (λ n. n < 2 ^ 64) (number_at w64) (λ n. nat_le n now) (number_law w64 (2 ^ 64) wide64)

seen_law : (arrival now : ℕ) → IsRead (records.opt records.b64) (IfThere (FitsSeen now arrival)) (opt_of (seen_between arrival now))
seen_law arrival now = opt_law records.b64 (FitsSeen now arrival) (seen_between arrival now)
    (ruled_law records.b64 (λ n. n < 2 ^ 64) (number_at w64) (λ n. nat_le arrival n && nat_le n now) (number_law w64 (2 ^ 64) wide64))

entry_part : (now next last weight : ℕ) → IsPart (λ (e : Entry). ⊤)
    (λ e. records.b32 e.uid ++ (records.b64 e.arrival ++ (records.opt records.b64 e.seen ++ (mail_spelled e.read ++ []))))
    (FitsAfter now next last weight) (entry_after now next last weight)
unfolding entry_after
entry_part now next last weight =
    then_field _ _ _ (uid_law last next) (λ e. e.uid) _ _ _ _ (λ uid.
    then_field _ _ _ (arrival_law now) (λ e. e.arrival) _ _ _ _ (λ arrival.
    part_as _ _ (λ (e : Entry). IfThere (FitsSeen now arrival) e.seen × (FitsMail weight e.read × ⊤)) (λ (e : Entry). IfThere (FitsSeen now e.arrival) e.seen × (FitsMail weight e.read × ⊤)) _
    (then_field _ _ _ (seen_law arrival now) (λ e. e.seen) _ _ _ _ (λ seen.
    then_field _ _ _ (mail_law weight) (λ e. e.read) _ _ _ _ (λ mail.
    all_fields _ (record { uid = uid; arrival = arrival; seen = seen; read = mail }) ((((tt, refl), refl), refl), refl)
    (λ y k i. record { uid = k.0.0.0.1 i; arrival = k.0.0.1 i; seen = k.0.1 i; read = k.1 i }))))
    (λ e k f. subst (λ (n : ℕ). IfThere (FitsSeen now n) e.seen × (FitsMail weight e.read × ⊤)) (sym k.1) f)
    (λ e k f. subst (λ (n : ℕ). IfThere (FitsSeen now n) e.seen × (FitsMail weight e.read × ⊤)) k.1 f)))

entry_is : (e : Entry) → records.b32 e.uid ++ (records.b64 e.arrival ++ (records.opt records.b64 e.seen ++ (mail_spelled e.read ++ []))) ≡ entry_spelled e
entry_is e = simp (append-nil, append_assoc)

abbrev FitsEntry : ℕ → ℕ → List Entry → Entry → Type 0
FitsEntry now next front e = FitsAfter now next (last_uid front) (weights front) e

entry_law : (now next : ℕ) (front : List Entry) → IsRead entry_spelled (FitsEntry now next front) (entry_at now next front)
entry_law now next front = part_law _ entry_spelled _ _ (entry_part now next (last_uid front) (weights front)) entry_is (λ e. omega arith)

-- ---- all items

abbrev pub FitsEntries : ℕ → ℕ → List Entry → Type 0
FitsEntries now next es = (length es ≤ max_entries) × Each (FitsEntry now next) [] es

abbrev IsItemCount : ℕ → Type 0
IsItemCount n = (n < 2 ^ 32) × (nat_le n max_entries ≡ true)

item_count_law : IsRead records.b32 IsItemCount item_count_at
item_count_law = ruled_law records.b32 (λ n. n < 2 ^ 32) (number_at w32) (λ n. nat_le n max_entries) (number_law w32 (2 ^ 32) wide32)

entries_takes : (now next : ℕ) (bytes : List ℕ) (es : List Entry) (rest : List ℕ) → IsBytes bytes → entries_at now next bytes ≡ Ok (es, rest)
    → Takes bytes (records.list entry_spelled es) rest × FitsEntries now next es
unfolding entries_at
entries_takes now next bytes es rest fits e =
    let b = bind_ok (item_count_at bytes) (λ n. times_of (entry_at now next) [] n.0 n.1) (es, rest) e in
    let one = item_count_law.takes bytes b.0.0 b.0.1 fits b.1 in
    let two = times_take entry_spelled (FitsEntry now next) (entry_at now next) (entry_law now next) b.0.0 [] b.0.1 es rest one.0.rest_fits b.2 in
    let both = Takes-then bytes (to_be_bytes w32 b.0.0) b.0.1 (flat_map entry_spelled two.0) rest one.0 two.3 in
    let named = subst (λ (n : ℕ). Takes bytes (to_be_bytes w32 n ++ flat_map entry_spelled two.0) rest) (sym two.2) both in
    let few : length two.0 ≤ max_entries = subst (λ (n : ℕ). n ≤ max_entries) (sym two.2) (at_most b.0.0 max_entries one.1.1) in
    subst (λ (l : List Entry). Takes bytes (records.list entry_spelled l) rest × FitsEntries now next l) (sym two.1) (named, (few, two.4))

entries_again : (now next : ℕ) (es : List Entry) (rest : List ℕ) → FitsEntries now next es → length (records.list entry_spelled es) < 2 ^ 32
    → entries_at now next (records.list entry_spelled es ++ rest) ≡ Ok (es, rest)
unfolding entries_at
entries_again now next es rest fits small =
    let len = length-append (to_be_bytes w32 (length es)) (flat_map entry_spelled es) in
    let few : length es ≤ max_entries = fits.0 in
    let count = item_count_law.again (length es) (flat_map entry_spelled es ++ rest) (omega arith, low_enough (length es) max_entries few) (omega arith) in
    ap (entries_at now next) (append_assoc (to_be_bytes w32 (length es)) (flat_map entry_spelled es) rest)
    ∙ rw count (times_again entry_spelled (FitsEntry now next) (entry_at now next) (entry_law now next) [] es rest fits.1 (omega (arith, len, small)))

-- ---- the body

nil_of : (xs : List ℕ) → eqb (length xs) 0 ≡ true → xs ≡ []
nil_of [] h = refl
nil_of (x ∷ xs) h = let none : suc (length xs) ≡ 0 = eqb-true (suc (length xs)) 0 h in absurd (omega arith)

abbrev body_spelled : Bool → Head → List Entry → List ℕ
body_spelled traced h es = head_in_image traced h ++ records.list entry_spelled es

abbrev ended : Head × List ℕ → List Entry × List ℕ → Read (Head × List Entry)
ended h es = cond (eqb (length es.1) 0) (Ok ((h.0, es.0), es.1)) (Err (length es.1))

pub body_taken : (traced : Bool) (bytes : List ℕ) (h : Head) (es : List Entry) (rest : List ℕ) → IsBytes bytes → body_at traced bytes ≡ Ok ((h, es), rest)
    → (bytes ≡ body_spelled traced h es) × FitsHead traced h × FitsEntries h.moment h.next_uid es
unfolding body_at
body_taken traced bytes h es rest fits e =
    let a = bind_ok (head_at traced bytes) (λ x. entries_at x.0.moment x.0.next_uid x.1 >>= ended x) ((h, es), rest) e in
    let b = bind_ok (entries_at a.0.0.moment a.0.0.next_uid a.0.1) (ended a.0) ((h, es), rest) a.2 in
    let c = rule_ok (eqb (length b.0.1) 0) (length b.0.1) ((a.0.0, b.0.0), b.0.1) ((h, es), rest) b.2 in
    let one = (head_law traced).takes bytes a.0.0 a.0.1 fits a.1 in
    let two = entries_takes a.0.0.moment a.0.0.next_uid a.0.1 b.0.0 b.0.1 one.0.rest_fits b.1 in
    let both = Takes-then bytes (head_in_image traced a.0.0) a.0.1 (records.list entry_spelled b.0.0) b.0.1 one.0 two.0 in
    let whole : bytes ≡ body_spelled traced a.0.0 b.0.0 = both.parts ∙ ap (λ (t : List ℕ). body_spelled traced a.0.0 b.0.0 ++ t) (nil_of b.0.1 c.0) ∙ append-nil (body_spelled traced a.0.0 b.0.0) in
    subst (λ (p : (Head × List Entry) × List ℕ). (bytes ≡ body_spelled traced p.0.0 p.0.1) × FitsHead traced p.0.0 × FitsEntries p.0.0.moment p.0.0.next_uid p.0.1) c.1 (whole, one.1, two.1)

body_again : (traced : Bool) (h : Head) (es : List Entry) → FitsHead traced h → FitsEntries h.moment h.next_uid es → length (head_in_image traced h) < 2 ^ 32 → length (records.list entry_spelled es) < 2 ^ 32
    → body_at traced (body_spelled traced h es) ≡ Ok ((h, es), [])
unfolding body_at
body_again traced h es fits each small little =
    let one = (head_law traced).again h (records.list entry_spelled es) fits small in
    let two = entries_again h.moment h.next_uid es [] each little in
    let three : entries_at h.moment h.next_uid (records.list entry_spelled es) ≡ Ok (es, []) = ap (entries_at h.moment h.next_uid) (sym (append-nil (records.list entry_spelled es))) ∙ two in
    rw (one, three) refl

-- ---- what fits is a mailbox

pub last_put : (front : List Entry) (e : Entry) → last_uid (front ++ e ∷ []) ≡ e.uid
last_put front e = fold-append (λ _ (x : Entry). x.uid) 0 front (e ∷ [])

pub weights_put : (front : List Entry) (e : Entry) → weights (front ++ e ∷ []) ≡ weights front + weight_read e.read
weights_put front e = sum_by-append (λ (x : Entry). weight_read x.read) front (e ∷ []) ∙ ap (λ n. weights front + n) (sum_by-cons (λ (x : Entry). weight_read x.read) e [] ∙ plus_none (weight_read e.read))
  where
    plus_none : (n : ℕ) → n + 0 ≡ n
    plus_none n = omega arith

below_next : (a b c : ℕ) → (nat_lt a b && nat_lt b c) ≡ true → (a < b) × (b < c)
below_next a b c h = let p = and_parts (nat_lt a b) (nat_lt b c) h in (is_less a b p.0, is_less b c p.1)
  where
    is_less : (m n : ℕ) → nat_lt m n ≡ true → m < n
    is_less m n h = grind (arith, nat_tests)

between : (a b c : ℕ) → a < b → b < c → (nat_lt a b && nat_lt b c) ≡ true
between a b c p q = and_from _ _ (less_is a b p) (less_is b c q)
  where
    less_is : (m n : ℕ) → m < n → nat_lt m n ≡ true
    less_is m n h = grind (arith, nat_tests)

module _ (now next : ℕ) where
  rises : (front es : List Entry) → last_uid front < next → Each (FitsEntry now next) front es → RiseBelow (last_uid front + 1) es next
  rises front [] low f = omega arith
  rises front (e ∷ es) low f =
      let uid = below_next (last_uid front) e.uid next f.0.0.1 in
      let last = last_put front e in
      let more = rises (front ++ e ∷ []) es (subst (λ n. n < next) (sym last) uid.1) f.1 in
      (above (last_uid front) e.uid uid.0, subst (λ n. RiseBelow (n + 1) es next) last more)
    where
      above : (m n : ℕ) → m < n → m + 1 ≤ n
      above m n h = omega arith

  valid_read : (weight : ℕ) (r : Result Card Fault) → FitsMail weight r → IfOk r (λ card. is_valid card ≡ true)
  valid_read weight (Ok card) f = f.0
  valid_read weight (Err fault) f = tt

  seen_after : (arrival : ℕ) (seen : Option ℕ) → IfThere (FitsSeen now arrival) seen → IfSome seen (λ s. arrival ≤ s) × IfSome seen (λ s. s ≤ now)
  seen_after arrival None f = (tt, tt)
  seen_after arrival (Some s) f = let p = and_parts (nat_le arrival s) (nat_le s now) f.1 in (at_most arrival s p.0, at_most s now p.1)

  entries_are : (front es : List Entry) → Each (FitsEntry now next) front es → AllByRecursion (IsEntry now) es
  entries_are front [] f = tt
  entries_are front (e ∷ es) f =
      let seen = seen_after e.arrival e.seen f.0.1.1.0 in
      (record { arrived = at_most e.arrival now f.0.1.0.1; seen_after = seen.0; seen_by = seen.1; valid = valid_read (weights front) e.read f.0.1.1.1.0 }, entries_are (front ++ e ∷ []) es f.1)

  light_read : (weight : ℕ) (r : Result Card Fault) → weight ≤ max_total_weight → FitsMail weight r → weight + weight_read r ≤ max_total_weight
  light_read weight (Ok card) low f = at_most (weight + records.weight card) max_total_weight f.1
  light_read weight (Err fault) low f = omega arith

  light : (front es : List Entry) → weights front ≤ max_total_weight → Each (FitsEntry now next) front es → weights (front ++ es) ≤ max_total_weight
  light front [] low f = subst (λ l. weights l ≤ max_total_weight) (sym (append-nil front)) low
  light front (e ∷ es) low f =
      let more = light_read (weights front) e.read low f.0.1.1.1.0 in
      let put = subst (λ n. n ≤ max_total_weight) (sym (weights_put front e)) more in
      subst (λ l. weights l ≤ max_total_weight) (append_assoc front (e ∷ []) es) (light (front ++ e ∷ []) es put f.1)

pub fits_rules : (traced : Bool) (h : Head) (es : List Entry) → FitsHead traced h → FitsEntries h.moment h.next_uid es → IsMailbox (mailbox_by h es)
fits_rules traced h es f each =
    let next : 1 ≤ h.next_uid = at_most 1 h.next_uid f.1.1.1.0.1 in
    let wide : h.next_uid < 2 ^ 32 = f.1.1.1.0.0 in
    record {
      moment = at_most h.moment last_moment f.1.1.0;
      uids = rises h.moment h.next_uid [] es (omega arith) each.1;
      next = omega arith;
      each = entries_are h.moment h.next_uid [] es each.1;
      count_fits = each.0;
      weight_fits = light h.moment h.next_uid [] es (omega arith) each.1;
    }

-- ---- a mailbox fits

rise_le : (low next : ℕ) (es : List Entry) → RiseBelow low es next → low ≤ next
rise_le low next [] r = r
rise_le low next (e ∷ es) r =
    let more : e.uid + 1 ≤ next = rise_le (e.uid + 1) next es r.1 in
    let first : low ≤ e.uid = r.0 in
    omega arith

mail_fits : (weight : ℕ) (r : Result Card Fault) → IfOk r (λ card. is_valid card ≡ true) → weight + weight_read r ≤ max_total_weight → FitsMail weight r
mail_fits weight (Ok card) valid low = (valid, low_enough (weight + records.weight card) max_total_weight low)
mail_fits weight (Err fault) valid low = tt

module _ (now next : ℕ) (late : now ≤ last_moment) (wide : next < 2 ^ 32) where
  seen_fits : (arrival : ℕ) (seen : Option ℕ) → IfSome seen (λ s. arrival ≤ s) → IfSome seen (λ s. s ≤ now) → IfThere (FitsSeen now arrival) seen
  seen_fits arrival None p q = tt
  seen_fits arrival (Some s) p q = (narrow s q, and_from _ _ (low_enough arrival s p) (low_enough s now q))
    where
      narrow : (n : ℕ) → n ≤ now → n < 2 ^ 64
      narrow n h = omega arith

  each_fits : (front es : List Entry) → RiseBelow (last_uid front + 1) es next → AllByRecursion (IsEntry now) es → weights (front ++ es) ≤ max_total_weight
      → Each (FitsEntry now next) front es
  each_fits front [] r a w = tt
  each_fits front (e ∷ es) r a w =
      let last = last_put front e in
      let low : last_uid front + 1 ≤ e.uid = r.0 in
      let below : e.uid + 1 ≤ next = rise_le (e.uid + 1) next es r.1 in
      let arrived : e.arrival ≤ now = a.0.arrived in
      let whole : weights ((front ++ e ∷ []) ++ es) ≤ max_total_weight = subst (λ l. weights l ≤ max_total_weight) (sym (append_assoc front (e ∷ []) es)) w in
      let parts : weights ((front ++ e ∷ []) ++ es) ≡ weights (front ++ e ∷ []) + weights es = sum_by-append (λ (x : Entry). weight_read x.read) (front ++ e ∷ []) es in
      let put : weights (front ++ e ∷ []) ≡ weights front + weight_read e.read = weights_put front e in
      let up_to : weights front + weight_read e.read ≤ max_total_weight = part_of _ _ _ _ put parts whole in (
        (
          (omega arith, between (last_uid front) e.uid next (omega arith) (omega arith)),
          ((omega arith, low_enough e.arrival now arrived), (seen_fits e.arrival e.seen a.0.seen_after a.0.seen_by, (mail_fits (weights front) e.read a.0.valid up_to, tt))),
        ),
        each_fits (front ++ e ∷ []) es (subst (λ n. RiseBelow (n + 1) es next) (sym last) r.1) a.1 whole,
      )
    where
      part_of : (a b c d : ℕ) → b ≡ a → c ≡ b + d → c ≤ max_total_weight → a ≤ max_total_weight
      part_of a b c d p q r = omega arith

-- ---- the size of an image

mail_size : (r : Result Card Fault) → length (mail_spelled r) ≤ 1 + weight_read r
mail_size (Ok card) = omega arith
mail_size (Err fault) = omega arith

seen_size : (o : Option ℕ) → length (records.opt records.b64 o) ≤ 9
seen_size None = omega arith
seen_size (Some s) = omega arith

entry_size : (e : Entry) → length (entry_spelled e) ≤ 22 + weight_read e.read
entry_size e =
    let whole = length-append (records.opt records.b64 e.seen) (mail_spelled e.read) in
    let is = ap length (sym (entry_is e)) in
    let none = append-nil (mail_spelled e.read) in
    let seen = seen_size e.seen in
    let mail = mail_size e.read in
    rw (is, none) (omega arith)

entries_size : (es : List Entry) → length (flat_map entry_spelled es) ≤ weights es + 22 * length es
entries_size [] = omega arith
entries_size (e ∷ es) =
    let cons = ap length (flat_map-cons entry_spelled e es) ∙ length-append (entry_spelled e) (flat_map entry_spelled es) in
    let sum = sum_by-cons (λ (x : Entry). weight_read x.read) e es in
    let one = entry_size e in
    let more = entries_size es in
    rw (cons, sum) (omega arith)

-- ---- whole images

image_parts : (a b c d e f : List ℕ) → a ++ b ++ c ++ d ++ e ++ f ≡ a ++ ((b ++ (c ++ (d ++ (e ++ [])))) ++ f)
image_parts a b c d e f = simp (append-nil, append_assoc)

image_is : (traced : Bool) (m : Mailbox) (p : Position) → image_in traced m p ≡ name_of traced ++ body_spelled traced (record { me = m.me; position = p; moment = m.now; next_uid = m.next_uid }) m.entries
image_is traced m p = image_parts (name_of traced) (records.block m.me) (position_spelled traced p) (records.b64 m.now) (records.b32 m.next_uid) (records.list entry_spelled m.entries)

opened : {A : Type 0} (b c : Bool) (x y : Result A ImageFault) (z : A) → cond b x (cond c y (Err faults.Version)) ≡ Ok z
    → ((b ≡ true) × (x ≡ Ok z)) ⊎ ((b ≡ false) × (c ≡ true) × (y ≡ Ok z))
opened true c x y z e = inl (refl, e)
opened false true x y z e = inr (refl, refl, e)
opened false false x y z e = absurd cc

abbrev made : Mailbox × Position → Result (Mailbox × Position) ImageFault
made x = Ok x

both_are : (x y : Mailbox × Position) → made x ≡ made y → x ≡ y
both_are x y e = cc

read_of_body : (size : ℕ) (r : Read (Head × List Entry)) (m : Mailbox) (p : Position) → from_body size r ≡ Ok (m, p)
    → (h : Head) × (es : List Entry) × (rest : List ℕ) × (r ≡ Ok ((h, es), rest)) × (mailbox_by h es ≡ m) × (h.position ≡ p)
read_of_body size (Err left) m p e = absurd cc
read_of_body size (Ok x) m p e =
    let is = both_are (mailbox_by x.0.0 x.0.1, x.0.0.position) (m, p) e in
    (x.0.0, x.0.1, x.1, refl, ap (λ (q : Mailbox × Position). q.0) is, ap (λ (q : Mailbox × Position). q.1) is)

name_size : (traced : Bool) → length (name_of traced) ≡ 8
name_size false = refl
name_size true = refl

named : (traced : Bool) (bytes : List ℕ) → begins_as traced bytes ≡ true → bytes ≡ name_of traced ++ drop 8 bytes
named false bytes h = (starts_is Decides-eqb bytes (name_of false) (begins_as false bytes) refl).0 h
named true bytes h = (starts_is Decides-eqb bytes (name_of true) (begins_as true bytes) refl).0 h

-- what follows from bytes that are read
pub read_answer : (traced : Bool) (bytes : List ℕ) (h : Head) (es : List Entry) (rest : List ℕ) → IsBytes bytes → begins_as traced bytes ≡ true
    → body_at traced (drop 8 bytes) ≡ Ok ((h, es), rest) → (bytes ≡ image_in traced (mailbox_by h es) h.position) × (HasImage (mailbox_by h es) h.position × FitsPosition traced h.position)
read_answer traced bytes h es rest fits name e =
    let t = body_taken traced (drop 8 bytes) h es rest (IsBytes-drop 8 bytes fits) e in
    let whole = named traced bytes name ∙ ap (λ (b : List ℕ). name_of traced ++ b) t.0 ∙ sym (image_is traced (mailbox_by h es) h.position) in
    (whole, (record { me = t.1.0; rules = fits_rules traced h es t.1 t.2; position = t.1.1.0.is }, t.1.1.0))

taken_in : (traced : Bool) (bytes : List ℕ) (m : Mailbox) (p : Position) → IsBytes bytes → begins_as traced bytes ≡ true → image_with traced bytes ≡ Ok (m, p) → HasImage m p × IsImage bytes m p
taken_in traced bytes m p fits name e =
    let r = read_of_body (length bytes) (body_at traced (drop 8 bytes)) m p e in
    let t = read_answer traced bytes r.0 r.1 r.2 fits name r.3 in
    let is : IsImage bytes (mailbox_by r.0 r.1) r.0.position = record { traced = traced; text = t.0; fits = t.1.1 } in
    let moved = subst (λ (n : Mailbox). HasImage n r.0.position × IsImage bytes n r.0.position) r.4 (t.1.0, is) in
    subst (λ (q : Position). HasImage m q × IsImage bytes m q) r.5 moved

pub image_taken : (bytes : List ℕ) (m : Mailbox) (p : Position) → IsBytes bytes → image_of bytes ≡ Ok (m, p) → HasImage m p × IsImage bytes m p
image_taken bytes m p fits e =
    elim (opened (begins_as true bytes) (begins_as false bytes) (image_with true bytes) (image_with false bytes) (m, p) e) [
      | inl h ↦ taken_in true bytes m p fits h.0 h.1
      | inr h ↦ taken_in false bytes m p fits h.1 h.2
    ]

short_me : (me : List ℕ) → is_addr me ≡ true → length me ≤ 254
short_me me h =
    let a = and_parts (nat_le 3 (length me) && nat_le (length me) 254 && list_all is_addr_byte me && has_inner_at me) (has_inner_colons false me) h in
    let b = and_parts (nat_le 3 (length me) && nat_le (length me) 254 && list_all is_addr_byte me) (has_inner_at me) a.0 in
    let c = and_parts (nat_le 3 (length me) && nat_le (length me) 254) (list_all is_addr_byte me) b.0 in
    at_most (length me) 254 (and_parts (nat_le 3 (length me)) (nat_le (length me) 254) c.0).1

traces_size : (traced : Bool) (p : Position) → IsPosition p → length (traces_spelled traced (p.mbox_trace, p.steps_trace)) ≤ 64
traces_size false p k = omega arith
traces_size true p k = omega (arith, k.mbox_trace, k.steps_trace, length-append p.mbox_trace p.steps_trace)

head_small : (traced : Bool) (m : Mailbox) (p : Position) → IsPosition p → length m.me ≤ 254
    → length (head_in_image traced (record { me = m.me; position = p; moment = m.now; next_uid = m.next_uid })) < 2 ^ 32
head_small traced m p k small =
    let t = traces_spelled traced (p.mbox_trace, p.steps_trace) in
    let end = records.b64 m.now ++ (records.b32 m.next_uid ++ []) in
    omega (
      arith,
      small,
      traces_size traced p k,
      length-append (records.block m.me) (position_spelled traced p ++ end),
      length-append (position_spelled traced p) end,
      length-append (counts_written (counts_of p)) t,
    )

again_by : (traced : Bool) (m : Mailbox) (p : Position)
    → body_at traced (body_spelled traced (record { me = m.me; position = p; moment = m.now; next_uid = m.next_uid }) m.entries) ≡ Ok ((record { me = m.me; position = p; moment = m.now; next_uid = m.next_uid }, m.entries), [])
    → image_of (image_in traced m p) ≡ Ok (m, p)
again_by true m p body = ap image_of (image_is true m p) ∙ rw body refl
again_by false m p body = ap image_of (image_is false m p) ∙ rw body refl

pub again_in : (traced : Bool) (m : Mailbox) (p : Position) → HasImage m p → FitsPosition traced p → image_of (image_in traced m p) ≡ Ok (m, p)
again_in traced m p k f =
    let next_low : 1 ≤ m.next_uid = rise_le 1 m.next_uid m.entries k.rules.uids in
    let next_high : m.next_uid ≤ end_of_uids = k.rules.next in
    let few : length m.entries ≤ max_entries = k.rules.count_fits in
    let not_heavy : weights m.entries ≤ max_total_weight = k.rules.weight_fits in
    let size = entries_size m.entries in
    let me_size = short_me m.me k.me in
    let fits : FitsHead traced (record { me = m.me; position = p; moment = m.now; next_uid = m.next_uid })
    = (k.me, (f, (low_enough m.now last_moment k.rules.moment, ((omega arith, low_enough 1 m.next_uid next_low), tt)))) in
    let each : FitsEntries m.now m.next_uid m.entries
    = (few, each_fits m.now m.next_uid k.rules.moment (omega arith) [] m.entries k.rules.uids k.rules.each not_heavy) in
    let long = length-append m.me (position_spelled traced p ++ (records.b64 m.now ++ (records.b32 m.next_uid ++ []))) in
    let body = body_again traced (record { me = m.me; position = p; moment = m.now; next_uid = m.next_uid }) m.entries fits each (head_small traced m p k.position (omega (arith, me_size))) (omega arith) in
    again_by traced m p body

pub image_again : (m : Mailbox) (p : Position) → HasImage m p → image_of (image m p) ≡ Ok (m, p)
image_again m p k = again_in true m p k (record { is = k.position; traces = λ e. absurd cc })

pub image_once : (m n : Mailbox) (p q : Position) → HasImage m p → HasImage n q → image m p ≡ image n q → (m ≡ n) × (p ≡ q)
image_once m n p q a b same =
    let both = both_are (m, p) (n, q) (sym (image_again m p a) ∙ (ap image_of same ∙ image_again n q b)) in
    (ap (λ (x : Mailbox × Position). x.0) both, ap (λ (x : Mailbox × Position). x.1) both)

-- bytes that are read are an image of what was read
pub read_is_image : (traced : Bool) (bytes : List ℕ) (m : Mailbox) (p : Position) (rest : List ℕ) → IsBytes bytes → begins_as traced bytes ≡ true
    → body_at traced (drop 8 bytes) ≡ Ok ((head_of m p, m.entries), rest) → IsImage bytes m p
read_is_image traced bytes m p rest fits name e =
    let t = read_answer traced bytes (head_of m p) m.entries rest fits name e in
    record { traced = traced; text = t.0; fits = t.1.1 }
