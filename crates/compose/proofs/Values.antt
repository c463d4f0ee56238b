-- What the types of a draft's values keep, and that what is written of them is a header.
use Rattle.std.proofs.Common.{◌≡◌, ℕ, ◌^◌, ◌<◌, ◌==◌, Bool, true, false, List, [], ◌∷◌, Option, Some, None, IfSome, refl, arith, inl, inr}
use Rattle.std.specs.Prelude.{codes, decimal, option_map, if◌then◌else◌}
use Rattle.std.specs.Char.{digit_value, is_ascii_digit}
use Rattle.std.specs.List.{list_all}
use Rattle.std.specs.Str.{IsUtf8}
use Rattle.std.specs.Str.Parse.{AllDigits}
use Rattle.std.proofs.lemmas.Bool.{and_from, cases_Bool}
use Rattle.std.proofs.lemmas.Bool.Decides.{nat_tests}
use Rattle.std.proofs.lemmas.Fmt.{decimal_is_IsNumeral}
use Rattle.card_type.specs.Groups.{is_group}
use Rattle.kit.specs.Addresses.{is_addr}
use Rattle.kit.specs.Ids.{is_id}
use Rattle.kit.specs.Printing.{is_printing, is_printing_byte}
use Rattle.compose.specs.declared.draft.Draft.{Draft}
use Rattle.compose.specs.Fields.{Slot}
use Rattle.compose.specs.Intended.{added, deleted, edited, old_name, reacts, receipt_for, named_group, removed}
use Rattle.compose.specs.Mails.{addr_body, coding_of, id_body, ids_body, slot, slots, text_body, timer_body, type_of}
use Rattle.compose.specs.Written.{angle, angles_text, pieces, words}
use Rattle.compose.specs.Dates.{date_text}
use Rattle.compose.proofs.FieldsBack.{is_name, is_slot, lines_are}
use Rattle.compose.proofs.Pieces.{are_pieces}
use Rattle.compose.proofs.Printings.{all_of, addr_printing, angle_printing, angles_printing, group_printing, id_printing, recipients_printing, with_angle_printing, words_printing}

-- what the types of the values keep
pub record Keeps (d : Draft) : Type 0 where
  pub id : is_id d.id ≡ true
  pub from : is_addr d.from ≡ true
  pub from_name : IsUtf8 d.from_name
  pub to : list_all is_addr d.to ≡ true
  pub subject : IsUtf8 d.subject
  pub reply : IfSome d.reply (λ i. is_id i ≡ true)
  pub references : list_all is_id d.references ≡ true
  pub group : IfSome d.group (λ g. is_group g ≡ true)
  pub group_name : IsUtf8 (named_group d.group d.group_name)
  pub timer : d.timer < 2 ^ 32
  pub text : IsUtf8 d.text
  pub added : IfSome (added d.act) (λ a. is_addr a ≡ true)
  pub removed : IfSome (removed d.act) (λ a. is_addr a ≡ true)
  pub old_name : IfSome (old_name d.act) IsUtf8
  pub edited : IfSome (edited d.act) (λ i. is_id i ≡ true)
  pub deleted : list_all is_id (deleted d.act) ≡ true
  pub receipt_for : IfSome (receipt_for d.act) (λ i. is_id i ≡ true)

-- ---- numbers

digit_of_value : (c : ℕ) → digit_value c < 10 → is_ascii_digit c ≡ true
digit_of_value c lt = grind (arith, nat_tests)

digits_are : (cs : List ℕ) → AllDigits 10 cs → list_all is_ascii_digit cs ≡ true
digits_are [] all = refl
digits_are (c ∷ cs) all = and_from (is_ascii_digit c) (list_all is_ascii_digit cs) (digit_of_value c all.0) (digits_are cs all.1)

digit_printing : (c : ℕ) → is_ascii_digit c ≡ true → is_printing_byte c ≡ true
digit_printing c h = grind (arith, nat_tests)

pub decimal_digits : (n : ℕ) → n < 2 ^ 32 → list_all is_ascii_digit (decimal n) ≡ true
decimal_digits n lt = digits_are (decimal n) (decimal_is_IsNumeral n (omega arith)).0.1

-- ---- bodies

abbrev Fine : Option (List (List ℕ)) → Type 0
Fine body = lines_are body ≡ true

one_fine : (l : List ℕ) → is_printing l ≡ true → lines_are (Some (l ∷ [])) ≡ true
one_fine l h = and_from (is_printing l) true h refl

id_fine : (id : Option (List ℕ)) → IfSome id (λ i. is_id i ≡ true) → lines_are (id_body id) ≡ true
id_fine None h = refl
id_fine (Some i) h = one_fine (angle i) (angle_printing i (id_printing i h))

addr_fine : (addr : Option (List ℕ)) → IfSome addr (λ a. is_addr a ≡ true) → lines_are (addr_body addr) ≡ true
addr_fine None h = refl
addr_fine (Some a) h = one_fine a (addr_printing a h)

group_fine : (group : Option (List ℕ)) → IfSome group (λ g. is_group g ≡ true) → lines_are (addr_body group) ≡ true
group_fine None h = refl
group_fine (Some g) h = one_fine g (group_printing g h)

words_fine : (text : List ℕ) → IsUtf8 text → list_all is_printing (words text) ≡ true
words_fine text u = words_printing (pieces text) (are_pieces text u)

text_fine : (text : List ℕ) → IsUtf8 text → lines_are (text_body text) ≡ true
text_fine [] u = refl
text_fine (b ∷ bs) u = words_fine (b ∷ bs) u

old_fine : (name : Option (List ℕ)) → IfSome name IsUtf8 → lines_are (option_map words name) ≡ true
old_fine None u = refl
old_fine (Some name) u = words_fine name u

ids_fine : (is : List (List ℕ)) → list_all is_id is ≡ true → lines_are (ids_body is) ≡ true
ids_fine [] all = refl
ids_fine (i ∷ is) all = one_fine (angles_text (i ∷ is)) (angles_printing (i ∷ is) all)

timer_fine : (n : ℕ) → n < 2 ^ 32 → lines_are (timer_body n) ≡ true
timer_fine n lt = elim (cases_Bool (n == 0)) [
  | inl none ↦ rw none refl
  | inr some ↦ rw some (one_fine (decimal n) (all_of is_ascii_digit is_printing_byte digit_printing (decimal n) (decimal_digits n lt)))
]

type_fine : (receipt : Option (List ℕ)) → is_printing (type_of receipt) ≡ true
type_fine None = refl
type_fine (Some id) = refl

coding_fine : (receipt : Option (List ℕ)) → lines_are (coding_of receipt) ≡ true
coding_fine None = refl
coding_fine (Some id) = refl

ask_fine : (ask : Bool) (a : List ℕ) → is_addr a ≡ true → lines_are (if ask then Some (a ∷ []) else None) ≡ true
ask_fine true a h = one_fine a (addr_printing a h)
ask_fine false a h = refl

reaction_fine : (reacts : Bool) → lines_are (if reacts then Some (codes "reaction" ∷ []) else None) ≡ true
reaction_fine true = refl
reaction_fine false = refl

-- a list of slots, one after the other
record AreSlots (ss : List Slot) : Type 0 where
  pub all : list_all is_slot ss ≡ true

put : (name : List ℕ) (body : Option (List (List ℕ))) (ss : List Slot) → is_name name ≡ true → lines_are body ≡ true → AreSlots ss → AreSlots (slot name body ∷ ss)
put name body ss named fine rest =
    record { all = and_from (is_slot (slot name body)) (list_all is_slot ss) (and_from (is_name name) (lines_are body) named fine) rest.all }

none : AreSlots []
none = record { all = refl }

each : (d : Draft) → Keeps d → is_printing (date_text d.date) ≡ true → AreSlots (slots d)
each d k date =
    put _ _ _ refl (with_angle_printing (words d.from_name) d.from (words_fine d.from_name k.from_name) k.from)
    (put _ _ _ refl (recipients_printing d.to k.to)
    (put _ _ _ refl (one_fine (date_text d.date) date)
    (put _ _ _ refl (one_fine (angle d.id) (angle_printing d.id (id_printing d.id k.id)))
    (put _ _ _ refl (text_fine d.subject k.subject)
    (put _ _ _ refl (id_fine d.reply k.reply)
    (put _ _ _ refl (ids_fine d.references k.references)
    (put _ _ _ refl refl
    (put _ _ _ refl (group_fine d.group k.group)
    (put _ _ _ refl (text_fine (named_group d.group d.group_name) k.group_name)
    (put _ _ _ refl (addr_fine (added d.act) k.added)
    (put _ _ _ refl (addr_fine (removed d.act) k.removed)
    (put _ _ _ refl (old_fine (old_name d.act) k.old_name)
    (put _ _ _ refl (id_fine (edited d.act) k.edited)
    (put _ _ _ refl (ids_fine (deleted d.act) k.deleted)
    (put _ _ _ refl (timer_fine d.timer k.timer)
    (put _ _ _ refl (ask_fine d.ask d.from k.from)
    (put _ _ _ refl refl
    (put _ _ _ refl (one_fine (type_of (receipt_for d.act)) (type_fine (receipt_for d.act)))
    (put _ _ _ refl (reaction_fine (reacts d.act))
    (put _ _ _ refl (coding_fine (receipt_for d.act)) none))))))))))))))))))))

pub are_slots : (d : Draft) → Keeps d → is_printing (date_text d.date) ≡ true → list_all is_slot (slots d) ≡ true
are_slots d k date = (each d k date).all
