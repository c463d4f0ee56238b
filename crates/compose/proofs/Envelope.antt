-- What the fields of a written draft are read as.
use Rattle.std.proofs.Common.{◌≡◌, ℕ, ◌^◌, ◌<◌, ◌≤◌, ◌==◌, true, false, not, ◌&&◌, List, [], ◌∷◌, length, map, Option, Some, None, IfSome, refl, sym, ap, ◌∙◌, arith, inl, inr, ◌/◌, pos}
use Rattle.std.specs.Prelude.{codes, decimal, nat_le, nat_lt, is_some, option_map, slice_get, unwrap_or, if◌then◌else◌}
use Rattle.std.specs.Char.{is_ascii_digit}
use Rattle.std.specs.List.{list_all}
use Rattle.std.specs.Str.{IsUtf8, is_utf8, chars}
use Rattle.std.specs.Str.Lossy.{utf8_lossy, utf8_valid_len, utf8_error_len}
use Rattle.std.proofs.lemmas.Bool.{and_parts, and_from, cases_Bool, eqb-true, le-leb, lt-ltb}
use Rattle.std.proofs.lemmas.Bool.Decides.{nat_tests}
use Rattle.std.proofs.lemmas.Fmt.{decimal_is_IsNumeral, length-decimal-le}
use Rattle.card_type.specs.Groups.{is_group, is_group_byte}
use Rattle.jiff_core.specs.declared.civil.date.Date.{Date}
use Rattle.jiff_core.specs.Date.{epoch_day}
use Rattle.kit.specs.Moments.{last_moment}
use Rattle.kit.specs.Reading.{read_as}
use Rattle.kit.specs.Ids.{is_id}
use Rattle.kit.specs.Numbers.{number}
use Rattle.kit.specs.Options.{◌>>=◌}
use Rattle.kit.specs.White.{is_white}
use Rattle.encoded_words.specs.Runs.{decode_words}
use Rattle.mail_address.specs.declared.person.Person.{Person}
use Rattle.mail_address.specs.People.{people}
use Rattle.mail_date.specs.Moment.{moment}
use Rattle.mail_headers.specs.Headers.{Head, field, first_of, header_of}
use Rattle.mail_headers.specs.Ids.{ids}
use Rattle.compose.specs.declared.draft.Draft.{Draft}
use Rattle.compose.specs.Intended.{added, deleted, edited, old_name, one_or_none, receipt_for, named_group, removed}
use Rattle.compose.specs.Mails.{addr_body, id_body, ids_body, mail_of, slots, content_by, text_body, timer_body, type_of}
use Rattle.compose.specs.Written.{recipients, words}
use Rattle.compose.proofs.Bodies.{bytes_dark, id_back, ids_back, people_back, sender_back, text_back, unfolded-one}
use Rattle.compose.proofs.FieldsBack.{first_of-slots, is_alone, is_slot, slot_of, unfolded}
use Rattle.compose.proofs.PeopleBack.{is_open_addr, nobody, people-listed}
use Rattle.compose.proofs.Printings.{all_of}
use Rattle.compose.proofs.Trims.{is_dark, dark_all}
use Rattle.compose.proofs.DatesBack.{date_dark, moment-text, text_printing}
use Rattle.compose.specs.Dates.{date_text}
use Rattle.compose.proofs.Values.{Keeps, are_slots, decimal_digits}

-- nothing is decoded of nothing
decode_nothing : decode_words [] ≡ []
unfolding utf8_lossy utf8_valid_len utf8_error_len is_utf8 chars lib.Utf8.encode
decode_nothing = refl

abbrev pub head_of : Draft → Head
head_of d = header_of (mail_of d)

-- the body of a field that stands once: its slot is found by computing with the names
pub field_back : (d : Draft) (name : List ℕ) → list_all is_slot (slots d) ≡ true → is_alone (slots d) name ≡ true
    → first_of (head_of d) name ≡ option_map unfolded (slot_of (slots d) name)
field_back d name all alone = first_of-slots (slots d) (content_by d (receipt_for d.act)) name all alone

-- the same where a field that is missing is as an empty one
pub body_back : (d : Draft) (name : List ℕ) → list_all is_slot (slots d) ≡ true → is_alone (slots d) name ≡ true
    → field (head_of d) name ≡ unwrap_or (option_map unfolded (slot_of (slots d) name)) []
body_back d name all alone = ap (λ o. unwrap_or o []) (field_back d name all alone)

-- what is asked of a draft beside what its types keep: no address holds a bracket
pub record Open (d : Draft) : Type 0 where
  pub from : is_open_addr d.from ≡ true
  pub to : list_all is_open_addr d.to ≡ true
  pub added : IfSome (added d.act) (λ a. is_open_addr a ≡ true)
  pub removed : IfSome (removed d.act) (λ a. is_open_addr a ≡ true)

-- ---- bodies that may be left out

abbrev told : Option (List (List ℕ)) → List ℕ
told body = unwrap_or (option_map unfolded body) []

text_told : (text : List ℕ) → IsUtf8 text → decode_words (told (text_body text)) ≡ text
text_told [] u = decode_nothing
text_told (b ∷ bs) u = text_back b bs u

id_told : (id : Option (List ℕ)) → IfSome id (λ i. is_id i ≡ true) → ids (told (id_body id)) ≡ one_or_none id
id_told None h = refl
id_told (Some i) h = id_back i h

ids_told : (is : List (List ℕ)) → list_all is_id is ≡ true → ids (told (ids_body is)) ≡ is
ids_told [] all = refl
ids_told (i ∷ is) all = ids_back i is all

addr_told : (addr : Option (List ℕ)) → IfSome addr (λ a. is_open_addr a ≡ true) → option_map (λ p. p.addr) (slice_get (people (told (addr_body addr))) 0) ≡ addr
addr_told None h = ap (λ ps. option_map (λ p. p.addr) (slice_get ps 0)) (people-listed [] refl)
addr_told (Some a) h = ap (λ ps. option_map (λ p. p.addr) (slice_get ps 0)) (people_back a [] (and_from (is_open_addr a) true h refl))

group_byte_dark : (b : ℕ) → is_group_byte b ≡ true → not (is_white b) ≡ true
group_byte_dark b h = grind (arith, nat_tests)

group_told : (group : Option (List ℕ)) → IfSome group (λ g. is_group g ≡ true) → read_as is_group (told (addr_body group)) ≡ group
group_told None h = refl
group_told (Some []) h = absurd cc
group_told (Some (b ∷ g)) h =
    let dark = dark_all b g (all_of is_group_byte (λ b. not (is_white b)) group_byte_dark (b ∷ g) (and_parts _ _ h).1) in
    ap (read_as is_group) (unfolded-one (b ∷ g) dark) ∙ rw h refl

-- ---- the timer

abbrev timer_read : List ℕ → ℕ
timer_read body = unwrap_or (number 1 10 body >>= λ n. if nat_lt 0 n && nat_lt n (2 ^ 32) then Some n else None) 0

digit_dark : (b : ℕ) → is_ascii_digit b ≡ true → not (is_white b) ≡ true
digit_dark b h = grind (arith, nat_tests)

decimal_number : (n : ℕ) → n < 2 ^ 32 → number 1 10 (decimal n) ≡ Some n
decimal_number n lt =
    let is = decimal_is_IsNumeral n (omega arith) in
    let some : nat_le 1 (length (decimal n)) ≡ true = le-leb 1 (length (decimal n)) (omega (arith, is.0.0)) in
    let few : nat_le (length (decimal n)) 10 ≡ true = le-leb (length (decimal n)) 10 (length-decimal-le 10 n (omega arith) (omega arith) (omega arith)) in
    rw (some, few, decimal_digits n lt) (ap (λ v. Some v) is.1)

timer_some : (n : ℕ) → n < 2 ^ 32 → (n == 0) ≡ false → timer_read (unfolded (decimal n ∷ [])) ≡ n
timer_some n lt some =
    let is = decimal_is_IsNumeral n (omega arith) in
    let more : nat_lt 0 n ≡ true = lt-ltb 0 n (positive n some) in
    let less : nat_lt n (2 ^ 32) ≡ true = lt-ltb n (2 ^ 32) lt in
    ap timer_read (unfolded-one (decimal n) (bytes_dark (decimal n) is.0.0 (all_of is_ascii_digit (λ b. not (is_white b)) digit_dark (decimal n) (decimal_digits n lt))))
    ∙ ap (λ o. unwrap_or (o >>= λ n. if nat_lt 0 n && nat_lt n (2 ^ 32) then Some n else None) 0) (decimal_number n lt)
    ∙ rw (more, less) refl
  where
    positive : (n : ℕ) → (n == 0) ≡ false → 0 < n
    positive n h = grind (arith, nat_tests)

timer_told : (n : ℕ) → n < 2 ^ 32 → timer_read (told (timer_body n)) ≡ n
timer_told n lt = elim (cases_Bool (n == 0)) [
  | inl none ↦ rw none (sym (eqb-true n 0 none))
  | inr some ↦ rw some (timer_some n lt some)
]

-- ---- the fields of a draft, as they are read

pub record Reads (d : Draft) (head : Head) : Type 0 where
  pub from : people (field head (codes "From")) ≡ record { addr = d.from; name = d.from_name } ∷ []
  pub to : map (λ p. p.addr) (people (field head (codes "To"))) ≡ d.to
  pub cc : field head (codes "Cc") ≡ []
  pub id : ids (field head (codes "Message-ID")) ≡ d.id ∷ []
  pub date : moment (field head (codes "Date")) ≡ Some d.date
  pub subject : decode_words (field head (codes "Subject")) ≡ d.subject
  pub replies : ids (field head (codes "In-Reply-To")) ≡ one_or_none d.reply
  pub references : ids (field head (codes "References")) ≡ d.references
  pub chat : is_some (first_of head (codes "Chat-Version")) ≡ true
  pub group : read_as is_group (field head (codes "Chat-Group-ID")) ≡ d.group
  pub group_name : decode_words (field head (codes "Chat-Group-Name")) ≡ named_group d.group d.group_name
  pub added : option_map (λ p. p.addr) (slice_get (people (field head (codes "Chat-Group-Member-Added"))) 0) ≡ added d.act
  pub removed : option_map (λ p. p.addr) (slice_get (people (field head (codes "Chat-Group-Member-Removed"))) 0) ≡ removed d.act
  pub renamed : is_some (first_of head (codes "Chat-Group-Name-Changed")) ≡ is_some (old_name d.act)
  pub edited : ids (field head (codes "Chat-Edit")) ≡ one_or_none (edited d.act)
  pub deleted : ids (field head (codes "Chat-Delete")) ≡ deleted d.act
  pub timer : timer_read (field head (codes "Ephemeral-Timer")) ≡ d.timer
  pub type : field head (codes "Content-Type") ≡ type_of (receipt_for d.act)

same_people : (to : List (List ℕ)) → map (λ (p : Person). p.addr) (map nobody to) ≡ to
same_people [] = refl
same_people (a ∷ more) = ap (λ (xs : List (List ℕ)). a ∷ xs) (same_people more)

some_to : (to : List (List ℕ)) → 0 < length to → list_all is_open_addr to ≡ true → people (unfolded (recipients to)) ≡ map nobody to
some_to [] some all = absurd (omega arith)
some_to (a ∷ more) some all = people_back a more all

renamed_is : (name : Option (List ℕ)) → is_some (option_map unfolded (option_map words name)) ≡ is_some name
renamed_is None = refl
renamed_is (Some name) = refl

type_dark : (receipt : Option (List ℕ)) → is_dark (type_of receipt) ≡ true
type_dark None = refl
type_dark (Some id) = refl

pub reads : (d : Draft) (day : Date) → epoch_day day ≡ pos (d.date / 86400) → d.date ≤ last_moment → 0 < length d.to → Keeps d → Open d → Reads d (head_of d)
reads d day e le some k o =
    let all = are_slots d k (text_printing day d.date e) in
    record {
      from = ap people (body_back d (codes "From") all refl) ∙ sender_back d.from_name d.from k.from_name o.from;
      to = ap (λ bytes. map (λ p. p.addr) (people bytes)) (body_back d (codes "To") all refl) ∙ ap (map (λ p. p.addr)) (some_to d.to some o.to) ∙ same_people d.to;
      cc = body_back d (codes "Cc") all refl;
      id = ap ids (body_back d (codes "Message-ID") all refl) ∙ id_back d.id k.id;
      date = ap moment (body_back d (codes "Date") all refl ∙ unfolded-one (date_text d.date) (date_dark d.date)) ∙ moment-text day d.date e le;
      subject = ap decode_words (body_back d (codes "Subject") all refl) ∙ text_told d.subject k.subject;
      replies = ap ids (body_back d (codes "In-Reply-To") all refl) ∙ id_told d.reply k.reply;
      references = ap ids (body_back d (codes "References") all refl) ∙ ids_told d.references k.references;
      chat = ap is_some (field_back d (codes "Chat-Version") all refl);
      group = ap (read_as is_group) (body_back d (codes "Chat-Group-ID") all refl) ∙ group_told d.group k.group;
      group_name = ap decode_words (body_back d (codes "Chat-Group-Name") all refl) ∙ text_told (named_group d.group d.group_name) k.group_name;
      added = ap (λ bytes. option_map (λ p. p.addr) (slice_get (people bytes) 0)) (body_back d (codes "Chat-Group-Member-Added") all refl) ∙ addr_told (added d.act) o.added;
      removed = ap (λ bytes. option_map (λ p. p.addr) (slice_get (people bytes) 0)) (body_back d (codes "Chat-Group-Member-Removed") all refl) ∙ addr_told (removed d.act) o.removed;
      renamed = ap is_some (field_back d (codes "Chat-Group-Name-Changed") all refl) ∙ renamed_is (old_name d.act);
      edited = ap ids (body_back d (codes "Chat-Edit") all refl) ∙ id_told (edited d.act) k.edited;
      deleted = ap ids (body_back d (codes "Chat-Delete") all refl) ∙ ids_told (deleted d.act) k.deleted;
      timer = ap timer_read (body_back d (codes "Ephemeral-Timer") all refl) ∙ timer_told d.timer k.timer;
      type = body_back d (codes "Content-Type") all refl ∙ unfolded-one (type_of (receipt_for d.act)) (type_dark (receipt_for d.act));
    }
