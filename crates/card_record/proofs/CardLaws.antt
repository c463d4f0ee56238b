-- The record of a card is read as it is spelled: one line for each field.
use Rattle.std.proofs.Common.{◌≡◌, ℕ, suc, ◌-◌, ◌^◌, ◌<◌, ◌≤◌, Bool, true, false, cond, eqb, List, [], ◌∷◌, ◌++◌, length, Option, Some, None, Result, Ok, Err, refl, sym, ap, subst, ◌∙◌, append_assoc, arith, inl, inr}
use Rattle.std.specs.Prelude.{⊤, is_some, not, ◌&&◌, ◌||◌, nat_le, nat_lt}
use Rattle.std.specs.Int.{w32, w64}
use Rattle.std.specs.Cmp.Lexicographic.{nat_list_eq_equiv}
use Rattle.std.specs.List.{concat, list_all, list_any}
use Rattle.std.specs.Str.{is_utf8, bytes_eq}
use Rattle.std.proofs.lemmas.Bool.{and_parts, and_from, eqb-true, le-leb}
use Rattle.std.proofs.lemmas.Bool.Decides.{nat_tests}
use Rattle.std.proofs.lemmas.List.{length-append, append-nil}
use Rattle.std.proofs.lemmas.List.Folds.{list_any-append, concat-append}
use Rattle.kit.specs.Addresses.{is_addr}
use Rattle.kit.specs.Ids.{is_id}
use Rattle.kit.specs.Moments.{last_moment}
use Rattle.lists.specs.Distinct.{are_distinct}
use Rattle.card_type.specs.Effects.{is_among}
use Rattle.card_type.specs.Groups.{is_group}
use Rattle.card_type.specs.Records as records
use Rattle.card_type.specs.Rules.{where_some, is_attachment, is_utf8_payload, is_nonempty_payload, is_utf8_update, is_nonempty_update, is_update, is_short, fits_weight, keeps_bounds, is_envelope, is_requests, is_shown, is_valid}
use Rattle.card_type.specs.declared.card.Attachment.{Attachment}
use Rattle.card_type.specs.declared.card.Payload.{Payload}
use Rattle.card_type.specs.declared.card.Payload.TheVariants.{Absent, Json, Hidden}
use Rattle.card_type.specs.declared.card.Update.{Update}
use Rattle.card_type.specs.declared.card.Card.{Card}
use Rattle.card_record.specs.declared.card.Envelope.{Envelope}
use Rattle.card_record.specs.declared.card.Requests.{Requests}
use Rattle.card_record.specs.declared.card.Said.{Said}
use Rattle.card_record.specs.declared.card.Shown.{Shown}
use Rattle.card_record.specs.Reading.{◌>>=◌, Read, number_at, block_of, moment_at, opt_of, list_of, is_text_within, new_addr, attachment_at, payload_at, update_at}
use Rattle.card_record.specs.Cards.{envelope_at, requests_at, app_at, reaction_at, said_at, shown_at, later_at, fields_at, record_at, joined}
use Rattle.card_record.specs.Spelling.{IsBytes}
use Rattle.card_record.proofs.FieldLaws.{IsRead, IsPart, Each, IfThere, Takes, Takes-then, bind_ok, chosen, ok_is, then_field, all_fields, part_law, law_as, number_law, wide32, wide64, block_law, ruled_law, flag_law, flag_some, opt_law, list_law}

-- ---- values that keep a rule

abbrev Keeps : {X : Type 0} → (X → Bool) → X → Type 0
Keeps rule x = rule x ≡ true

module _ {X : Type 0} (rule : X → Bool) where
  each_keeps : (front xs : List X) → list_all rule xs ≡ true → Each (λ _. Keeps rule) front xs
  each_keeps front [] h = tt
  each_keeps front (x ∷ xs) h = let p = and_parts (rule x) (list_all rule xs) h in (p.0, each_keeps (front ++ x ∷ []) xs p.1)

  all_keep : (front xs : List X) → Each (λ _. Keeps rule) front xs → list_all rule xs ≡ true
  all_keep front [] e = refl
  all_keep front (x ∷ xs) e = and_from (rule x) (list_all rule xs) e.0 (all_keep (front ++ x ∷ []) xs e.1)

  some_keeps : (o : Option X) → where_some rule o ≡ true → IfThere (Keeps rule) o
  some_keeps None h = tt
  some_keeps (Some x) h = h

  keeps_some : (o : Option X) → IfThere (Keeps rule) o → where_some rule o ≡ true
  keeps_some None h = refl
  keeps_some (Some x) h = h

  module _ (spell : X → List ℕ) (read : List ℕ → Read X) (law : IsRead spell (Keeps rule) read) where
    pub values_law : IsRead (records.list spell) (λ xs. list_all rule xs ≡ true) (list_of (λ _. read))
    values_law = law_as _ _ _ _ _ (list_law spell (λ _. Keeps rule) (λ _. read) (λ _. law)) (λ xs. refl) (λ xs e. all_keep [] xs e) (λ xs h small. each_keeps [] xs h)

    pub option_law : IsRead (records.opt spell) (λ o. where_some rule o ≡ true) (opt_of read)
    option_law = law_as _ _ _ _ _ (opt_law spell (Keeps rule) read law) (λ o. refl) keeps_some (λ o h small. some_keeps o h)

-- ---- moments

small_moment : (n : ℕ) → nat_le n last_moment ≡ true → n < 2 ^ 64
small_moment n h = grind (arith, nat_tests)

pub moment_law : IsRead records.b64 (λ n. nat_le n last_moment ≡ true) moment_at
unfolding moment_at
moment_law = law_as _ _ _ _ _ (ruled_law records.b64 (λ n. n < 2 ^ 64) (number_at w64) (λ n. nat_le n last_moment) (number_law w64 (2 ^ 64) wide64))
    (λ n. refl) (λ n f. f.1) (λ n h small. (small_moment n h, h))

-- ---- addresses of which none is twice

abbrev IsNew : List (List ℕ) → List ℕ → Type 0
IsNew front addr = (is_addr addr ≡ true) × (not (is_among front addr) ≡ true)

new_law : (front : List (List ℕ)) → IsRead records.block (IsNew front) (new_addr front)
unfolding new_addr
new_law front = ruled_law records.block (λ addr. is_addr addr ≡ true) (block_of is_addr) (λ addr. not (is_among front addr)) (block_law is_addr)

-- either side says that three are alike nowhere
regroup : (a b c d : Bool) → (not (a || (b || false)) && (c && not d)) ≡ ((not a && c) && not (b || d))
regroup true b c d = refl
regroup false true true d = refl
regroup false true false d = refl
regroup false false c d = refl

distinct_last : (front : List (List ℕ)) (x : List ℕ) → are_distinct (front ++ x ∷ []) ≡ (are_distinct front && not (is_among front x))
distinct_last [] x = refl
distinct_last (y ∷ ys) x =
    let any = list_any-append (bytes_eq y) ys (x ∷ []) in
    ap (λ b. not b && are_distinct (ys ++ x ∷ [])) any
    ∙ ap (λ b. not (list_any (bytes_eq y) ys || (bytes_eq y x || false)) && b) (distinct_last ys x)
    ∙ regroup (list_any (bytes_eq y) ys) (bytes_eq y x) (are_distinct ys) (is_among ys x)
    ∙ ap (λ b. (not (list_any (bytes_eq y) ys) && are_distinct ys) && not (b || is_among ys x)) (nat_list_eq_equiv.symm y x)

none_front : (a b : Bool) → not (a || b) ≡ true → not a ≡ true
none_front true b h = h
none_front false b h = refl

distinct_front : (front xs : List (List ℕ)) → are_distinct (front ++ xs) ≡ true → are_distinct front ≡ true
distinct_front [] xs d = refl
distinct_front (y ∷ ys) xs d =
    let p = and_parts (not (list_any (bytes_eq y) (ys ++ xs))) (are_distinct (ys ++ xs)) d in
    and_from _ _ (none_front (list_any (bytes_eq y) ys) (list_any (bytes_eq y) xs) (ap not (sym (list_any-append (bytes_eq y) ys xs)) ∙ p.0)) (distinct_front ys xs p.1)

new_each : (front xs : List (List ℕ)) → are_distinct front ≡ true → Each IsNew front xs → (list_all is_addr xs ≡ true) × (are_distinct (front ++ xs) ≡ true)
new_each front [] d e = (refl, ap are_distinct (append-nil front) ∙ d)
new_each front (x ∷ xs) d e =
    let last = distinct_last front x ∙ and_from _ _ d e.0.1 in
    let more = new_each (front ++ x ∷ []) xs last e.1 in
    (and_from (is_addr x) (list_all is_addr xs) e.0.0 more.0, ap are_distinct (sym (append_assoc front (x ∷ []) xs)) ∙ more.1)

each_new : (front xs : List (List ℕ)) → list_all is_addr xs ≡ true → are_distinct (front ++ xs) ≡ true → Each IsNew front xs
each_new front [] a d = tt
each_new front (x ∷ xs) a d =
    let p = and_parts (is_addr x) (list_all is_addr xs) a in
    let whole = ap are_distinct (append_assoc front (x ∷ []) xs) ∙ d in
    let q = and_parts (are_distinct front) (not (is_among front x)) (sym (distinct_last front x) ∙ distinct_front (front ++ x ∷ []) xs whole) in
    ((p.0, q.1), each_new (front ++ x ∷ []) xs p.1 whole)

people_law : IsRead (records.list records.block) (λ xs. (list_all is_addr xs ≡ true) × (are_distinct xs ≡ true)) (list_of new_addr)
people_law = law_as _ _ _ _ _ (list_law records.block IsNew new_addr new_law) (λ xs. refl) (λ xs e. new_each [] xs refl e) (λ xs h small. each_new [] xs h.0 h.1)

-- ---- files and updates

attachment_spelled : (a : Attachment) → records.block a.kind ++ (records.block a.name ++ (records.b64 a.size ++ [])) ≡ records.attachment a
attachment_spelled a = simp (append-nil, append_assoc)

attachment_part : IsPart (λ (a : Attachment). ⊤) (λ a. records.block a.kind ++ (records.block a.name ++ (records.b64 a.size ++ [])))
    (λ a. (is_utf8 a.kind ≡ true) × ((is_utf8 a.name ≡ true) × ((a.size < 2 ^ 64) × ⊤))) attachment_at
unfolding attachment_at
attachment_part =
    then_field _ _ _ (block_law is_utf8) (λ a. a.kind) _ _ _ _ (λ kind.
    then_field _ _ _ (block_law is_utf8) (λ a. a.name) _ _ _ _ (λ name.
    then_field _ _ _ (number_law w64 (2 ^ 64) wide64) (λ a. a.size) _ _ _ _ (λ size.
    all_fields _ (record { kind = kind; name = name; size = size }) (((tt, refl), refl), refl)
    (λ y k i. record { kind = k.0.0.1 i; name = k.0.1 i; size = k.1 i }))))

is_wide : (n : ℕ) → n < 2 ^ 64 → nat_lt n (2 ^ 64) ≡ true
is_wide n lt = grind (arith, nat_tests)

is_below : (n m : ℕ) → nat_lt n m ≡ true → n < m
is_below n m h = grind (arith, nat_tests)

attachment_law : IsRead records.attachment (Keeps is_attachment) attachment_at
attachment_law = law_as _ _ _ _ _ (part_law _ records.attachment _ _ attachment_part attachment_spelled (λ a. omega arith)) (λ a. refl)
    (λ a f. and_from _ _ (and_from _ _ f.0 f.1.0) (is_wide a.size f.1.1.0))
    (λ a h small. let p = and_parts _ _ h in let q = and_parts _ _ p.0 in (q.0, (q.1, (is_below a.size (2 ^ 64) p.1, tt))))

abbrev is_payload : Payload → Bool
is_payload p = is_utf8_payload p && is_nonempty_payload p

abbrev json : List ℕ → Read Payload
json bytes = block_of (is_text_within 1 (2 ^ 64 - 1)) bytes >>= λ text. Ok (Json text.0, text.1)

abbrev hidden : ℕ → List ℕ → Read Payload
hidden n bytes = cond (eqb n 2) (Ok (Hidden, bytes)) (Err (suc (length bytes)))

abbrev done : {A : Type 0} → A → Result A ℕ
done x = Ok x

full_text : (text : List ℕ) → is_text_within 1 (2 ^ 64 - 1) text ≡ true → is_payload (Json text) ≡ true
full_text text h =
    let p = and_parts (is_utf8 text && nat_le 1 (length text)) (nat_le (length text) (2 ^ 64 - 1)) h in
    let q = and_parts (is_utf8 text) (nat_le 1 (length text)) p.0 in
    and_from (is_utf8 text) (nat_lt 0 (length text)) q.0 q.1

text_full : (text : List ℕ) → is_payload (Json text) ≡ true → length text < 2 ^ 32 → is_text_within 1 (2 ^ 64 - 1) text ≡ true
text_full text h small =
    let p = and_parts (is_utf8 text) (nat_lt 0 (length text)) h in
    and_from (is_utf8 text && nat_le 1 (length text)) (nat_le (length text) (2 ^ 64 - 1)) (and_from (is_utf8 text) (nat_le 1 (length text)) p.0 p.1)
    (le-leb (length text) (2 ^ 64 - 1) (omega arith))

abbrev Spelled : List ℕ → Payload × List ℕ → Type 0
Spelled bytes q = Takes bytes (records.payload q.0) q.1 × (is_payload q.0 ≡ true)

payload_takes : (bytes : List ℕ) (p : Payload) (rest : List ℕ) → IsBytes bytes → payload_at bytes ≡ Ok (p, rest) → Spelled bytes (p, rest)
unfolding payload_at
payload_takes [] p rest fits e = absurd cc
payload_takes (n ∷ bytes) p rest fits e =
    let more = λ (i : ℕ). fits (suc i) in
    let first = λ (k : ℕ) (is : eqb n k ≡ true). the_first n k bytes more is in
    elim (chosen (eqb n 0) (done (Absent, bytes)) (cond (eqb n 1) (json bytes) (hidden n bytes)) (done (p, rest)) e) [
      | inl h ↦ subst (Spelled (n ∷ bytes)) (ok_is (Absent, bytes) (p, rest) h.1) (first 0 h.0, refl)
      | inr h ↦ elim (chosen (eqb n 1) (json bytes) (hidden n bytes) (done (p, rest)) h.1) [
        | inl k ↦
            let b = bind_ok (block_of (is_text_within 1 (2 ^ 64 - 1)) bytes) (λ text. done (Json text.0, text.1)) (p, rest) k.1 in
            let t = (block_law (is_text_within 1 (2 ^ 64 - 1))).takes bytes b.0.0 b.0.1 more b.1 in
            subst (Spelled (n ∷ bytes)) (ok_is (Json b.0.0, b.0.1) (p, rest) b.2)
            (Takes-then (n ∷ bytes) (1 ∷ []) bytes (records.block b.0.0) b.0.1 (first 1 k.0) t.0, full_text b.0.0 t.1)
        | inr k ↦ elim (chosen (eqb n 2) (done (Hidden, bytes)) (Err (suc (length bytes))) (done (p, rest)) k.1) [
          | inl j ↦ subst (Spelled (n ∷ bytes)) (ok_is (Hidden, bytes) (p, rest) j.1) (first 2 j.0, refl)
          | inr j ↦ let wrong = j.1 in absurd cc
        ]
      ]
    ]
  where
    the_first : (n k : ℕ) (bytes : List ℕ) → IsBytes bytes → eqb n k ≡ true → Takes (n ∷ bytes) (k ∷ []) bytes
    the_first n k bytes more is = record { parts = ap (λ (b : ℕ). b ∷ bytes) (eqb-true n k is); rest_fits = more }

payload_again : (p : Payload) (rest : List ℕ) → is_payload p ≡ true → length (records.payload p) < 2 ^ 32 → payload_at (records.payload p ++ rest) ≡ Ok (p, rest)
unfolding payload_at
payload_again Absent rest h small = refl
payload_again (Json text) rest h small =
    rw ((block_law (is_text_within 1 (2 ^ 64 - 1))).again text rest (text_full text h (omega (arith, small))) (omega (arith, small))) refl
payload_again Hidden rest h small = refl

payload_some : (p : Payload) → 1 ≤ length (records.payload p)
payload_some Absent = omega arith
payload_some (Json text) = omega arith
payload_some Hidden = omega arith

payload_law : IsRead records.payload (λ p. is_payload p ≡ true) payload_at
payload_law = record { some = payload_some; takes = payload_takes; again = payload_again }

longer : (a b : List ℕ) → 1 ≤ length a → 1 ≤ length (a ++ b)
longer a b h = omega (arith, length-append a b)

text_opt_law : IsRead (records.opt records.block) (λ o. where_some is_utf8 o ≡ true) (opt_of (block_of is_utf8))
text_opt_law = option_law is_utf8 records.block (block_of is_utf8) (block_law is_utf8)

update_spelled : (u : Update) → records.payload u.payload ++ (records.opt records.block u.info ++ (records.opt records.block u.document ++ (records.opt records.block u.summary ++ []))) ≡ records.update u
update_spelled u = simp (append-nil, append_assoc)

update_part : IsPart (λ (u : Update). ⊤) (λ u. records.payload u.payload ++ (records.opt records.block u.info ++ (records.opt records.block u.document ++ (records.opt records.block u.summary ++ []))))
    (λ u. (is_payload u.payload ≡ true) × ((where_some is_utf8 u.info ≡ true) × ((where_some is_utf8 u.document ≡ true) × ((where_some is_utf8 u.summary ≡ true) × ⊤)))) update_at
unfolding update_at
update_part =
    then_field _ _ _ payload_law (λ u. u.payload) _ _ _ _ (λ payload.
    then_field _ _ _ text_opt_law (λ u. u.info) _ _ _ _ (λ info.
    then_field _ _ _ text_opt_law (λ u. u.document) _ _ _ _ (λ document.
    then_field _ _ _ text_opt_law (λ u. u.summary) _ _ _ _ (λ summary.
    all_fields _ (record { payload = payload; info = info; document = document; summary = summary }) ((((tt, refl), refl), refl), refl)
    (λ y k i. record { payload = k.0.0.0.1 i; info = k.0.0.1 i; document = k.0.1 i; summary = k.1 i })))))

update_law : IsRead records.update (Keeps is_update) update_at
update_law = law_as _ _ _ _ _ (part_law _ records.update _ _ update_part update_spelled (λ u. longer _ _ (longer _ _ (longer (records.payload u.payload) _ (payload_some u.payload))))) (λ u. refl)
    (λ u f. let p = and_parts _ _ f.0 in and_from _ _ (and_from _ _ (and_from _ _ (and_from _ _ p.0 f.1.0) f.1.1.0) f.1.1.1.0) p.1)
    (λ u h small.
    let p = and_parts _ _ h in let q = and_parts _ _ p.0 in let r = and_parts _ _ q.0 in let s = and_parts _ _ r.0 in
    (and_from _ _ s.0 p.1, (s.1, (r.1, (q.1, tt)))))

-- ---- the parts of a card

ids_law : IsRead (records.list records.block) (λ xs. list_all is_id xs ≡ true) (list_of (λ _. block_of is_id))
ids_law = values_law is_id records.block (block_of is_id) (block_law is_id)

date_law : IsRead (records.opt records.b64) (λ o. where_some (λ n. nat_le n last_moment) o ≡ true) (opt_of moment_at)
date_law = option_law (λ n. nat_le n last_moment) records.b64 moment_at moment_law

addr_opt_law : IsRead (records.opt records.block) (λ o. where_some is_addr o ≡ true) (opt_of (block_of is_addr))
addr_opt_law = option_law is_addr records.block (block_of is_addr) (block_law is_addr)

id_opt_law : IsRead (records.opt records.block) (λ o. where_some is_id o ≡ true) (opt_of (block_of is_id))
id_opt_law = option_law is_id records.block (block_of is_id) (block_law is_id)

abbrev ArePeople : List (List ℕ) → Type 0
ArePeople xs = (list_all is_addr xs ≡ true) × (are_distinct xs ≡ true)

abbrev envelope_spelled : Envelope → List ℕ
envelope_spelled e =
    records.block e.id ++ (records.block e.from ++ (records.block e.from_name ++ (records.list records.block e.to ++ (records.list records.block e.cc
    ++ (records.opt records.b64 e.date ++ (records.list records.block e.replies ++ (records.list records.block e.references ++ [])))))))

abbrev FitsEnvelope : Envelope → Type 0
FitsEnvelope e =
    (is_id e.id ≡ true) × ((is_addr e.from ≡ true) × ((is_utf8 e.from_name ≡ true) × (ArePeople e.to × (ArePeople e.cc
    × ((where_some (λ n. nat_le n last_moment) e.date ≡ true) × ((list_all is_id e.replies ≡ true) × ((list_all is_id e.references ≡ true) × ⊤)))))))

envelope_part : IsPart (λ (e : Envelope). ⊤) envelope_spelled FitsEnvelope envelope_at
unfolding envelope_at
envelope_part =
    then_field _ _ _ (block_law is_id) (λ e. e.id) _ _ _ _ (λ id.
    then_field _ _ _ (block_law is_addr) (λ e. e.from) _ _ _ _ (λ from.
    then_field _ _ _ (block_law is_utf8) (λ e. e.from_name) _ _ _ _ (λ from_name.
    then_field _ _ _ people_law (λ e. e.to) _ _ _ _ (λ to.
    then_field _ _ _ people_law (λ e. e.cc) _ _ _ _ (λ cc.
    then_field _ _ _ date_law (λ e. e.date) _ _ _ _ (λ date.
    then_field _ _ _ ids_law (λ e. e.replies) _ _ _ _ (λ replies.
    then_field _ _ _ ids_law (λ e. e.references) _ _ _ _ (λ references.
    all_fields _ (record { id = id; from = from; from_name = from_name; to = to; cc = cc; date = date; replies = replies; references = references })
    ((((((((tt, refl), refl), refl), refl), refl), refl), refl), refl)
    (λ y k i. record { id = k.0.0.0.0.0.0.0.1 i; from = k.0.0.0.0.0.0.1 i; from_name = k.0.0.0.0.0.1 i; to = k.0.0.0.0.1 i; cc = k.0.0.0.1 i; date = k.0.0.1 i; replies = k.0.1 i; references = k.1 i })))))))))

envelope_law : IsRead envelope_spelled FitsEnvelope envelope_at
envelope_law = part_law _ envelope_spelled _ _ envelope_part (λ e. refl) (λ e. omega arith)

abbrev requests_spelled : Requests → List ℕ
requests_spelled r =
    records.flag r.chat ++ (records.opt records.block r.group ++ (records.block r.group_name ++ (records.opt records.block r.added ++ (records.opt records.block r.removed
    ++ (records.flag r.renamed ++ (records.opt records.block r.edit ++ (records.list records.block r.deletes ++ (records.b32 r.timer ++ []))))))))

abbrev FitsRequests : Requests → Type 0
FitsRequests r =
    ⊤ × ((where_some is_group r.group ≡ true) × ((is_utf8 r.group_name ≡ true) × ((where_some is_addr r.added ≡ true) × ((where_some is_addr r.removed ≡ true)
    × (⊤ × ((where_some is_id r.edit ≡ true) × ((list_all is_id r.deletes ≡ true) × ((r.timer < 2 ^ 32) × ⊤))))))))

requests_part : IsPart (λ (r : Requests). ⊤) requests_spelled FitsRequests requests_at
unfolding requests_at
requests_part =
    then_field _ _ _ flag_law (λ r. r.chat) _ _ _ _ (λ chat.
    then_field _ _ _ (option_law is_group records.block (block_of is_group) (block_law is_group)) (λ r. r.group) _ _ _ _ (λ group.
    then_field _ _ _ (block_law is_utf8) (λ r. r.group_name) _ _ _ _ (λ group_name.
    then_field _ _ _ addr_opt_law (λ r. r.added) _ _ _ _ (λ added.
    then_field _ _ _ addr_opt_law (λ r. r.removed) _ _ _ _ (λ removed.
    then_field _ _ _ flag_law (λ r. r.renamed) _ _ _ _ (λ renamed.
    then_field _ _ _ id_opt_law (λ r. r.edit) _ _ _ _ (λ edit.
    then_field _ _ _ ids_law (λ r. r.deletes) _ _ _ _ (λ deletes.
    then_field _ _ _ (number_law w32 (2 ^ 32) wide32) (λ r. r.timer) _ _ _ _ (λ timer.
    all_fields _ (record { chat = chat; group = group; group_name = group_name; added = added; removed = removed; renamed = renamed; edit = edit; deletes = deletes; timer = timer })
    (((((((((tt, refl), refl), refl), refl), refl), refl), refl), refl), refl)
    (λ y k i. record { chat = k.0.0.0.0.0.0.0.0.1 i; group = k.0.0.0.0.0.0.0.1 i; group_name = k.0.0.0.0.0.0.1 i; added = k.0.0.0.0.0.1 i; removed = k.0.0.0.0.1 i; renamed = k.0.0.0.1 i; edit = k.0.0.1 i; deletes = k.0.1 i; timer = k.1 i }))))))))))

requests_law : IsRead requests_spelled FitsRequests requests_at
requests_law = part_law _ requests_spelled _ _ requests_part (λ r. refl) (λ r. longer (records.flag r.chat) _ (flag_some r.chat))

-- ---- what is said to an app, and the reaction: the code of the app says whether the reaction stands

abbrev app_spelled : Bool × Bool → List ℕ
app_spelled a = records.b8 (records.app_code a.0 a.1)

abbrev code_2 : ℕ → List ℕ → Read (Bool × Bool)
code_2 n bytes = cond (eqb n 2) (Ok ((false, true), bytes)) (cond (eqb n 3) (Ok ((true, true), bytes)) (Err (suc (length bytes))))

abbrev Coded : List ℕ → (Bool × Bool) × List ℕ → Type 0
Coded bytes p = Takes bytes (app_spelled p.0) p.1

app_takes : (bytes : List ℕ) (a : Bool × Bool) (rest : List ℕ) → IsBytes bytes → app_at bytes ≡ Ok (a, rest) → Coded bytes (a, rest)
unfolding app_at
app_takes [] a rest fits e = absurd cc
app_takes (n ∷ bytes) a rest fits e =
    let more = λ (i : ℕ). fits (suc i) in
    let first = λ (k : ℕ) (is : eqb n k ≡ true). the_code n k bytes more is in
    elim (chosen (eqb n 0) (done ((false, false), bytes)) (cond (eqb n 1) (done ((true, false), bytes)) (code_2 n bytes)) (done (a, rest)) e) [
      | inl h ↦ subst (Coded (n ∷ bytes)) (ok_is ((false, false), bytes) (a, rest) h.1) (first 0 h.0)
      | inr h ↦ elim (chosen (eqb n 1) (done ((true, false), bytes)) (code_2 n bytes) (done (a, rest)) h.1) [
        | inl k ↦ subst (Coded (n ∷ bytes)) (ok_is ((true, false), bytes) (a, rest) k.1) (first 1 k.0)
        | inr k ↦ elim (chosen (eqb n 2) (done ((false, true), bytes)) (cond (eqb n 3) (done ((true, true), bytes)) (Err (suc (length bytes)))) (done (a, rest)) k.1) [
          | inl j ↦ subst (Coded (n ∷ bytes)) (ok_is ((false, true), bytes) (a, rest) j.1) (first 2 j.0)
          | inr j ↦ elim (chosen (eqb n 3) (done ((true, true), bytes)) (Err (suc (length bytes))) (done (a, rest)) j.1) [
            | inl i ↦ subst (Coded (n ∷ bytes)) (ok_is ((true, true), bytes) (a, rest) i.1) (first 3 i.0)
            | inr i ↦ let wrong = i.1 in absurd cc
          ]
        ]
      ]
    ]
  where
    the_code : (n k : ℕ) (bytes : List ℕ) → IsBytes bytes → eqb n k ≡ true → Takes (n ∷ bytes) (k ∷ []) bytes
    the_code n k bytes more is = record { parts = ap (λ (b : ℕ). b ∷ bytes) (eqb-true n k is); rest_fits = more }

app_again : (app reaction : Bool) (rest : List ℕ) → app_at (app_spelled (app, reaction) ++ rest) ≡ Ok ((app, reaction), rest)
unfolding app_at
app_again false false rest = refl
app_again true false rest = refl
app_again false true rest = refl
app_again true true rest = refl

abbrev is_reaction : List ℕ → Bool
is_reaction text = is_text_within 0 255 text

abbrev Reacted : Bool → List ℕ → Option (List ℕ) × List ℕ → Type 0
Reacted stands bytes p = Takes bytes (records.reaction p.0) p.1 × ((where_some is_reaction p.0 ≡ true) × (is_some p.0 ≡ stands))

reaction_takes : (stands : Bool) (bytes : List ℕ) (o : Option (List ℕ)) (rest : List ℕ) → IsBytes bytes → reaction_at stands bytes ≡ Ok (o, rest) → Reacted stands bytes (o, rest)
reaction_takes false bytes o rest fits e = subst (Reacted false bytes) (ok_is (None, bytes) (o, rest) e) (record { parts = refl; rest_fits = fits }, (refl, refl))
reaction_takes true bytes o rest fits e =
    let b = bind_ok (block_of is_reaction bytes) (λ text. done (Some text.0, text.1)) (o, rest) e in
    let t = (block_law is_reaction).takes bytes b.0.0 b.0.1 fits b.1 in
    subst (Reacted true bytes) (ok_is (Some b.0.0, b.0.1) (o, rest) b.2) (t.0, (t.1, refl))

reaction_again : (o : Option (List ℕ)) (rest : List ℕ) → where_some is_reaction o ≡ true → length (records.reaction o) < 2 ^ 32
    → reaction_at (is_some o) (records.reaction o ++ rest) ≡ Ok (o, rest)
reaction_again None rest h small = refl
reaction_again (Some text) rest h small = rw ((block_law is_reaction).again text rest h small) refl

updates_law : IsRead (records.list records.update) (λ us. list_all is_update us ≡ true) (list_of (λ _. update_at))
updates_law = values_law is_update records.update update_at update_law

abbrev said_parts : Said → List ℕ
said_parts s = app_spelled (s.app, is_some s.reaction) ++ (records.list records.update s.updates ++ records.reaction s.reaction)

abbrev said_spelled : Said → List ℕ
said_spelled s = app_spelled (s.app, is_some s.reaction) ++ (records.list records.update s.updates ++ (records.reaction s.reaction ++ []))

abbrev FitsSaid : Said → Type 0
FitsSaid s = (list_all is_update s.updates ≡ true) × (where_some is_reaction s.reaction ≡ true)

said_takes : (bytes : List ℕ) (s : Said) (rest : List ℕ) → IsBytes bytes → said_at bytes ≡ Ok (s, rest) → Takes bytes (said_parts s) rest × FitsSaid s
unfolding said_at
said_takes bytes s rest fits e =
    let a = bind_ok (app_at bytes) _ (s, rest) e in
    let b = bind_ok (list_of (λ _. update_at) a.0.1) _ (s, rest) a.2 in
    let c = bind_ok (reaction_at a.0.0.1 b.0.1) _ (s, rest) b.2 in
    let p : Takes bytes (app_spelled a.0.0) a.0.1 = app_takes bytes a.0.0 a.0.1 fits a.1 in
    let q = updates_law.takes a.0.1 b.0.0 b.0.1 p.rest_fits b.1 in
    let r = reaction_takes a.0.0.1 b.0.1 c.0.0 c.0.1 q.0.rest_fits c.1 in
    let named : Takes bytes (app_spelled (a.0.0.0, is_some c.0.0)) a.0.1 = subst (λ (stands : Bool). Takes bytes (app_spelled (a.0.0.0, stands)) a.0.1) (sym r.1.1) p in
    let last = Takes-then a.0.1 (records.list records.update b.0.0) b.0.1 (records.reaction c.0.0) c.0.1 q.0 r.0 in
    let all = Takes-then bytes (app_spelled (a.0.0.0, is_some c.0.0)) a.0.1 (records.list records.update b.0.0 ++ records.reaction c.0.0) c.0.1 named last in
    let read : Said = record { app = a.0.0.0; updates = b.0.0; reaction = c.0.0 } in
    subst (λ (x : Said × List ℕ). Takes bytes (said_parts x.0) x.1 × FitsSaid x.0) (ok_is (read, c.0.1) (s, rest) c.2) (all, (q.1, r.1.0))

said_again : (s : Said) (rest : List ℕ) → FitsSaid s → length (said_parts s) < 2 ^ 32 → said_at (said_parts s ++ rest) ≡ Ok (s, rest)
unfolding said_at
said_again s rest fits small =
    let code = app_spelled (s.app, is_some s.reaction) in
    let updates = records.list records.update s.updates in
    let reaction = records.reaction s.reaction in
    let len = length-append updates reaction in
    let one = app_again s.app (is_some s.reaction) (updates ++ (reaction ++ rest)) in
    let two = updates_law.again s.updates (reaction ++ rest) fits.0 (omega (arith, small, len)) in
    let three = reaction_again s.reaction rest fits.1 (omega (arith, small, len)) in
    ap (λ (t : List ℕ). said_at (code ++ t)) (append_assoc updates reaction rest) ∙ rw (one, two, three) refl

said_law : IsRead said_spelled FitsSaid said_at
said_law = law_as said_parts said_spelled FitsSaid FitsSaid said_at (record { some = λ s. omega arith; takes = said_takes; again = said_again })
    (λ s. ap (λ (t : List ℕ). app_spelled (s.app, is_some s.reaction) ++ (records.list records.update s.updates ++ t)) (sym (append-nil (records.reaction s.reaction))))
    (λ s f. f) (λ s f small. f)

abbrev shown_parts : Shown → List ℕ
shown_parts s =
    records.block s.subject ++ (records.block s.text ++ (records.flag s.cut ++ (records.list records.attachment s.attachments ++ (records.opt records.block s.receipt
    ++ (said_spelled s.said ++ [])))))

abbrev shown_spelled : Shown → List ℕ
shown_spelled s =
    records.block s.subject ++ (records.block s.text ++ (records.flag s.cut ++ (records.list records.attachment s.attachments ++ (records.opt records.block s.receipt
    ++ said_spelled s.said))))

abbrev FitsShown : Shown → Type 0
FitsShown s =
    (is_utf8 s.subject ≡ true) × ((is_text_within 0 32768 s.text ≡ true) × (⊤ × ((list_all is_attachment s.attachments ≡ true) × ((where_some is_id s.receipt ≡ true)
    × (FitsSaid s.said × ⊤)))))

shown_part : IsPart (λ (s : Shown). ⊤) shown_parts FitsShown shown_at
unfolding shown_at
shown_part =
    then_field _ _ _ (block_law is_utf8) (λ s. s.subject) _ _ _ _ (λ subject.
    then_field _ _ _ (block_law (is_text_within 0 32768)) (λ s. s.text) _ _ _ _ (λ text.
    then_field _ _ _ flag_law (λ s. s.cut) _ _ _ _ (λ cut.
    then_field _ _ _ (values_law is_attachment records.attachment attachment_at attachment_law) (λ s. s.attachments) _ _ _ _ (λ attachments.
    then_field _ _ _ id_opt_law (λ s. s.receipt) _ _ _ _ (λ receipt.
    then_field _ _ _ said_law (λ s. s.said) _ _ _ _ (λ said.
    all_fields _ (record { subject = subject; text = text; cut = cut; attachments = attachments; receipt = receipt; said = said })
    ((((((tt, refl), refl), refl), refl), refl), refl)
    (λ y k i. record { subject = k.0.0.0.0.0.1 i; text = k.0.0.0.0.1 i; cut = k.0.0.0.1 i; attachments = k.0.0.1 i; receipt = k.0.1 i; said = k.1 i })))))))

shown_law : IsRead shown_spelled FitsShown shown_at
shown_law = part_law _ shown_spelled _ _ shown_part
    (λ s. ap (λ (t : List ℕ). records.block s.subject ++ (records.block s.text ++ (records.flag s.cut ++ (records.list records.attachment s.attachments ++ (records.opt records.block s.receipt ++ t)))))
    (append-nil (said_spelled s.said)))
    (λ s. omega arith)

-- ---- the whole card

abbrev envelope_in : Card → Envelope
envelope_in c = record { id = c.id; from = c.from; from_name = c.from_name; to = c.to; cc = c.cc; date = c.date; replies = c.replies; references = c.references }

abbrev requests_in : Card → Requests
requests_in c = record { chat = c.chat; group = c.group; group_name = c.group_name; added = c.added; removed = c.removed; renamed = c.renamed; edit = c.edit; deletes = c.deletes; timer = c.timer }

abbrev shown_in : Card → Shown
shown_in c = record { subject = c.subject; text = c.text; cut = c.cut; attachments = c.attachments; receipt = c.receipt; said = record { app = c.app; updates = c.updates; reaction = c.reaction } }

abbrev later_spelled : Requests × Shown → List ℕ
later_spelled l = requests_spelled l.0 ++ (shown_spelled l.1 ++ [])

later_part : IsPart (λ (l : Requests × Shown). ⊤) later_spelled (λ l. FitsRequests l.0 × (FitsShown l.1 × ⊤)) later_at
unfolding later_at
later_part =
    then_field _ _ _ requests_law (λ l. l.0) _ _ _ _ (λ requests.
    then_field _ _ _ shown_law (λ l. l.1) _ _ _ _ (λ shown.
    all_fields _ (requests, shown) ((tt, refl), refl) (λ y k i. (k.0.1 i, k.1 i))))

later_law : IsRead later_spelled (λ l. FitsRequests l.0 × (FitsShown l.1 × ⊤)) later_at
later_law = part_law _ later_spelled _ _ later_part (λ l. refl) (λ l. longer (requests_spelled l.0) _ (requests_law.some l.0))

abbrev FitsFields : Card → Type 0
FitsFields c = FitsEnvelope (envelope_in c) × ((FitsRequests (requests_in c) × (FitsShown (shown_in c) × ⊤)) × ⊤)

fields_part : IsPart (λ (c : Card). ⊤) (λ c. envelope_spelled (envelope_in c) ++ (later_spelled (requests_in c, shown_in c) ++ [])) FitsFields fields_at
unfolding fields_at
fields_part =
    then_field _ _ _ envelope_law envelope_in _ _ _ _ (λ e.
    then_field _ _ _ later_law (λ c. (requests_in c, shown_in c)) _ _ _ _ (λ l.
    all_fields _ (joined e l.0 l.1) ((tt, refl), refl) (λ y k i. joined (k.0.1 i) (k.1 i).0 (k.1 i).1)))

in_three : (e r s : List (List ℕ)) → concat e ++ ((concat r ++ (concat s ++ [])) ++ []) ≡ concat (e ++ r ++ s)
in_three e r s =
    rw (append-nil (concat s), append-nil (concat r ++ concat s))
    (sym (concat-append (e ++ r) s ∙ ap (λ (t : List ℕ). t ++ concat s) (concat-append e r) ∙ append_assoc (concat e) (concat r) (concat s)))

fields_law : IsRead records.record_of FitsFields fields_at
fields_law = part_law _ records.record_of _ _ fields_part (λ c. in_three (records.envelope c) (records.requests c) (records.shown c)) (λ c. omega arith)

-- ---- what fits is what is valid

list_all-and : {X : Type 0} (p q : X → Bool) (xs : List X) → list_all p xs ≡ true → list_all q xs ≡ true → list_all (λ x. p x && q x) xs ≡ true
list_all-and p q [] a b = refl
list_all-and p q (x ∷ xs) a b =
    let c = and_parts (p x) (list_all p xs) a in
    let d = and_parts (q x) (list_all q xs) b in
    and_from _ _ (and_from (p x) (q x) c.0 d.0) (list_all-and p q xs c.1 d.1)

and-list_all : {X : Type 0} (p q : X → Bool) (xs : List X) → list_all (λ x. p x && q x) xs ≡ true → (list_all p xs ≡ true) × (list_all q xs ≡ true)
and-list_all p q [] h = (refl, refl)
and-list_all p q (x ∷ xs) h =
    let c = and_parts (p x && q x) (list_all (λ y. p y && q y) xs) h in
    let d = and_parts (p x) (q x) c.0 in
    let more = and-list_all p q xs c.1 in
    (and_from (p x) (list_all p xs) d.0 more.0, and_from (q x) (list_all q xs) d.1 more.1)

and_4 : (a b c d : Bool) → a ≡ true → b ≡ true → c ≡ true → d ≡ true → (a && b && c && d) ≡ true
and_4 a b c d p q r s = and_from _ _ (and_from _ _ (and_from a b p q) r) s

and_5 : (a b c d e : Bool) → a ≡ true → b ≡ true → c ≡ true → d ≡ true → e ≡ true → (a && b && c && d && e) ≡ true
and_5 a b c d e p q r s t = and_from _ _ (and_4 a b c d p q r s) t

and_6 : (a b c d e f : Bool) → a ≡ true → b ≡ true → c ≡ true → d ≡ true → e ≡ true → f ≡ true → (a && b && c && d && e && f) ≡ true
and_6 a b c d e f p q r s t u = and_from _ _ (and_5 a b c d e p q r s t) u

and_7 : (a b c d e f g : Bool) → a ≡ true → b ≡ true → c ≡ true → d ≡ true → e ≡ true → f ≡ true → g ≡ true → (a && b && c && d && e && f && g) ≡ true
and_7 a b c d e f g p q r s t u v = and_from _ _ (and_6 a b c d e f p q r s t u) v

is_number : (n : ℕ) → n < 2 ^ 32 → nat_lt n (2 ^ 32) ≡ true
is_number n lt = grind (arith, nat_tests)

none_less : (n : ℕ) → nat_le 0 n ≡ true
none_less n = le-leb 0 n (omega arith)

reaction_valid : (o : Option (List ℕ)) → where_some is_reaction o ≡ true → (where_some is_utf8 o ≡ true) × (where_some is_short o ≡ true)
reaction_valid None h = (refl, refl)
reaction_valid (Some text) h =
    let p = and_parts (is_utf8 text && nat_le 0 (length text)) (nat_le (length text) 255) h in
    ((and_parts (is_utf8 text) (nat_le 0 (length text)) p.0).0, p.1)

valid_reaction : (o : Option (List ℕ)) → where_some is_utf8 o ≡ true → where_some is_short o ≡ true → where_some is_reaction o ≡ true
valid_reaction None utf8 short = refl
valid_reaction (Some text) utf8 short = and_from _ _ (and_from _ _ utf8 (none_less (length text))) short

fits_valid : (c : Card) → FitsFields c → fits_weight c ≡ true → is_valid c ≡ true
fits_valid c f light =
    let e = f.0 in
    let r = f.1.0.0 in
    let s = f.1.0.1.0 in
    let text = and_parts _ _ s.1.0 in
    let updates = and-list_all is_utf8_update is_nonempty_update c.updates s.1.1.1.1.1.0.0 in
    let reaction = reaction_valid c.reaction s.1.1.1.1.1.0.1 in
    let to = e.1.1.1.0 in
    let cc_list = e.1.1.1.1.0 in
    let refs = e.1.1.1.1.1.1 in
    let bounds : keeps_bounds c ≡ true = and_7 _ _ _ _ _ _ _ light e.1.1.1.1.1.0 text.1 reaction.1 updates.1 to.1 cc_list.1 in
    let envelope : is_envelope c ≡ true = and_7 _ _ _ _ _ _ _ e.0 e.1.0 e.1.1.0 to.0 cc_list.0 refs.0 refs.1.0 in
    let asks = r.1.1.1.1.1.1 in
    let requests : is_requests c ≡ true = and_7 _ _ _ _ _ _ _ r.1.0 r.1.1.0 r.1.1.1.0 r.1.1.1.1.0 asks.0 asks.1.0 (is_number c.timer asks.1.1.0) in
    let shown : is_shown c ≡ true = and_6 _ _ _ _ _ _ s.0 (and_parts _ _ text.0).0 s.1.1.1.0 s.1.1.1.1.0 updates.0 reaction.0 in
    and_4 _ _ _ _ bounds envelope requests shown

valid_fits : (c : Card) → is_valid c ≡ true → FitsFields c × (fits_weight c ≡ true)
valid_fits c h =
    let h3 = and_parts _ (is_shown c) h in
    let h2 = and_parts _ (is_requests c) h3.0 in
    let h1 = and_parts (keeps_bounds c) (is_envelope c) h2.0 in
    let b6 = and_parts _ _ h1.0 in let b5 = and_parts _ _ b6.0 in let b4 = and_parts _ _ b5.0 in let b3 = and_parts _ _ b4.0 in let b2 = and_parts _ _ b3.0 in let b1 = and_parts _ _ b2.0 in
    let e6 = and_parts _ _ h1.1 in let e5 = and_parts _ _ e6.0 in let e4 = and_parts _ _ e5.0 in let e3 = and_parts _ _ e4.0 in let e2 = and_parts _ _ e3.0 in let e1 = and_parts _ _ e2.0 in
    let r6 = and_parts _ _ h2.1 in let r5 = and_parts _ _ r6.0 in let r4 = and_parts _ _ r5.0 in let r3 = and_parts _ _ r4.0 in let r2 = and_parts _ _ r3.0 in let r1 = and_parts _ _ r2.0 in
    let s5 = and_parts _ _ h3.1 in let s4 = and_parts _ _ s5.0 in let s3 = and_parts _ _ s4.0 in let s2 = and_parts _ _ s3.0 in let s1 = and_parts _ _ s2.0 in
    let text : is_text_within 0 32768 c.text ≡ true = and_from _ _ (and_from _ _ s1.1 (none_less (length c.text))) b2.1 in (
      (
        (e1.0, (e1.1, (e2.1, ((e3.1, b5.1), ((e4.1, b6.1), (b1.1, (e5.1, (e6.1, tt)))))))),
        (
          (
            (tt, (r1.0, (r1.1, (r2.1, (r3.1, (tt, (r4.1, (r5.1, (is_below c.timer (2 ^ 32) r6.1, tt))))))))),
            ((s1.0, (text, (tt, (s2.1, (s3.1, ((list_all-and is_utf8_update is_nonempty_update c.updates s4.1 b4.1, valid_reaction c.reaction s5.1 b3.1), tt)))))), tt),
          ),
          tt,
        ),
      ),
      b1.0,
    )

pub record_law : IsRead records.record_of (λ c. is_valid c ≡ true) record_at
unfolding record_at
record_law = law_as _ _ _ _ _ (ruled_law records.record_of FitsFields fields_at fits_weight fields_law) (λ c. refl) (λ c f. fits_valid c f.0 f.1) (λ c h small. valid_fits c h)

-- a valid card's record is short
small_record : (c : Card) → is_valid c ≡ true → length (records.record_of c) < 2 ^ 32
small_record c h =
    let light : nat_le (records.weight c) 1048576 ≡ true = (valid_fits c h).1 in
    grind (arith, nat_tests, light)

pub card_again : (c : Card) (rest : List ℕ) → is_valid c ≡ true → record_at (records.record_of c ++ rest) ≡ Ok (c, rest)
card_again c rest h = record_law.again c rest h (small_record c h)

pub card_taken : (bytes : List ℕ) (c : Card) (rest : List ℕ) → IsBytes bytes → record_at bytes ≡ Ok (c, rest) → (is_valid c ≡ true) × (bytes ≡ records.record_of c ++ rest)
card_taken bytes c rest fits e = let t = record_law.takes bytes c rest fits e in (t.1, t.0.parts)

pub card_once : (a b : Card) (r s : List ℕ) → is_valid a ≡ true → is_valid b ≡ true → records.record_of a ++ r ≡ records.record_of b ++ s → a ≡ b
card_once a b r s p q same =
    let read : record_at (records.record_of a ++ r) ≡ Ok (a, r) = card_again a r p in
    let other : record_at (records.record_of b ++ s) ≡ Ok (b, s) = card_again b s q in
    let both = sym read ∙ (ap record_at same ∙ other) in
    ap (λ (p : Card × List ℕ). p.0) (ok_is (a, r) (b, s) both)
