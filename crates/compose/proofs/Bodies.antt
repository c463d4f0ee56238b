-- What a reader has of the lines of a body.
use Rattle.std.proofs.Common.{◌≡◌, ℕ, ◌<◌, true, not, List, [], ◌∷◌, ◌++◌, length, map, refl, sym, ap, ◌∙◌, arith, append_assoc}
use Rattle.std.specs.Prelude.{codes, nat_le}
use Rattle.std.specs.List.{AllByRecursion, concat, join_with_byte, list_all}
use Rattle.std.specs.Str.{IsUtf8}
use Rattle.std.proofs.lemmas.Bool.{and_parts, and_from, le-leb}
use Rattle.std.proofs.lemmas.Bool.Decides.{nat_tests}
use Rattle.std.proofs.lemmas.List.{append-nil}
use Rattle.base64.specs.Engines.{standard}
use Rattle.base64.specs.GeneralPurpose.{encode_of, IsBytes}
use Rattle.kit.specs.Addresses.{is_addr, is_addr_byte}
use Rattle.kit.specs.Ids.{is_id}
use Rattle.kit.specs.White.{is_white, trim}
use Rattle.kit.proofs.Utf8Lemmas.{addr_bytes}
use Rattle.mail_headers.specs.Ids.{ids}
use Rattle.mail_address.specs.People.{people}
use Rattle.encoded_words.specs.Runs.{decode_words}
use Rattle.compose.specs.Written.{angle, angles_text, pieces, recipients, sender, with_angle, word, words}
use Rattle.compose.proofs.FieldsBack.{unfolded}
use Rattle.compose.proofs.IdsBack.{ids-text}
use Rattle.compose.proofs.PeopleBack.{continues, is_name_word, is_open_addr, listed, nobody, people-listed, people-named, phrase, addr_len}
use Rattle.compose.proofs.Pieces.{concat-pieces, are_pieces}
use Rattle.compose.proofs.Printings.{all_of, all_both}
use Rattle.compose.proofs.Trims.{last_or, last_or-append, is_dark, trim-dark, dark-append, dark-seam, dark_all}
use Rattle.compose.proofs.WordsBack.{IsPiece, spaced, decode-words}
use Rattle.compose.proofs.Base64Back.{coded_by}

-- lines with a space between each two
abbrev pub joined : List (List ℕ) → List ℕ
joined [] = []
joined (l ∷ []) = l
joined (l ∷ m ∷ ls) = l ++ (32 ∷ joined (m ∷ ls))

concat-joined : (l : List ℕ) (ls : List (List ℕ)) → concat (map (λ (l : List ℕ). 32 ∷ l) (l ∷ ls)) ≡ 32 ∷ joined (l ∷ ls)
concat-joined l [] = ap (λ (xs : List ℕ). 32 ∷ xs) (append-nil l)
concat-joined l (m ∷ ls) = ap (λ (xs : List ℕ). 32 ∷ (l ++ xs)) (concat-joined m ls)

pub unfolded-dark : (l : List ℕ) (ls : List (List ℕ)) → is_dark (joined (l ∷ ls)) ≡ true → unfolded (l ∷ ls) ≡ joined (l ∷ ls)
unfolded-dark l ls dark = ap trim (concat-joined l ls) ∙ trim-dark (joined (l ∷ ls)) dark

pub unfolded-one : (l : List ℕ) → is_dark l ≡ true → unfolded (l ∷ []) ≡ l
unfolded-one l dark = unfolded-dark l [] dark

-- ---- ids

pub angle_dark : (i : List ℕ) → is_dark (angle i) ≡ true
angle_dark i = ap (λ b. not (is_white b)) (last_or-append 60 i 62 [])

angles_dark : (i : List ℕ) (is : List (List ℕ)) → is_dark (angles_text (i ∷ is)) ≡ true
angles_dark i [] = angle_dark i
angles_dark i (j ∷ is) =
    ap (λ (xs : List ℕ). is_dark (60 ∷ xs)) (sym (append_assoc i (62 ∷ []) (32 ∷ angles_text (j ∷ is))))
    ∙ dark-seam (angle i) (angles_text (j ∷ is)) (angle_dark i) (angles_dark j is)

pub ids_back : (i : List ℕ) (is : List (List ℕ)) → list_all is_id (i ∷ is) ≡ true → ids (unfolded (angles_text (i ∷ is) ∷ [])) ≡ i ∷ is
ids_back i is all = ap ids (unfolded-one (angles_text (i ∷ is)) (angles_dark i is)) ∙ ids-text (i ∷ is) all

pub id_back : (i : List ℕ) → is_id i ≡ true → ids (unfolded (angle i ∷ [])) ≡ i ∷ []
id_back i h = ap ids (unfolded-one (angle i) (angle_dark i)) ∙ ids-text (i ∷ []) (and_from (is_id i) true h refl)

-- ---- addresses

addr_byte_dark : (b : ℕ) → is_addr_byte b ≡ true → not (is_white b) ≡ true
addr_byte_dark b h = grind (arith, nat_tests)

pub bytes_dark : (bs : List ℕ) → 0 < length bs → list_all (λ b. not (is_white b)) bs ≡ true → is_dark bs ≡ true
bytes_dark [] some all = absurd (omega arith)
bytes_dark (b ∷ bs) some all = dark_all b bs all

pub addr_dark : (a : List ℕ) → is_addr a ≡ true → is_dark a ≡ true
addr_dark a h = bytes_dark a (addr_len a h) (all_of is_addr_byte (λ b. not (is_white b)) addr_byte_dark a (addr_bytes a h))

joined-recipients : (to : List (List ℕ)) → joined (recipients to) ≡ listed to
joined-recipients [] = refl
joined-recipients (a ∷ []) = refl
joined-recipients (a ∷ b ∷ []) = append_assoc a (44 ∷ []) (32 ∷ b)
joined-recipients (a ∷ b ∷ c ∷ more) =
    append_assoc a (44 ∷ []) (32 ∷ joined (recipients (b ∷ c ∷ more)))
    ∙ ap (λ (xs : List ℕ). a ++ (44 ∷ 32 ∷ xs)) (joined-recipients (b ∷ c ∷ more))

listed_dark : (a : List ℕ) (more : List (List ℕ)) → list_all is_open_addr (a ∷ more) ≡ true → is_dark (listed (a ∷ more)) ≡ true
listed_dark a [] all = addr_dark a (and_parts (is_addr a) _ (and_parts (is_open_addr a) true all).0).0
listed_dark a (b ∷ more) all =
    let parts = and_parts (is_open_addr a) (list_all is_open_addr (b ∷ more)) all in
    let first = dark-append a (44 ∷ []) (addr_dark a (and_parts (is_addr a) _ parts.0).0) refl in
    ap is_dark (sym (append_assoc a (44 ∷ []) (32 ∷ listed (b ∷ more))))
    ∙ dark-seam (a ++ 44 ∷ []) (listed (b ∷ more)) first (listed_dark b more parts.1)

pub people_back : (a : List ℕ) (more : List (List ℕ)) → list_all is_open_addr (a ∷ more) ≡ true
    → people (unfolded (recipients (a ∷ more))) ≡ map nobody (a ∷ more)
people_back a [] all = ap people (unfolded-one a (listed_dark a [] all)) ∙ people-listed (a ∷ []) all
people_back a (b ∷ more) all =
    let dark = ap is_dark (joined-recipients (a ∷ b ∷ more)) ∙ listed_dark a (b ∷ more) all in
    ap people (unfolded-dark (a ++ 44 ∷ []) (recipients (b ∷ more)) dark ∙ joined-recipients (a ∷ b ∷ more))
    ∙ people-listed (a ∷ b ∷ more) all

-- ---- texts

word_dark : (p : List ℕ) → IsBytes p → is_dark (word p) ≡ true
word_dark p h =
    dark_all 61 (codes "?utf-8?B?" ++ (encode_of standard p ++ codes "?="))
    (all_both (λ b. not (is_white b)) (codes "=?utf-8?B?") (encode_of standard p ++ codes "?=") refl
    (all_both (λ b. not (is_white b)) (encode_of standard p) (codes "?=") (coded_by (λ b. not (is_white b)) refl refl p h) refl))

joined-words : (p : List ℕ) (ps : List (List ℕ)) → joined (map word (p ∷ ps)) ≡ spaced p ps
joined-words p [] = refl
joined-words p (q ∷ ps) = ap (λ (xs : List ℕ). word p ++ (32 ∷ xs)) (joined-words q ps)

spaced_dark : (p : List ℕ) (ps : List (List ℕ)) → AllByRecursion IsPiece (p ∷ ps) → is_dark (spaced p ps) ≡ true
spaced_dark p [] all = word_dark p all.0.0
spaced_dark p (q ∷ ps) all = dark-seam (word p) (spaced q ps) (word_dark p all.0.0) (spaced_dark q ps all.1)

pieces_back : (ps : List (List ℕ)) → 0 < length ps → AllByRecursion IsPiece ps → decode_words (unfolded (map word ps)) ≡ concat ps
pieces_back [] some all = absurd (omega arith)
pieces_back (p ∷ ps) some all =
    let dark = ap is_dark (joined-words p ps) ∙ spaced_dark p ps all in
    ap decode_words (unfolded-dark (word p) (map word ps) dark ∙ joined-words p ps) ∙ decode-words p ps all.0 all.1

some_pieces : (b : ℕ) (bs : List ℕ) → 0 < length (pieces (b ∷ bs))
some_pieces b bs = omega arith

pub text_back : (b : ℕ) (bs : List ℕ) → IsUtf8 (b ∷ bs) → decode_words (unfolded (words (b ∷ bs))) ≡ b ∷ bs
text_back b bs u = pieces_back (pieces (b ∷ bs)) (some_pieces b bs) (are_pieces (b ∷ bs) u) ∙ concat-pieces (b ∷ bs) u

-- ---- the sender

word_continues : (p : List ℕ) → IsBytes p → is_name_word (word p) ≡ true
word_continues p h =
    let some : nat_le 1 (length (word p)) ≡ true = le-leb 1 (length (word p)) (omega arith) in
    and_from (nat_le 1 (length (word p))) (list_all continues (word p)) some
    (all_both continues (codes "=?utf-8?B?") (encode_of standard p ++ codes "?=") refl
    (all_both continues (encode_of standard p) (codes "?=") (coded_by continues refl refl p h) refl))

name_words : (ps : List (List ℕ)) → AllByRecursion IsPiece ps → list_all is_name_word (map word ps) ≡ true
name_words [] all = refl
name_words (p ∷ ps) all = and_from (is_name_word (word p)) (list_all is_name_word (map word ps)) (word_continues p all.0.0) (name_words ps all.1)

joined-sender : (w : List ℕ) (ws : List (List ℕ)) (a : List ℕ) → joined (with_angle (w ∷ ws) a) ≡ phrase (w ∷ ws) ++ angle a
joined-sender w [] a = sym (ap (λ (xs : List ℕ). xs ++ angle a) (append-nil (w ++ (32 ∷ []))) ∙ append_assoc w (32 ∷ []) (angle a))
joined-sender w (v ∷ []) a =
    ap (λ (xs : List ℕ). w ++ (32 ∷ xs)) (joined-sender v [] a)
    ∙ sym (append_assoc (w ++ (32 ∷ [])) (phrase (v ∷ [])) (angle a) ∙ append_assoc w (32 ∷ []) (phrase (v ∷ []) ++ angle a))
joined-sender w (v ∷ u ∷ ws) a =
    ap (λ (xs : List ℕ). w ++ (32 ∷ xs)) (joined-sender v (u ∷ ws) a)
    ∙ sym (append_assoc (w ++ (32 ∷ [])) (phrase (v ∷ u ∷ ws)) (angle a) ∙ append_assoc w (32 ∷ []) (phrase (v ∷ u ∷ ws) ++ angle a))

dark_last : (xs ys zs : List ℕ) → is_dark xs ≡ true → is_dark zs ≡ true → is_dark (xs ++ (ys ++ zs)) ≡ true
dark_last [] ys zs first last = absurd cc
dark_last (x ∷ xs) ys [] first last = absurd cc
dark_last (x ∷ xs) ys (z ∷ zs) first last =
    let begins = and_parts (not (is_white x)) (not (is_white (last_or x xs))) first in
    let ends = and_parts (not (is_white z)) (not (is_white (last_or z zs))) last in
    and_from (not (is_white x)) (not (is_white (last_or x (xs ++ (ys ++ z ∷ zs))))) begins.0
    (ap (λ (bs : List ℕ). not (is_white (last_or x bs))) (sym (append_assoc xs ys (z ∷ zs))) ∙ ap (λ b. not (is_white b)) (last_or-append x (xs ++ ys) z zs) ∙ ends.1)

named_dark : (w : List ℕ) (ws : List (List ℕ)) (a : List ℕ) → is_dark w ≡ true → is_dark (phrase (w ∷ ws) ++ angle a) ≡ true
named_dark w ws a dark =
    ap is_dark (append_assoc (w ++ (32 ∷ [])) (phrase ws) (angle a) ∙ append_assoc w (32 ∷ []) (phrase ws ++ angle a))
    ∙ dark_last w (32 ∷ phrase ws) (angle a) dark (angle_dark a)

unfolded-sender : (w : List ℕ) (ws : List (List ℕ)) (a : List ℕ) → is_dark w ≡ true → unfolded (with_angle (w ∷ ws) a) ≡ phrase (w ∷ ws) ++ angle a
unfolded-sender w [] a dark =
    unfolded-one (w ++ (32 ∷ angle a)) (ap is_dark (joined-sender w [] a) ∙ named_dark w [] a dark) ∙ joined-sender w [] a
unfolded-sender w (v ∷ ws) a dark =
    unfolded-dark w (with_angle (v ∷ ws) a) (ap is_dark (shape v ws) ∙ (ap is_dark (joined-sender w (v ∷ ws) a) ∙ named_dark w (v ∷ ws) a dark))
    ∙ shape v ws ∙ joined-sender w (v ∷ ws) a
  where
    shape : (v : List ℕ) (ws : List (List ℕ)) → joined (w ∷ with_angle (v ∷ ws) a) ≡ joined (with_angle (w ∷ v ∷ ws) a)
    shape v ws = refl

joined-bytes : (ls : List (List ℕ)) → join_with_byte 32 ls ≡ joined ls
joined-bytes [] = refl
joined-bytes (l ∷ []) = refl
joined-bytes (l ∷ m ∷ ls) = ap (λ (xs : List ℕ). l ++ (32 ∷ xs)) (joined-bytes (m ∷ ls))

sent_by : (ps : List (List ℕ)) (a : List ℕ) → 0 < length ps → AllByRecursion IsPiece ps → is_open_addr a ≡ true
    → people (unfolded (with_angle (map word ps) a)) ≡ record { addr = a; name = concat ps } ∷ []
sent_by [] a some all h = absurd (omega arith)
sent_by (p ∷ ps) a some all h =
    ap people (unfolded-sender (word p) (map word ps) a (word_dark p all.0.0))
    ∙ people-named (map word (p ∷ ps)) a (name_words (p ∷ ps) all) h
    ∙ ap (λ (name : List ℕ). record { addr = a; name = name } ∷ []) (ap decode_words (joined-bytes (map word (p ∷ ps)) ∙ joined-words p ps) ∙ decode-words p ps all.0 all.1)

-- of a name and an address the sender, in each mail
pub sender_back : (name a : List ℕ) → IsUtf8 name → is_open_addr a ≡ true → people (unfolded (sender name a)) ≡ record { addr = a; name = name } ∷ []
sender_back [] a u h = people_back a [] (and_from (is_open_addr a) true h refl)
sender_back (b ∷ bs) a u h =
    sent_by (pieces (b ∷ bs)) a (some_pieces b bs) (are_pieces (b ∷ bs) u) h
    ∙ ap (λ (name : List ℕ). record { addr = a; name = name } ∷ []) (concat-pieces (b ∷ bs) u)
