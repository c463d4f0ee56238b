-- Of a list of addresses, as it is written, the people are exactly those whom the addresses name.
use Rattle.std.proofs.Common.{Bool, ◌≡◌, ℕ, true, List, [], ◌∷◌, ◌++◌, Some, refl, sym, ap, ◌∙◌, append_assoc}
use Rattle.std.specs.Prelude.{codes, map, flat_map}
use Rattle.mail_address.specs.declared.person.Person.{Person}
use Rattle.std.specs.List.{list_all, cons_option, join_by, join_with_byte}
use Rattle.std.specs.Str.{is_utf8, chars}
use Rattle.std.specs.Str.Lossy.{utf8_lossy, utf8_valid_len, utf8_error_len}
use Rattle.std.proofs.lemmas.Bool.{and_parts}
use Rattle.std.proofs.lemmas.List.{append-nil}
use Rattle.kit.specs.Letters.{lowered}
use Rattle.kit.specs.Addresses.{is_addr}
use Rattle.kit.specs.Reading.{read_as}
use Rattle.encoded_words.specs.Runs.{decode_words}
use Rattle.mail_address.specs.declared.element.Position.TheVariants.{BeforeAngle, InAngle, AfterAngle}
use Rattle.mail_address.specs.Tokens.{Token, Atom, Quoted, Open, Close, Colon, End, tokens}
use Rattle.mail_address.specs.People.{people, token_text}
use Rattle.mail_address.specs.States.{Atoms, State, nothing, put, start, person_at, without_first}
use Rattle.mail_address.specs.Written.{Word, Bare, InQuotes, Mailbox, Alone, Named, AddrSpec, word_text, written_addr, written_box, written_boxes, written_phrase, written_address, written, is_addr_spec, is_word, is_mailbox, named_person, Address, Single, Group, is_address, named_people}
use Rattle.mail_address.proofs.AddrLemmas.{written_is_addr}
use Rattle.mail_address.proofs.WrittenTokens.{stops, word_token, box_tokens, tokens-box, phrase_tokens}
use Rattle.mail_address.proofs.Rest.{left, left-start, left-none, named, spaced, named_words, step_at}

-- no words are no name
nameless : decode_words [] ≡ []
unfolding utf8_lossy utf8_valid_len utf8_error_len is_utf8 chars lib.Utf8.encode
nameless = refl

-- the state after a mailbox
abbrev box_state : Mailbox → State
box_state (Alone addr) = record { position = BeforeAngle; address = put nothing (Atom (written_addr addr)); name = 32 ∷ written_addr addr }
box_state (Named phrase addr) =
    record { position = AfterAngle; address = put nothing (Atom (written_addr addr)); name = spaced (map word_token phrase) }

-- a phrase and the angle after it
phrase_left : (a : Atoms) (kept : List ℕ) (words : List Word) (ts : List Token)
    → left (record { position = BeforeAngle; address = a; name = kept }) (map word_token words ++ (Open ∷ ts))
    ≡ left (record { position = InAngle; address = nothing; name = kept ++ spaced (map word_token words) }) ts
phrase_left a kept [] ts =
    step_at BeforeAngle a kept Open ts ∙ ap (λ name. left (record { position = InAngle; address = nothing; name = name }) ts) (sym (append-nil kept))
phrase_left a kept (Bare text ∷ ws) ts =
    step_at BeforeAngle a kept (Atom text) (map word_token ws ++ (Open ∷ ts))
    ∙ phrase_left (put a (Atom text)) (kept ++ (32 ∷ text)) ws ts
    ∙ ap (λ name. left (record { position = InAngle; address = nothing; name = name }) ts) (append_assoc kept (32 ∷ text) (spaced (map word_token ws)))
phrase_left a kept (InQuotes text ∷ ws) ts =
    step_at BeforeAngle a kept (Quoted text) (map word_token ws ++ (Open ∷ ts))
    ∙ phrase_left (put a (Quoted text)) (kept ++ (32 ∷ text)) ws ts
    ∙ ap (λ name. left (record { position = InAngle; address = nothing; name = name }) ts) (append_assoc kept (32 ∷ text) (spaced (map word_token ws)))

box_left : (m : Mailbox) (ts : List Token) → left start (box_tokens m ++ ts) ≡ left (box_state m) ts
box_left (Alone addr) ts = step_at BeforeAngle nothing [] (Atom (written_addr addr)) ts
box_left (Named phrase addr) ts =
    let name = spaced (map word_token phrase) in
    let atom = Atom (written_addr addr) in
    ap (left start) (append_assoc (map word_token phrase) (Open ∷ atom ∷ Close ∷ []) ts)
    ∙ phrase_left nothing [] phrase (atom ∷ Close ∷ ts)
    ∙ step_at InAngle nothing name atom (Close ∷ ts)
    ∙ step_at InAngle (put nothing atom) name Close ts

word_texts : (words : List Word) → map token_text (map word_token words) ≡ map word_text words
word_texts [] = refl
word_texts (Bare text ∷ ws) = ap (λ (ts : List (List ℕ)). text ∷ ts) (word_texts ws)
word_texts (InQuotes text ∷ ws) = ap (λ (ts : List (List ℕ)). text ∷ ts) (word_texts ws)

addressed : (a : AddrSpec) (name : List ℕ) → is_addr_spec a ≡ true
    → named name (read_as is_addr (lowered (written_addr a ++ []))) ≡ Some (record { addr = lowered (written_addr a); name = decode_words name })
addressed a name is =
    ap (λ bytes. named name (read_as is_addr (lowered bytes))) (append-nil (written_addr a)) ∙ rw (written_is_addr a is) refl

box_person : (m : Mailbox) → is_mailbox m ≡ true → person_at (box_state m) ≡ Some (named_person m)
box_person (Alone addr) is =
    addressed addr [] is ∙ ap (λ (name : List ℕ). Some (record { addr = lowered (written_addr addr); name = name })) nameless
box_person (Named phrase addr) is =
    let parts = and_parts (list_all is_word phrase) (is_addr_spec addr) is in
    let name = named_words (map word_token phrase) ∙ ap (join_with_byte 32) (word_texts phrase) in
    addressed addr (without_first (spaced (map word_token phrase))) parts.1
    ∙ ap (λ (kept : List ℕ). Some (record { addr = lowered (written_addr addr); name = decode_words kept })) name

-- ---- lists

-- What follows a written mailbox: nothing, or a comma or a semicolon. After it the tokens are read from the start.
record Ends (after : List ℕ) (ts : List Token) : Type 0 where
  pub stop : stops after ≡ true
  pub box : (m : Mailbox) → left (box_state m) (tokens after) ≡ cons_option (person_at (box_state m)) (left start ts)
  pub fresh : left start (tokens after) ≡ left start ts

end_left : (m : Mailbox) (ts : List Token) → left (box_state m) (End ∷ ts) ≡ cons_option (person_at (box_state m)) (left start ts)
end_left (Alone addr) ts = step_at BeforeAngle (put nothing (Atom (written_addr addr))) (32 ∷ written_addr addr) End ts
end_left (Named phrase addr) ts = step_at AfterAngle (put nothing (Atom (written_addr addr))) (spaced (map word_token phrase)) End ts

at_mark : (after : List ℕ) (ts : List Token) → stops after ≡ true → tokens after ≡ End ∷ ts → Ends after ts
at_mark after ts stop is = record {
  stop = stop;
  box = λ m. ap (left (box_state m)) is ∙ end_left m ts;
  fresh = ap (left start) is ∙ step_at BeforeAngle nothing [] End ts;
}

at_end : Ends [] []
at_end = record { stop = refl; box = λ m. left-none (box_state m); fresh = refl }

-- what is written of one element, and whom it names
abbrev One : {X : Type 0} → (X → List ℕ) → (X → List Person) → (X → Bool) → Type 0
One {X} text who test = (x : X) (after : List ℕ) (ts : List Token) → test x ≡ true → Ends after ts
    → left start (tokens (text x ++ after)) ≡ who x ++ left start ts

module _ {X : Type 0} (text : X → List ℕ) (who : X → List Person) (test : X → Bool) (one : One text who test) where
  more_left : (x : X) (xs : List X) (after : List ℕ) (ts : List Token) → test x ≡ true → list_all test xs ≡ true → Ends after ts
      → left start (tokens (join_by text (codes ", ") (x ∷ xs) ++ after)) ≡ flat_map who (x ∷ xs) ++ left start ts
  more_left x [] after ts is all ends =
      ap (λ bytes. left start (tokens (bytes ++ after))) (append-nil (text x))
      ∙ one x after ts is ends
      ∙ ap (λ people. people ++ left start ts) (sym (append-nil (who x)))
  more_left x (y ∷ ys) after ts is all ends =
      let parts = and_parts (test y) (list_all test ys) all in
      let rest = join_by text (codes ", ") (y ∷ ys) ++ after in
      ap (λ bytes. left start (tokens bytes)) (append_assoc (text x) (44 ∷ 32 ∷ join_by text (codes ", ") (y ∷ ys)) after)
      ∙ one x (44 ∷ 32 ∷ rest) (tokens rest) is (at_mark (44 ∷ 32 ∷ rest) (tokens rest) refl refl)
      ∙ ap (λ people. who x ++ people) (more_left y ys after ts parts.0 parts.1 ends)
      ∙ sym (append_assoc (who x) (flat_map who (y ∷ ys)) (left start ts))

  list_left : (xs : List X) (after : List ℕ) (ts : List Token) → list_all test xs ≡ true → Ends after ts
      → left start (tokens (join_by text (codes ", ") xs ++ after)) ≡ flat_map who xs ++ left start ts
  list_left [] after ts all ends = ends.fresh
  list_left (x ∷ xs) after ts all ends =
      let parts = and_parts (test x) (list_all test xs) all in
      more_left x xs after ts parts.0 parts.1 ends

one_box : One written_box (λ m. named_person m ∷ []) is_mailbox
one_box m after ts is ends =
    ap (left start) (tokens-box m after is ends.stop)
    ∙ box_left m (tokens after)
    ∙ ends.box m
    ∙ ap (λ person. cons_option person (left start ts)) (box_person m is)

each_named : (boxes : List Mailbox) → flat_map (λ m. named_person m ∷ []) boxes ≡ map named_person boxes
each_named [] = refl
each_named (m ∷ ms) = ap (λ people. named_person m ∷ people) (each_named ms)

-- the name of a group is dropped at its colon
group_left : (a : Atoms) (kept : List ℕ) (words : List Word) (ts : List Token)
    → left (record { position = BeforeAngle; address = a; name = kept }) (map word_token words ++ (Colon ∷ ts)) ≡ left start ts
group_left a kept [] ts = step_at BeforeAngle a kept Colon ts
group_left a kept (Bare text ∷ ws) ts =
    step_at BeforeAngle a kept (Atom text) (map word_token ws ++ (Colon ∷ ts)) ∙ group_left (put a (Atom text)) (kept ++ (32 ∷ text)) ws ts
group_left a kept (InQuotes text ∷ ws) ts =
    step_at BeforeAngle a kept (Quoted text) (map word_token ws ++ (Colon ∷ ts)) ∙ group_left (put a (Quoted text)) (kept ++ (32 ∷ text)) ws ts

one_address : One written_address named_people is_address
one_address (Single mailbox) after ts is ends = one_box mailbox after ts is ends
one_address (Group name members) after ts is ends =
    let parts = and_parts (list_all is_word name) (list_all is_mailbox members) is in
    let inside = written_boxes members ++ (59 ∷ after) in
    ap (λ bytes. left start (tokens bytes)) (append_assoc (written_phrase name) (58 ∷ (written_boxes members ++ (59 ∷ []))) after)
    ∙ ap (λ bytes. left start (tokens (written_phrase name ++ (58 ∷ bytes)))) (append_assoc (written_boxes members) (59 ∷ []) after)
    ∙ ap (left start) (phrase_tokens name (58 ∷ inside) parts.0)
    ∙ group_left nothing [] name (tokens inside)
    ∙ list_left written_box (λ m. named_person m ∷ []) is_mailbox one_box members (59 ∷ after) (tokens after) parts.1
    (at_mark (59 ∷ after) (tokens after) refl refl)
    ∙ ap (λ people. people ++ left start (tokens after)) (each_named members)
    ∙ ap (λ people. map named_person members ++ people) ends.fresh

pub people-written : (addresses : List Address) → list_all is_address addresses ≡ true → people (written addresses) ≡ flat_map named_people addresses
people-written addresses all =
    sym (left-start (written addresses))
    ∙ ap (λ bytes. left start (tokens bytes)) (sym (append-nil (written addresses)))
    ∙ list_left written_address named_people is_address one_address addresses [] [] all at_end
    ∙ append-nil (flat_map named_people addresses)
