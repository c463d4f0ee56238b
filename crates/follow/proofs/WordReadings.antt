-- What reads as a request is written as the grammar writes it.
use Rattle.std.proofs.Common.{◌≡◌, ℕ, Bool, true, false, refl, ap, sym, ◌∙◌, subst, List, [], ◌∷◌, ◌++◌, Option, Some, None, append_assoc, option_map, if◌then◌else◌, drop, length}
use Rattle.std.specs.Prelude.{codes, bytes_eq, nat_eq}
use Rattle.std.specs.List.{starts_with}
use Rattle.std.proofs.lemmas.Bool.Decides.{Decides-eqb}
use Rattle.std.proofs.lemmas.Option.{option_and_then_some}
use Rattle.std.proofs.lemmas.Slice.Eq.{bytes_eq-Decides, starts_is}
use Rattle.kit.specs.Cuts.{strip_prefix}
use Rattle.follow.specs.declared.words.Command.{Command}
use Rattle.answers.specs.declared.question.Question.TheVariants as question
use Rattle.follow.specs.declared.words.Command.TheVariants as command
use Rattle.follow.specs.declared.words.Request.{Request}
use Rattle.follow.specs.Grammar.{IsOption, AreOptions, IsCommand, IsRequest, IsNoRequest}
use Rattle.follow.specs.Grammar.IsOption.{Joined, Apart}
use Rattle.follow.specs.Grammar.IsMe.{Me}
use Rattle.follow.specs.Grammar.IsAt.{At}
use Rattle.follow.specs.Grammar.AreOptions.{Alone, MeFirst, AtFirst}
use Rattle.follow.specs.Grammar.IsCommand.{ListChats, ListContacts, ShowChat, ShowUpdates, InfoFirst, InfoLast, MakeTrial}
use Rattle.follow.specs.Grammar.IsRequest.{Line}
use Rattle.follow.specs.Words.{is_value, value_at, joined, option_at, trial_of, of_name, of_value, with_info, of_info, command_of, me_first, moment_if_given, moment_of, own_address, line, line_from, line_of, request}
use Rattle.follow.specs.Words as as_written
use Rattle.follow.specs.declared.status.Status.{Status}
use Rattle.follow.specs.Outcome.{ComesWhere}
use Rattle.follow.proofs.WordLaws.{written_reads}

-- words that are alike are the same
same : (word wanted : List ℕ) → bytes_eq word wanted ≡ true → word ≡ wanted
same word wanted e = (bytes_eq-Decides word wanted).0 e

some_pair : (a : List ℕ) (us : List (List ℕ)) (b : List ℕ) (vs : List (List ℕ)) → ◌≡◌ {A = Option (List ℕ × List (List ℕ))} (Some (a, us)) (Some (b, vs)) → (a ≡ b) × (us ≡ vs)
some_pair a us b vs e = (let both : ◌≡◌ {A = List ℕ × List (List ℕ)} (a, us) (b, vs) = cc in (ap (λ p. p.0) both, ap (λ p. p.1) both))

strip_prefix_is : (bytes prefix rest : List ℕ) → strip_prefix bytes prefix ≡ Some rest → bytes ≡ prefix ++ rest
strip_prefix_is bytes prefix rest e = decided (starts_with nat_eq bytes prefix) refl e
  where
    decided : (t : Bool) → starts_with nat_eq bytes prefix ≡ t → (if t then Some (drop (length prefix) bytes) else None) ≡ Some rest → bytes ≡ prefix ++ rest
    decided false is e = absurd cc
    decided true is e = (let cut : drop (length prefix) bytes ≡ rest = cc in (starts_is Decides-eqb bytes prefix true (sym is)).0 refl ∙ ap (λ r. prefix ++ r) cut)

joined_is : (name word text : List ℕ) → joined name word ≡ Some text → word ≡ name ++ codes "=" ++ text
joined_is name word text e =
    option_and_then_some (λ rest. strip_prefix rest (codes "=")) (strip_prefix word name) text e
    (λ rest named equals. strip_prefix_is word name rest named ∙ ap (λ r. name ++ r) (strip_prefix_is rest (codes "=") text equals) ∙ sym (append_assoc name (codes "=") text))

-- an option, and the words after it
record Parts (name : List ℕ) (words : List (List ℕ)) (text : List ℕ) (rest : List (List ℕ)) : Type 0 where
  first : List (List ℕ)
  written : IsOption name text first
  is : words ≡ first ++ rest

value_apart : (words : List (List ℕ)) (text : List ℕ) (rest : List (List ℕ)) → value_at words ≡ Some (text, rest) → (is_value text ≡ true) × (words ≡ text ∷ rest)
value_apart [] text rest e = absurd cc
value_apart (word ∷ words) text rest e = decided (is_value word) refl e
  where
    decided : (t : Bool) → is_value word ≡ t → if◌then◌else◌ {A = Option (List ℕ × List (List ℕ))} t (Some (word, words)) None ≡ Some (text, rest) → (is_value text ≡ true) × (word ∷ words ≡ text ∷ rest)
    decided false is e = absurd cc
    decided true is e = (let both = some_pair word words text rest e in (subst (λ w. is_value w ≡ true) both.0 is, ap (λ w. w ∷ words) both.0 ∙ ap (λ ws. text ∷ ws) both.1))

option_is : (name : List ℕ) (words : List (List ℕ)) (text : List ℕ) (rest : List (List ℕ)) → option_at name words ≡ Some (text, rest) → Parts name words text rest
option_is name [] text rest e = absurd cc
option_is name (word ∷ words) text rest e = decided (bytes_eq word name) refl e
  where
    decided : (t : Bool) → bytes_eq word name ≡ t
        → if◌then◌else◌ {A = Option (List ℕ × List (List ℕ))} t (value_at words) (option_map (λ value. (value, words)) (joined name word)) ≡ Some (text, rest)
        → Parts name (word ∷ words) text rest
    decided true is e = (let apart = value_apart words text rest e in
        record { first = name ∷ text ∷ []; written = Apart text apart.0; is = rw (same word name is) (rw apart.1 refl) })
    decided false is e = one_word (joined name word) refl e
      where
        one_word : (j : Option (List ℕ)) → joined name word ≡ j → option_map {U = List ℕ × List (List ℕ)} (λ value. (value, words)) j ≡ Some (text, rest) → Parts name (word ∷ words) text rest
        one_word None j e = absurd cc
        one_word (Some value) j e = (let both = some_pair value words text rest e in
            record { first = (name ++ codes "=" ++ text) ∷ []; written = Joined text; is = ap (λ w. w ∷ words) (joined_is name word value j ∙ ap (λ t. name ++ codes "=" ++ t) both.0) ∙ ap (λ ws. (name ++ codes "=" ++ text) ∷ ws) both.1 })

-- the options, and the words after them
record Options (words : List (List ℕ)) (l : as_written.Line) (me : List ℕ) (at : Option ℕ) : Type 0 where
  first : List (List ℕ)
  written : AreOptions me at first
  is : words ≡ first ++ l.rest

moment_given : (text : List ℕ) (at : Option ℕ) → moment_if_given (Some text) ≡ Some at → (n : ℕ) × (moment_of text ≡ Some n) × (Some n ≡ at)
moment_given text at e = from (moment_of text) refl e
  where
    from : (o : Option ℕ) → moment_of text ≡ o → option_map Some o ≡ Some at → (n : ℕ) × (moment_of text ≡ Some n) × (Some n ≡ at)
    from None is e = absurd cc
    from (Some n) is e = (n, is, cc)

module _ (words : List (List ℕ)) (me : List ℕ) (at : Option ℕ) where
  abbrev Means : as_written.Line → Type 0
  Means l = own_address l.me ≡ Some me → moment_if_given l.at ≡ Some at → Options words l me at

  me_then_at : (m : List ℕ × List (List ℕ)) → option_at (codes "--me") words ≡ Some m → (o : Option (List ℕ × List (List ℕ))) → option_at (codes "--at") m.1 ≡ o → Means (me_first m o)
  me_then_at m is None no_at me_means at_means =
      let us = option_is (codes "--me") words m.0 m.1 is in
      let none : None ≡ at = cc in
      record { first = us.first; written = subst (λ a. AreOptions me a us.first) none (Alone us.first (Me m.0 us.first us.written me_means)); is = us.is }
  me_then_at m is (Some a) has_at me_means at_means =
      let us = option_is (codes "--me") words m.0 m.1 is in
      let vs = option_is (codes "--at") m.1 a.0 a.1 has_at in
      let n = moment_given a.0 at at_means in
      record {
        first = us.first ++ vs.first;
        written = subst (λ t. AreOptions me t (us.first ++ vs.first)) n.2 (MeFirst n.0 us.first vs.first (Me m.0 us.first us.written me_means) (At a.0 vs.first vs.written n.1));
        is = us.is ∙ ap (λ ws. us.first ++ ws) vs.is ∙ sym (append_assoc us.first vs.first a.1);
      }

  at_then_me : (a : List ℕ × List (List ℕ)) → option_at (codes "--at") words ≡ Some a → (m : List ℕ × List (List ℕ)) → option_at (codes "--me") a.1 ≡ Some m → Means (line m.0 (Some a.0) m.1)
  at_then_me a has_at m is me_means at_means =
      let us = option_is (codes "--at") words a.0 a.1 has_at in
      let vs = option_is (codes "--me") a.1 m.0 m.1 is in
      let n = moment_given a.0 at at_means in
      record {
        first = us.first ++ vs.first;
        written = subst (λ t. AreOptions me t (us.first ++ vs.first)) n.2 (AtFirst n.0 us.first vs.first (At a.0 us.first us.written n.1) (Me m.0 vs.first vs.written me_means));
        is = us.is ∙ ap (λ ws. us.first ++ ws) vs.is ∙ sym (append_assoc us.first vs.first m.1);
      }

  options_are : (l : as_written.Line) → line_of words ≡ Some l → Means l
  options_are l e = from (option_at (codes "--at") words) refl e
    where
      from : (o : Option (List ℕ × List (List ℕ))) → option_at (codes "--at") words ≡ o → line_from words o ≡ Some l → Means l
      from None no_at e = with_me (option_at (codes "--me") words) refl e
        where
          with_me : (o : Option (List ℕ × List (List ℕ))) → option_at (codes "--me") words ≡ o → option_map (λ m. me_first m (option_at (codes "--at") m.1)) o ≡ Some l → Means l
          with_me None no_me e = absurd cc
          with_me (Some m) is e = (let read : me_first m (option_at (codes "--at") m.1) ≡ l = cc in subst Means read (me_then_at m is (option_at (codes "--at") m.1) refl))
      from (Some a) has_at e = with_me (option_at (codes "--me") a.1) refl e
        where
          with_me : (o : Option (List ℕ × List (List ℕ))) → option_at (codes "--me") a.1 ≡ o → option_map (λ m. line m.0 (Some a.0) m.1) o ≡ Some l → Means l
          with_me None no_me e = absurd cc
          with_me (Some m) is e = (let read : line m.0 (Some a.0) m.1 ≡ l = cc in subst Means read (at_then_me a has_at m is))

named : (c : Command) (name wanted : List ℕ) (words : List (List ℕ)) → bytes_eq name wanted ≡ true → IsCommand c (wanted ∷ words) → IsCommand c (name ∷ words)
named c name wanted words e is = subst (λ n. IsCommand c (n ∷ words)) (sym (same name wanted e)) is

alone_is : (name : List ℕ) (c : Command) → of_name name ≡ Some c → IsCommand c (name ∷ [])
alone_is name c e = from (bytes_eq name (codes "list")) (bytes_eq name (codes "contacts")) refl refl e
  where
    from : (t u : Bool) → bytes_eq name (codes "list") ≡ t → bytes_eq name (codes "contacts") ≡ u
        → (if t then Some (command.Ask question.List) else if u then Some (command.Ask question.Contacts) else None) ≡ Some c → IsCommand c (name ∷ [])
    from true u is is-2 e = (let read : (command.Ask question.List) ≡ c = cc in subst (λ d. IsCommand d (name ∷ [])) read (named _ name _ [] is ListChats))
    from false true is is-2 e = (let read : (command.Ask question.Contacts) ≡ c = cc in subst (λ d. IsCommand d (name ∷ [])) read (named _ name _ [] is-2 ListContacts))
    from false false is is-2 e = absurd cc

value_is : (name value : List ℕ) (c : Command) → is_value value ≡ true → of_value name value ≡ Some c → IsCommand c (name ∷ value ∷ [])
value_is name value c plain e = from (bytes_eq name (codes "chat")) (bytes_eq name (codes "updates")) (bytes_eq name (codes "trial")) refl refl refl e
  where
    trial : (o : Option ℕ) → trial_of value ≡ o → option_map command.Trial o ≡ Some c → IsCommand c (codes "trial" ∷ value ∷ [])
    trial None o e = absurd cc
    trial (Some n) o e = (let read : command.Trial n ≡ c = cc in subst (λ d. IsCommand d (codes "trial" ∷ value ∷ [])) read (MakeTrial value n plain o))

    from : (t u v : Bool) → bytes_eq name (codes "chat") ≡ t → bytes_eq name (codes "updates") ≡ u → bytes_eq name (codes "trial") ≡ v
        → (if t then Some (command.Ask (question.Chat value)) else if u then Some (command.Ask (question.Updates value false)) else if v then option_map command.Trial (trial_of value) else None) ≡ Some c
        → IsCommand c (name ∷ value ∷ [])
    from true u v is is-2 is-3 e = (let read : command.Ask (question.Chat value) ≡ c = cc in subst (λ d. IsCommand d (name ∷ value ∷ [])) read (named _ name _ (value ∷ []) is (ShowChat value plain)))
    from false true v is is-2 is-3 e = (let read : command.Ask (question.Updates value false) ≡ c = cc in subst (λ d. IsCommand d (name ∷ value ∷ [])) read (named _ name _ (value ∷ []) is-2 (ShowUpdates value plain)))
    from false false true is is-2 is-3 e = named c name _ (value ∷ []) is-3 (trial (trial_of value) refl e)
    from false false false is is-2 is-3 e = absurd cc

info_first : (a b : List ℕ) (c : Command) → bytes_eq a (codes "--info") ≡ true → with_info b ≡ Some c → IsCommand c (codes "updates" ∷ a ∷ b ∷ [])
info_first a b c is e = from (is_value b) refl e
  where
    from : (t : Bool) → is_value b ≡ t → (if t then Some (command.Ask (question.Updates b true)) else None) ≡ Some c → IsCommand c (codes "updates" ∷ a ∷ b ∷ [])
    from false v e = absurd cc
    from true v e = (let read : command.Ask (question.Updates b true) ≡ c = cc in subst (λ d. IsCommand d (codes "updates" ∷ a ∷ b ∷ [])) read
        (subst (λ i. IsCommand (command.Ask (question.Updates b true)) (codes "updates" ∷ i ∷ b ∷ [])) (sym (same a (codes "--info") is)) (InfoFirst b v)))

info_last : (a b : List ℕ) (c : Command) → bytes_eq b (codes "--info") ≡ true → with_info a ≡ Some c → IsCommand c (codes "updates" ∷ a ∷ b ∷ [])
info_last a b c is e = from (is_value a) refl e
  where
    from : (t : Bool) → is_value a ≡ t → (if t then Some (command.Ask (question.Updates a true)) else None) ≡ Some c → IsCommand c (codes "updates" ∷ a ∷ b ∷ [])
    from false v e = absurd cc
    from true v e = (let read : command.Ask (question.Updates a true) ≡ c = cc in subst (λ d. IsCommand d (codes "updates" ∷ a ∷ b ∷ [])) read
        (subst (λ i. IsCommand (command.Ask (question.Updates a true)) (codes "updates" ∷ a ∷ i ∷ [])) (sym (same b (codes "--info") is)) (InfoLast a v)))

info_is : (a b : List ℕ) (c : Command) → of_info a b ≡ Some c → IsCommand c (codes "updates" ∷ a ∷ b ∷ [])
info_is a b c e = from (bytes_eq a (codes "--info")) (bytes_eq b (codes "--info")) refl refl e
  where
    from : (t u : Bool) → bytes_eq a (codes "--info") ≡ t → bytes_eq b (codes "--info") ≡ u
        → (if t then with_info b else if u then with_info a else None) ≡ Some c → IsCommand c (codes "updates" ∷ a ∷ b ∷ [])
    from true u is is-2 e = info_first a b c is e
    from false true is is-2 e = info_last a b c is-2 e
    from false false is is-2 e = absurd cc

command_is : (words : List (List ℕ)) (c : Command) → command_of words ≡ Some c → IsCommand c words
command_is [] c e = absurd cc
command_is (name ∷ []) c e = alone_is name c e
command_is (name ∷ value ∷ []) c e = from (is_value value) refl e
  where
    from : (t : Bool) → is_value value ≡ t → (if t then of_value name value else None) ≡ Some c → IsCommand c (name ∷ value ∷ [])
    from false is e = absurd cc
    from true is e = value_is name value c is e
command_is (name ∷ a ∷ b ∷ []) c e = from (bytes_eq name (codes "updates")) refl e
  where
    from : (t : Bool) → bytes_eq name (codes "updates") ≡ t → (if t then of_info a b else None) ≡ Some c → IsCommand c (name ∷ a ∷ b ∷ [])
    from false is e = absurd cc
    from true is e = named c name _ (a ∷ b ∷ []) is (info_is a b c e)
command_is (name ∷ a ∷ b ∷ d ∷ words) c e = absurd cc

pub reads_written : (words : List (List ℕ)) (r : Request) → request words ≡ Some r → IsRequest r words
reads_written words r e =
    option_and_then_some _ (line_of words) r e (λ l is e1.
    option_and_then_some _ (moment_if_given l.at) r e1 (λ at at_means e2.
    option_and_then_some _ (own_address l.me) r e2 (λ me me_means e3.
    option_and_then_some _ (command_of l.rest) r e3 (λ c c_is e4.
    let q : Request = record { me = me; at = at; command = c } in
    let read : q ≡ r = cc in
    let options = options_are words me at l is me_means at_means in
    subst (λ r. IsRequest r words) read (subst (IsRequest q) (sym options.is) (Line q options.first l.rest options.written (command_is l.rest c c_is)))))))

-- Words are written as no request exactly where they read as none.
pub unread : (words : List (List ℕ)) → request words ≡ None → IsNoRequest words
unread words none r is = (let some : request words ≡ Some r = written_reads r words is in cc)

pub unwritten : (words : List (List ℕ)) → IsNoRequest words → request words ≡ None
unwritten words none = from (request words) refl
  where
    from : (o : Option Request) → request words ≡ o → o ≡ None
    from None is = refl
    from (Some r) is = absurd (none r (reads_written words r is))

-- so a status that comes where words read as no request comes where they are written as none
pub comes_unwritten : (words : List (List ℕ)) (answered result : Status) → ComesWhere answered (request words ≡ None) result → ComesWhere answered (IsNoRequest words) result
comes_unwritten words answered result comes = record { only = λ is. unread words (comes.only is); always = λ none. comes.always (unwritten words none) }
