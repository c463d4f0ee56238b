-- Lemmas on the rules that a card keeps, and on what a mail is answered.
use Rattle.std.proofs.Common.{inr, ◌≡◌, ◌≤◌, ℕ, Bool, true, false, List, [], ◌∷◌, length, refl, arith}
use Rattle.std.specs.Prelude.{◌&&◌, ◌==◌, ◌⊎◌, drop, not, IfErr, IfOk, IfSome, IsTrue, Option, Some, None, Result, Ok, Err, nat_le}
use Rattle.std.specs.List.{list_all}
use Rattle.std.proofs.lemmas.Bool.{and_parts, le-leb}
use Rattle.std.proofs.lemmas.Bool.Decides.{nat_tests}
use Rattle.lists.specs.Distinct.{are_distinct}
use Rattle.kit.specs.Moments.{last_moment}
use Rattle.mail_address.specs.declared.person.Person.{Person}
use Rattle.mail_headers.specs.Headers.{Head}
use Rattle.card_type.specs.declared.card.Card.{Card}
use Rattle.card_type.specs.declared.card.Update.{Update}
use Rattle.card_type.specs.Kinds.{has_some}
use Rattle.card_type.specs.Rules.{fits_weight, is_nonempty_update, is_short, is_update, is_utf8_update, keeps_bounds, where_some}
use Rattle.chat_card.specs.Cards.{accepted, card_by, card_from, card_with}
use Rattle.chat_card.specs.Contents.{contents_of}
use Rattle.chat_card.specs.Envelope.{envelope_of, sender}
use Rattle.chat_card.specs.Requests.{requests_of}
use Rattle.chat_card.specs.Texts.{card_text}
use Rattle.chat_card.specs.declared.contents.Contents.{Contents}
use Rattle.chat_card.specs.declared.envelope.Envelope.{Envelope}
use Rattle.chat_card.specs.declared.requests.Requests.{Requests}
use Rattle.chat_card.specs.declared.text.CardText.{CardText}

-- ---- the bounds of a card

-- what is true takes nothing from a conjunction
kept : (light date room short updates to cc : Bool) → date ≡ true → room ≡ true → short ≡ true → updates ≡ true → to ≡ true → cc ≡ true
    → (light && date && room && short && updates && to && cc) ≡ light
kept true date room short updates to cc d r s u t c = rw (d, r, s, u, t, c) refl
kept false date room short updates to cc d r s u t c = refl

is_moment : (date : Option ℕ) → IfSome date (λ d. d ≤ last_moment) → where_some (λ d. nat_le d last_moment) date ≡ true
is_moment None h = refl
is_moment (Some d) h = le-leb d last_moment h

-- of updates that keep their rule no payload is empty
nonempty : (us : List Update) → list_all is_update us ≡ true → list_all is_nonempty_update us ≡ true
nonempty [] h = refl
nonempty (u ∷ us) h =
    let both = and_parts (is_update u) (list_all is_update us) h in
    rw ((and_parts (is_utf8_update u) (is_nonempty_update u) both.0).1, nonempty us both.1) refl

pub bounds-kept : (c : Card) → IfSome c.date (λ d. d ≤ last_moment) → length c.text ≤ 32768 → IsTrue (where_some is_short c.reaction) → IsTrue (list_all is_update c.updates)
    → are_distinct c.to ≡ true → are_distinct c.cc ≡ true → keeps_bounds c ≡ fits_weight c
bounds-kept c date room short updates to cc = kept (fits_weight c) _ _ _ _ _ _ (is_moment c.date date) (le-leb (length c.text) 32768 room) short (nonempty c.updates updates) to cc

-- ---- the card, put together

-- a mail answers another where it names some
pub some-named : {T : Type 0} (xs : List T) → not (length xs == 0) ≡ has_some xs
some-named [] = refl
some-named (x ∷ xs) = grind (arith, nat_tests)

pub put-together : (uid : ℕ) (head : Head) (from : Person) (body : List ℕ) (fields : Envelope) (requests : Requests) (is_reply : Bool) (contents : Contents) (text : CardText)
    → fields ≡ envelope_of uid head → requests ≡ requests_of head → is_reply ≡ has_some fields.replies
    → contents ≡ contents_of is_reply requests.edit head body → text ≡ card_text requests.edit contents.text
    → card_by from fields requests contents text ≡ card_from uid head from body
put-together uid head from body fields requests is_reply contents text says asks answers shows tells =
    rw (tells, shows, answers, asks, says) refl

-- ---- answers

pub ok-self : {X E : Type 0} (r : Result X E) → IfOk r (λ x. r ≡ Ok x)
ok-self (Ok x) = refl
ok-self (Err e) = tt

pub err-self : {X E : Type 0} (P : E → Type 0) (r : Result X E) → IfErr r (λ e. P e ⊎ (r ≡ Err e))
err-self P (Ok x) = tt
err-self P (Err e) = inr refl

-- a mail that has a field and a sender has a card, unless that is too heavy
pub answered : (uid : ℕ) (head : Head) (mail : List ℕ) (from : Person) → (length head.fields == 0) ≡ false → sender head ≡ Some from
    → card_with uid head mail ≡ accepted (card_from uid head from (drop head.body_at mail))
answered uid head mail from some sent = rw (some, sent) refl
