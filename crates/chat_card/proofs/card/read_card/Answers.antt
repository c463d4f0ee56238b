use Rattle.std.proofs.Common.{◌≡◌, ◌∙◌, ap, subst, sym}
use Rattle.std.specs.Prelude.{IfErr, IfOk, Ok, Err, ◌⊎◌, drop, length}
use Rattle.std.proofs.lemmas.Bool.{ne_eqb}
use Rattle.std.proofs.lemmas.List.{take_rest}
use Rattle.chat_card.specs.Cards.{accepted, card_from, card_of, card_with}
use Rattle.chat_card.specs.declared.fault.CardFault.TheVariants as fault
use Rattle.chat_card.proofs.CardLemmas.{answered, err-self, ok-self}
use Rattle.chat_card.proofs.card.read_card.Goals as goal
use Rattle.chat_card.proofs.card.read_card.Goals.{After-drop-header-inside-3}

whole : (c : After-drop-header-inside-3) → card_of c.args.uid c.args.mail.now ≡ c.accepted.result
whole c =
    let uid = c.args.uid in
    let mail = c.args.mail.now in
    let head = c.in_ok-header.header in
    let from = c.in-Some.from in
    let some = ne_eqb (length head.fields) 0 (λ none. c.if-len-eq0.false (c.len.ensures ∙ none)) in
    let card = c.in_ok-card_from.ensures.card ∙ ap (card_from uid head from) (take_rest mail c.body_at.result)
    ∙ ap (λ at. card_from uid head from (drop at mail)) c.body_at.ensures in
    ap (λ h. card_with uid h mail) (sym c.in_ok-header.ensures.read) ∙ answered uid head mail from some (sym c.in_ok-from.ensures ∙ c.in-Some.is)
    ∙ ap accepted (sym card) ∙ sym c.accepted.ensures.answer

pub returns-clause-card : goal.returns-clause-card
returns-clause-card c = subst (λ r. IfOk c.accepted.result (λ card. r ≡ Ok card)) (sym (whole c)) (ok-self c.accepted.result)

pub returns-clause-fault : goal.returns-clause-fault
returns-clause-fault c = subst (λ r. IfErr c.accepted.result (λ why. (why ≡ fault.Memory) ⊎ (r ≡ Err why))) (sym (whole c)) (err-self (λ why. why ≡ fault.Memory) c.accepted.result)

pub returns-clause-valid : goal.returns-clause-valid
returns-clause-valid c = c.accepted.ensures.valid c.in_ok-card_from.ensures.bounds
