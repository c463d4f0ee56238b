use Rattle.std.proofs.Common.{◌≡◌, [], ◌++◌, sym, ap, ◌∙◌}
use Rattle.std.specs.List.{cons_option}
use Rattle.mail_address.specs.States.{next, person_at}
use Rattle.mail_address.specs.Tokens.{tokens}
use Rattle.mail_address.specs.Views.{seen, state}
use Rattle.mail_address.proofs.WrittenLaw.{people-written}
use Rattle.mail_address.specs.People.{people}
use Rattle.mail_address.proofs.Rest.{left, left-start, left-none, step}
use Rattle.mail_address.proofs.list.people.Goals as goal

pub loop-token-init : goal.loop-token-init
loop-token-init c =
    let body = c.args.body.now in
    ap (λ found. found ++ left (state c.new-element.result) (tokens body)) c.new-found.ensures.items
    ∙ ap (λ s. left s (tokens body)) c.new-element.ensures
    ∙ left-start body

pub loop-token-preserved : goal.loop-token-preserved
loop-token-preserved c =
    let found = c.loop-token.found.items in
    let s = state c.loop-token.element in
    let t = seen c.in-Some.token in
    let rest = tokens c.in-Some.rest.now in
    ap (λ s. c.push_person.new.found.items ++ left s rest) c.in_ok-take.ensures
    ∙ ap (λ found. found ++ left (next s t) rest) c.in_ok-push_person.ensures
    ∙ ap (λ person. (found ++ cons_option person []) ++ left (next s t) rest) c.in_ok-ended.ensures
    ∙ step found _ s t rest (ap (λ ts. found ++ left s ts) (sym c.in-Some.ensures.0) ∙ c.loop-token.invariant)

pub returns-clause-value : goal.returns-clause-value
returns-clause-value c =
    let found = c.loop-token.found.items in
    let s = state c.loop-token.element in
    let last : left s (tokens c.loop-token.left.now) ≡ cons_option (person_at s) [] = ap (left s) c.in_default.ensures ∙ left-none s in
    let more : c.push_person-2.new.found.items ≡ found ++ cons_option (person_at s) [] =
    c.in_ok-push_person-2.ensures ∙ ap (λ person. found ++ cons_option person []) c.in_ok-person.ensures in
    more ∙ ap (λ people. found ++ people) (sym last) ∙ c.loop-token.invariant

pub returns-clause-written : goal.returns-clause-written
returns-clause-written c = λ addresses all is. returns-clause-value c ∙ ap people is ∙ people-written addresses all
