use Rattle.std.proofs.Common.{ap, ◌∙◌, map}
use Rattle.lists.specs.Distinct.{are_distinct, each_once}
use Rattle.lists.proofs.DistinctLaws.{are_distinct_once}
use Rattle.chat_card.proofs.envelope.addresses.Goals as goal

pub returns-clause-value : goal.returns-clause-value
returns-clause-value c =
    c.from.ensures ∙ c.in_ok-each_once.ensures
    ∙ ap each_once (c.in_ok-addrs.ensures ∙ ap (λ people. map (λ person. person.addr) people) c.in_ok-people.ensures.value)

pub returns-clause-once : goal.returns-clause-once
returns-clause-once c = ap are_distinct (c.from.ensures ∙ c.in_ok-each_once.ensures) ∙ are_distinct_once c.in_ok-addrs.addrs.items
