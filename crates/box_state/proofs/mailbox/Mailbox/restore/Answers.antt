use Rattle.std.proofs.Common.{sym, ap, ◌∙◌, subst, rules, map-id, []}
use Rattle.std.proofs.lemmas.Iterator.Adapters.{YieldsList-from_vec}
use Rattle.std.proofs.lemmas.Iterator.Consumers.{YieldsList-end, YieldsList-so_far, YieldsList-turn}
use Rattle.mailbox_model.specs.Mailbox.{IsMailbox}
use Rattle.box_state.specs.Kept.{entries_of, mailbox_of}
use Rattle.box_state.specs.Entries.{with_item}
use Rattle.box_state.proofs.Restored.{front_keeps, entries_more, Goes, next_goes}
use Rattle.box_state.proofs.mailbox.Mailbox.restore.Goals as goal

pub without_mails-mailbox-requires : goal.without_mails-mailbox-requires
without_mails-mailbox-requires c =
    record { rules = front_keeps (mailbox_of c.args.me c.args.now c.args.next_uid []) [] (entries_of c.args.items.items) c.requires.rules }

pub loop-item-init : goal.loop-item-init
loop-item-init c = record { made = c.without_mails-mailbox.ensures.mailbox; ready = c.without_mails-mailbox.ensures.ready }

goes : (c : goal.After-mailbox-1) → Goes (mailbox_of c.args.me c.args.now c.args.next_uid c.loop-item.yielded) c.in-Some.item c.in-Some.card
goes c =
    let taken = c.loop-item.yielded in
    let road = YieldsList-from_vec {s = c.into_iter-item-iterator.result} c.args.items.items (search rules) (search rules) in
    let so_far = YieldsList-so_far road taken c.loop-item.item-iterator c.loop-item.yielded_by in
    let turn = YieldsList-turn road taken c.loop-item.item-iterator c.loop-item.yielded_by c.next.result c.next.new.self (c.in-Some.item, c.in-Some.card) c.in-Some.is c.next.ensures.steps in
    next_goes c.args.me c.args.now c.args.next_uid c.args.items.items taken c.in-Some.item c.in-Some.card (sym (map-id taken) ∙ so_far) turn.0 turn.1 c.requires.beside c.requires.rules

pub put_item-requires-clause-beside : goal.put_item-requires-clause-beside
put_item-requires-clause-beside c = (goes c).beside

pub put_item-requires-clause-rules : goal.put_item-requires-clause-rules
put_item-requires-clause-rules c =
    subst (λ m. IsMailbox (with_item m c.in-Some.item c.in-Some.card)) (sym c.loop-item.invariant.made) (goes c).rules

pub loop-item-preserved : goal.loop-item-preserved
loop-item-preserved c = record {
  made =
      c.in_ok-put_item.ensures.mailbox ∙ ap (λ m. with_item m c.in-Some.item c.in-Some.card) c.loop-item.invariant.made
      ∙ ap (λ es. record (mailbox_of c.args.me c.args.now c.args.next_uid []) { entries = es }) (sym (entries_more c.loop-item.yielded c.in-Some.item c.in-Some.card));
  ready = c.in_ok-put_item.ensures.ready;
}

pub returns-clause-mailbox : goal.returns-clause-mailbox
returns-clause-mailbox c =
    let taken = c.loop-item.yielded in
    let road = YieldsList-from_vec {s = c.into_iter-item-iterator.result} c.args.items.items (search rules) (search rules) in
    let end = YieldsList-end road taken c.loop-item.item-iterator c.loop-item.yielded_by c.next.result c.next.new.self c.in-None.is c.next.ensures.steps in
    c.loop-item.invariant.made ∙ ap (mailbox_of c.args.me c.args.now c.args.next_uid) (sym (map-id taken) ∙ end.0)

pub returns-clause-ready : goal.returns-clause-ready
returns-clause-ready c = c.loop-item.invariant.ready
