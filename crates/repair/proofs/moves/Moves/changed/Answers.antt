use Rattle.std.proofs.Common.{◌≡◌, ◌∙◌, sym, ap, Option, ◌∷◌, [], ◌||◌, not, map}
use Rattle.std.specs.List.{list_any}
use Rattle.std.specs.Map.Iter.{deref_pair}
use Rattle.std.specs.Option.{option_copied, option_eq}
use Rattle.std.specs.Str.{bytes_eq}
use Rattle.std.proofs.lemmas.List.{map-append}
use Rattle.std.proofs.lemmas.Map.Iter.{iter_end}
use Rattle.card_type.specs.Keys.{key_eq}
use Rattle.card_type.specs.declared.key.ChatKey.{ChatKey}
use Rattle.mailbox_model.specs.Lists.{Bytes}
use Rattle.mailbox_model.specs.Chats.{chat_among}
use Rattle.repair.specs.Moves.{chat_before}
use Rattle.repair.proofs.Noted.{Entries}
use Rattle.repair.proofs.Changed.{is_changed, changed_among, lent_chats, one_changed, one_same}
use Rattle.repair.proofs.Sets.{id_more}
use Rattle.repair.proofs.moves.Moves.changed.Goals as goal
use Rattle.repair.proofs.moves.Moves.changed.Goals.{After-ne}

-- whether the chats of this turn differ is told of them as they are
differs : (c : After-ne) → c.ne.result ≡ not (option_eq key_eq c.in-Some.before.now (chat_among c.args.links.now.cites c.in-Some.id.now))
differs c =
    c.ne.ensures ∙ ap not (lent_chats c.as_ref.result c.chat_of.result)
    ∙ ap (λ o. not (option_eq key_eq o (option_copied c.chat_of.result))) c.as_ref.ensures.value
    ∙ ap (λ o. not (option_eq key_eq c.in-Some.before.now o)) c.chat_of.ensures.chat

pub loop-id-preserved-in_ok-insert : goal.loop-id-preserved-in_ok-insert
loop-id-preserved-in_ok-insert c id =
    let now = c.args.links.now.cites in
    let seen = map deref_pair c.loop-id.yielded in
    let e : Bytes × Option ChatKey = (c.in-Some.id.now, c.in-Some.before.now) in
    let keys = c.loop-id.ids.keys in
    let put = id_more keys c.insert.new.self.keys c.in_ok-copy.field-0 c.in_ok-insert.ensures.updates.0 in
    one_changed now c.args.ids.now.keys keys seen e c.loop-id.invariant (sym (differs (goal.at.loop-id-preserved-in_ok-insert c).After-ne) ∙ c.if-ne.true) c.insert.new.self.keys
    (λ q. put q ∙ ap (λ k. list_any (bytes_eq q) keys || bytes_eq q k) c.in_ok-copy.ensures) id
    ∙ ap (λ es. list_any (bytes_eq id) c.args.ids.now.keys || list_any (is_changed now id) es) (sym (map-append deref_pair c.loop-id.yielded ((c.in-Some.id, c.in-Some.before) ∷ [])))

pub loop-id-preserved : goal.loop-id-preserved
loop-id-preserved c id =
    let now = c.args.links.now.cites in
    let seen = map deref_pair c.loop-id.yielded in
    let e : Bytes × Option ChatKey = (c.in-Some.id.now, c.in-Some.before.now) in
    one_same now c.args.ids.now.keys c.loop-id.ids.keys seen e c.loop-id.invariant (sym (differs (goal.at.loop-id-preserved c).After-ne) ∙ c.if-ne.false) id
    ∙ ap (λ es. list_any (bytes_eq id) c.args.ids.now.keys || list_any (is_changed now id) es) (sym (map-append deref_pair c.loop-id.yielded ((c.in-Some.id, c.in-Some.before) ∷ [])))

pub returns : goal.returns
returns c id =
    let es = c.self.inside.before.entries in
    let now = c.args.links.now.cites in
    let start = c.args.ids.now.keys in
    let all = (iter_end deref_pair es c.loop-id.yielded c.into_iter-id-iterator.result c.loop-id.id-iterator c.next.new.self c.next.result c.into_iter-id-iterator.ensures.into_iter_gives.0 c.loop-id.yielded_by c.in-None.is c.next.ensures.steps).0 in
    c.loop-id.invariant id
    ∙ ap (λ entries. list_any (bytes_eq id) start || list_any (is_changed now id) entries) all
    ∙ ap (λ b. list_any (bytes_eq id) start || b) (changed_among now es c.into_iter-id-iterator.ensures.into_iter_gives.5 id)
    ∙ ap (λ (entries : Entries). list_any (bytes_eq id) start || not (option_eq key_eq (chat_before entries now id) (chat_among now id))) c.self.view_is
