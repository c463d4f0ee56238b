use Rattle.std.proofs.Common.{◌≡◌, sym, ◌∙◌, subst, ◌||◌, ◌&&◌, [], arith}
use Rattle.std.specs.Prelude.{is_some}
use Rattle.std.specs.FinMap as map_of
use Rattle.std.specs.Str.{bytes_eq}
use Rattle.std.proofs.lemmas.Bool.{or_parts}
use Rattle.std.proofs.lemmas.Result.{IfOk-weaker, on_ok_weaker}
use Rattle.card_type.specs.declared.key.ChatKey.{ChatKey}
use Rattle.card_type.specs.Effects.{is_among}
use Rattle.card_type.specs.Keys.{key_eq}
use Rattle.mailbox_model.specs.Lists.{Bytes}
use Rattle.touched_chats.specs.Costs.{touched_keys, AreHeld}
use Rattle.touched_chats.specs.Suspects.{is_renamed, is_suspect_card}
use Rattle.chat_states.specs.States.{has_key}
use Rattle.indexes.specs.Kept.{AreKept}
use Rattle.repair.specs.Cards.{IsBetween}
use Rattle.repair.specs.Named.{AreNamed}
use Rattle.repair.specs.Repaired.{AreTouched}
use Rattle.repair.proofs.Course.{all_touched, begins, cards_end, each_suspect, ends, fits, none_once, one_each, rules_after, turn_is}
use Rattle.repair.proofs.Finished.{has_state}
use Rattle.repair.proofs.Sets.{keys_once}
use Rattle.repair.proofs.TouchedBy.{held_ones, touched_ones}
use Rattle.repair.proofs.whole.repair.Given.{Over}
use Rattle.repair.proofs.whole.repair.Goals.{In_ok-ids, In_ok-noted, In_ok-note_renamed}
use Rattle.repair.proofs.whole.repair.Goals as goal

-- ---- what is known once the cards are settled

-- the ids are those of the suspect cards
suspects : (g : Over) (c : In_ok-ids g) (id : Bytes) → is_among c.in_ok-ids.ids.keys id ≡ is_suspect_card c.args.mailbox.now.mailbox c.after-view.result c.args.turn.now id
suspects g c = c.in_ok-ids.ensures.ids c.args.turn.now c.turned_cards-cards.ensures.cards

settled : (g : Over) (c : In_ok-noted g) → IsBetween c.args.mailbox.now.mailbox c.after-view.result [] c.in_ok-noted.noted c.ids_to_settle.new.indexes c.settle_all.new.indexes
settled g c =
    c.in_ok-noted.ensures.between
    (begins c.args.mailbox.now.mailbox c.args.change.now c.args.turn.now c.requires.coming c.after-view.result c.after-view.ensures
    c.args.indexes.now c.reindex.new.indexes c.ids_to_settle.new.indexes c.requires.kept c.in_ok-moves.ensures.rest c.in_ok-ids.ensures.rest c.in_ok-ids.ensures.timers
    c.in_ok-ids.ids.keys (c.in_ok-ids.ensures.ids c.args.turn.now c.turned_cards-cards.ensures.cards))

held : (g : Over) (c : In_ok-noted g) → AreHeld (touched_keys c.args.mailbox.now.mailbox c.after-view.result c.args.turn.now) c.in_ok-noted.noted.unsettled
held g c =
    held_ones c.args.mailbox.now.mailbox c.after-view.result c.args.turn.now c.in_ok-ids.ids.keys (c.in_ok-ids.ensures.ids c.args.turn.now c.turned_cards-cards.ensures.cards)
    c.in_ok-noted.noted.unsettled (λ key h. sym (c.in_ok-noted.ensures.touched key) ∙ (settled g c).marked key h)

-- ---- what is asked on the way

pub turned_cards-cards-requires-clause-turn : goal.turned_cards-cards-requires-clause-turn
turned_cards-cards-requires-clause-turn g c =
    turn_is c.args.mailbox.now.mailbox c.args.change.now c.args.turn.now c.requires.coming c.after-view.result c.after-view.ensures

pub turned_cards-cards-requires-clause-uids : goal.turned_cards-cards-requires-clause-uids
turned_cards-cards-requires-clause-uids g c =
    one_each c.args.mailbox.now.mailbox c.args.change.now c.args.turn.now c.requires.coming c.after-view.result c.after-view.ensures

pub reindex-requires-clause-turn : goal.reindex-requires-clause-turn
reindex-requires-clause-turn g c =
    turn_is c.args.mailbox.now.mailbox c.args.change.now c.args.turn.now c.requires.coming c.after-view.result c.after-view.ensures

pub settle_all-requires-clause-uids : goal.settle_all-requires-clause-uids
settle_all-requires-clause-uids g c =
    one_each c.args.mailbox.now.mailbox c.args.change.now c.args.turn.now c.requires.coming c.after-view.result c.after-view.ensures

pub refold_all-requires : goal.refold_all-requires
refold_all-requires g c = record { states = (settled g (goal.at.refold_all-requires g c).In_ok-noted).states }

-- ---- what is read

pub returns-in_err-ids-clause-cost : goal.returns-in_err-ids-clause-cost
returns-in_err-ids-clause-cost g c =
    let m = c.args.mailbox.now.mailbox in
    let n = c.after-view.result in
    let due = c.ids_to_settle.ensures.cost in
    let all = fits m c.args.change.now c.args.turn.now c.requires.coming n c.after-view.ensures [] [] due.uids (none_once bytes_eq) tt (none_once key_eq) tt due.once due.due in
    omega (arith, due.cost, c.reindex.ensures.cost, c.turned_cards-cards.ensures.cost, all)

pub returns-in_err-noted-clause-cost : goal.returns-in_err-noted-clause-cost
returns-in_err-noted-clause-cost g c =
    let m = c.args.mailbox.now.mailbox in
    let n = c.after-view.result in
    let due = c.ids_to_settle.ensures.cost in
    let ids = c.in_ok-ids.ids.keys in
    let each = each_suspect m c.args.change.now c.args.turn.now c.requires.coming n c.after-view.ensures ids (suspects g (goal.at.returns-in_err-noted-clause-cost g c).In_ok-ids) in
    let all = fits m c.args.change.now c.args.turn.now c.requires.coming n c.after-view.ensures ids [] due.uids c.in_ok-ids.ensures.once each (none_once key_eq) tt due.once due.due in
    omega (arith, due.cost, c.reindex.ensures.cost, c.turned_cards-cards.ensures.cost, c.settle_all.ensures.cost, all)

pub returns-in_err-refold_all-clause-cost : goal.returns-in_err-refold_all-clause-cost
returns-in_err-refold_all-clause-cost g c =
    let m = c.args.mailbox.now.mailbox in
    let n = c.after-view.result in
    let due = c.ids_to_settle.ensures.cost in
    let ids = c.in_ok-ids.ids.keys in
    let keys = c.in_ok-noted.noted.unsettled in
    let each = each_suspect m c.args.change.now c.args.turn.now c.requires.coming n c.after-view.ensures ids (suspects g (goal.at.returns-in_err-refold_all-clause-cost g c).In_ok-ids) in
    let all = fits m c.args.change.now c.args.turn.now c.requires.coming n c.after-view.ensures ids keys due.uids c.in_ok-ids.ensures.once each (keys_once keys c.len-len.ensures.order) (held g (goal.at.returns-in_err-refold_all-clause-cost g c).In_ok-noted) due.once due.due in
    omega (arith, due.cost, c.reindex.ensures.cost, c.turned_cards-cards.ensures.cost, c.settle_all.ensures.cost, c.refold_all.ensures.cost, all)

pub returns-in_err-note_renamed-clause-cost : goal.returns-in_err-note_renamed-clause-cost
returns-in_err-note_renamed-clause-cost g c =
    let m = c.args.mailbox.now.mailbox in
    let n = c.after-view.result in
    let due = c.ids_to_settle.ensures.cost in
    let ids = c.in_ok-ids.ids.keys in
    let keys = c.in_ok-noted.noted.unsettled in
    let each = each_suspect m c.args.change.now c.args.turn.now c.requires.coming n c.after-view.ensures ids (suspects g (goal.at.returns-in_err-note_renamed-clause-cost g c).In_ok-ids) in
    let all = fits m c.args.change.now c.args.turn.now c.requires.coming n c.after-view.ensures ids keys due.uids c.in_ok-ids.ensures.once each (keys_once keys c.len-len.ensures.order) (held g (goal.at.returns-in_err-note_renamed-clause-cost g c).In_ok-noted) due.once due.due in
    omega (arith, due.cost, c.reindex.ensures.cost, c.turned_cards-cards.ensures.cost, c.settle_all.ensures.cost, c.refold_all.ensures.cost, all)

pub returns-clause-cost : goal.returns-clause-cost
returns-clause-cost g c =
    let m = c.args.mailbox.now.mailbox in
    let n = c.after-view.result in
    let due = c.ids_to_settle.ensures.cost in
    let ids = c.in_ok-ids.ids.keys in
    let keys = c.in_ok-noted.noted.unsettled in
    let each = each_suspect m c.args.change.now c.args.turn.now c.requires.coming n c.after-view.ensures ids (suspects g (goal.at.returns-clause-cost g c).In_ok-ids) in
    let all = fits m c.args.change.now c.args.turn.now c.requires.coming n c.after-view.ensures ids keys due.uids c.in_ok-ids.ensures.once each (keys_once keys c.len-len.ensures.order) (held g (goal.at.returns-clause-cost g c).In_ok-noted) due.once due.due in
    omega (arith, due.cost, c.reindex.ensures.cost, c.turned_cards-cards.ensures.cost, c.settle_all.ensures.cost, c.refold_all.ensures.cost, all)

-- ---- what stands at the end

-- the touched chats are those of the suspect cards, and those of renamed contacts
final : (g : Over) (c : In_ok-note_renamed g) → IsBetween c.args.mailbox.now.mailbox c.after-view.result [] c.in_ok-noted.noted c.ids_to_settle.new.indexes c.settle_all.new.indexes
    → (key : ChatKey) → has_key c.note_renamed.new.keys key
    ≡ (has_key c.in_ok-noted.noted.touched key || (is_renamed c.args.mailbox.now.mailbox c.after-view.result c.args.turn.now key && is_some (map_of.get c.refold_all.new.chats key)))
final g c between =
    c.in_ok-note_renamed.ensures c.args.mailbox.now.mailbox c.after-view.result c.args.turn.now c.args.indexes.now.contacts c.turned_cards-cards.result
    c.requires.kept.cards.contacts
    (cards_end c.args.mailbox.now.mailbox c.args.change.now c.args.turn.now c.requires.coming c.after-view.result c.after-view.ensures c.reindex.new.indexes c.ids_to_settle.new.indexes c.settle_all.new.indexes c.in_ok-noted.noted
    c.in_ok-ids.ensures.rest c.in_ok-moves.ensures.cards between).contacts
    c.turned_cards-cards.ensures.cards
    (subst (AreNamed c.args.indexes.now.contacts c.turned_cards-cards.result) (sym c.deref.ensures.value) c.in_ok-named.ensures)

pub returns-clause-kept : goal.returns-clause-kept
returns-clause-kept g c =
    let m = c.args.mailbox.now.mailbox in
    let n = c.after-view.result in
    let y = c.settle_all.new.indexes in
    let last = final g (goal.at.returns-clause-kept g c).In_ok-note_renamed (settled g (goal.at.returns-clause-kept g c).In_ok-noted) in
    on_ok_weaker c.renew_places.result (λ ordered.
    subst (λ x. AreKept x (record y { chats = c.refold_all.new.chats; order = c.renew_places.new.order })) c.after-view.ensures
    (ends m c.args.change.now c.args.turn.now c.requires.coming n c.after-view.ensures c.reindex.new.indexes c.ids_to_settle.new.indexes y c.in_ok-noted.noted
    c.in_ok-ids.ensures.rest c.in_ok-moves.ensures.cards (settled g (goal.at.returns-clause-kept g c).In_ok-noted)
    c.args.indexes.now c.refold_all.new.chats c.renew_places.new.order c.requires.kept c.in_ok-moves.ensures.rest c.in_ok-refold_all.ensures.states
    c.note_renamed.new.keys
    (λ key h. (or_parts (has_key c.in_ok-noted.noted.touched key) (is_renamed m n c.args.turn.now key && is_some (map_of.get c.refold_all.new.chats key)) (sym (last key) ∙ h)).0)
    c.in_ok-refold_all.ensures.others ordered)) c.renew_places.ensures.order

pub returns-clause-touched : goal.returns-clause-touched
returns-clause-touched g c =
    let m = c.args.mailbox.now.mailbox in
    let n = c.after-view.result in
    let turns = c.args.turn.now in
    let ids = c.in_ok-ids.ids.keys in
    let last = final g (goal.at.returns-clause-touched g c).In_ok-note_renamed (settled g (goal.at.returns-clause-touched g c).In_ok-noted) in
    let rules = rules_after m c.args.change.now turns c.requires.coming n c.after-view.ensures in
    let all = all_touched m c.args.change.now turns c.requires.coming n c.after-view.ensures c.note_renamed.new.keys
    (λ key.
    last key
    ∙ (λ i. c.in_ok-noted.ensures.touched key i || (is_renamed m n turns key && has_state n rules c.refold_all.new.chats c.in_ok-refold_all.ensures.states key i))
    ∙ touched_ones m n turns ids (suspects g (goal.at.returns-clause-touched g c).In_ok-ids) key)
    c.renew_places.ensures.sorted in
    IfOk-weaker c.renew_places.result (λ keys. keys.items ≡ c.note_renamed.new.keys) (λ keys. AreTouched m c.args.change.now keys.items) (λ keys same. subst (AreTouched m c.args.change.now) (sym same) all) c.renew_places.ensures.keys
