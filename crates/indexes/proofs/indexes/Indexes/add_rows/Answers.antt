use Rattle.std.proofs.Common.{◌≡◌, sym, ap, ◌∙◌, subst, suc, ◌∷◌, [], ◌++◌, Some, length, take, arith}
use Rattle.std.specs.Prelude.{is_some}
use Rattle.std.specs.Option.{option_copied}
use Rattle.std.proofs.lemmas.List.{length-append}
use Rattle.mailbox_model.specs.Chats.{chat, chat_among, is_id_among}
use Rattle.mailbox_model.specs.Present.{present}
use Rattle.indexes.specs.Kept.{AreDeadlines, AreStates}
use Rattle.indexes.proofs.CardsSoFar.{next_mail}
use Rattle.indexes.proofs.RowsSoFar.{cost_of, its_mail, its_place, its_kind, no_other, within, cost_more, within_more, has_room, taken, states_stay, deadlines_stay, cost_stays, rest_more}
use Rattle.indexes.proofs.indexes.Indexes.add_rows.Goals as goal

pub returns-in_err-key-clause-cost : goal.returns-in_err-key-clause-cost
returns-in_err-key-clause-cost g c =
    let m = c.args.mailbox.now.mailbox in
    let rules = c.keeps_rules.ensures in
    let n = length c.loop-spot.yielded in
    let place = c.in-Some.spot.now in
    let here = next_mail m c.args.spots.now.keys c.requires.spots c.into_iter-spot-iterator.result c.loop-spot.spot-iterator c.next.new.self c.into_iter-spot-iterator.ensures.into_iter_gives.0 c.loop-spot.yielded c.loop-spot.yielded_by c.next.result c.in-Some.spot c.in-Some.is c.next.ensures.steps in
    omega (arith, c.loop-spot.invariant.read, within m rules n place here)

pub add_row-requires-clause-there : goal.add_row-requires-clause-there
add_row-requires-clause-there g c =
    let m = c.args.mailbox.now.mailbox in
    let rules = c.keeps_rules.ensures in
    let n = length c.loop-spot.yielded in
    let place = c.in-Some.spot.now in
    let here = next_mail m c.args.spots.now.keys c.requires.spots c.into_iter-spot-iterator.result c.loop-spot.spot-iterator c.next.new.self c.into_iter-spot-iterator.ensures.into_iter_gives.0 c.loop-spot.yielded c.loop-spot.yielded_by c.next.result c.in-Some.spot c.in-Some.is c.next.ensures.steps in
    its_place m rules n place here

pub add_row-requires-clause-room : goal.add_row-requires-clause-room
add_row-requires-clause-room g c state kept =
    let m = c.args.mailbox.now.mailbox in
    let rules = c.keeps_rules.ensures in
    let n = length c.loop-spot.yielded in
    let place = c.in-Some.spot.now in
    let here = next_mail m c.args.spots.now.keys c.requires.spots c.into_iter-spot-iterator.result c.loop-spot.spot-iterator c.next.new.self c.into_iter-spot-iterator.ensures.into_iter_gives.0 c.loop-spot.yielded c.loop-spot.yielded_by c.next.result c.in-Some.spot c.in-Some.is c.next.ensures.steps in
    let same = ap (λ x. x.links.cites) c.loop-spot.invariant.rest ∙ c.requires.cards.links in
    let is = sym (its_kind m rules n place here) ∙ sym (ap (λ ts. is_id_among ts place.id) same) ∙ sym c.chat_of.ensures.kept ∙ ap is_some c.in-Some-chat_of.is in
    has_room m rules n place here is c.loop-spot.self.chats c.loop-spot.invariant.states c.in_ok-key.key state kept

pub loop-spot-preserved-in-Continue-branch-2 : goal.loop-spot-preserved-in-Continue-branch-2
loop-spot-preserved-in-Continue-branch-2 g c =
    let m = c.args.mailbox.now.mailbox in
    let rules = c.keeps_rules.ensures in
    let n = length c.loop-spot.yielded in
    let place = c.in-Some.spot.now in
    let here = next_mail m c.args.spots.now.keys c.requires.spots c.into_iter-spot-iterator.result c.loop-spot.spot-iterator c.next.new.self c.into_iter-spot-iterator.ensures.into_iter_gives.0 c.loop-spot.yielded c.loop-spot.yielded_by c.next.result c.in-Some.spot c.in-Some.is c.next.ensures.steps in
    let same = ap (λ x. x.links.cites) c.loop-spot.invariant.rest ∙ c.requires.cards.links in
    let is = sym (its_kind m rules n place here) ∙ sym (ap (λ ts. is_id_among ts place.id) same) ∙ sym c.chat_of.ensures.kept ∙ ap is_some c.in-Some-chat_of.is in
    let so_far = take n (present m) in
    let t = here.one in
    let at = its_mail m rules n place here in
    let more : length (c.loop-spot.yielded ++ c.in-Some.spot ∷ []) ≡ suc n = omega (arith, length-append c.loop-spot.yielded (c.in-Some.spot ∷ [])) in
    let in_chat = ap (λ s. chat m s.id) here.at ∙ sym (ap (λ ts. chat_among ts place.id) same) ∙ sym c.chat_of.ensures.chat ∙ ap option_copied c.in-Some-chat_of.is ∙ ap Some (sym c.in_ok-key.ensures) in
    let done = taken m rules n place here (length (c.loop-spot.yielded ++ c.in-Some.spot ∷ [])) more in
    record {
      states = subst (λ ts. AreStates m ts c.add_row.new.self.chats) (sym done) (c.in_ok-add_row.ensures.states t so_far at is in_chat c.loop-spot.invariant.states);
      deadlines = subst (λ ts. AreDeadlines m ts c.add_row.new.self.timers) (sym done) (c.in_ok-add_row.ensures.deadlines t so_far at is (no_other m rules n place here) c.loop-spot.invariant.deadlines);
      rest = rest_more c.args.self.now c.loop-spot.self c.add_row.new.self c.loop-spot.invariant.rest c.in_ok-add_row.ensures.rest;
      read = omega (arith, c.in_ok-add_row.ensures.cost, c.loop-spot.invariant.read, ap (cost_of m rules n place here) done, ap (cost_of m rules n place here) here.more, cost_more m rules n place here is);
    }

pub returns-in_err-add_row-clause-cost : goal.returns-in_err-add_row-clause-cost
returns-in_err-add_row-clause-cost g c =
    let m = c.args.mailbox.now.mailbox in
    let rules = c.keeps_rules.ensures in
    let n = length c.loop-spot.yielded in
    let place = c.in-Some.spot.now in
    let here = next_mail m c.args.spots.now.keys c.requires.spots c.into_iter-spot-iterator.result c.loop-spot.spot-iterator c.next.new.self c.into_iter-spot-iterator.ensures.into_iter_gives.0 c.loop-spot.yielded c.loop-spot.yielded_by c.next.result c.in-Some.spot c.in-Some.is c.next.ensures.steps in
    let same = ap (λ x. x.links.cites) c.loop-spot.invariant.rest ∙ c.requires.cards.links in
    let is = sym (its_kind m rules n place here) ∙ sym (ap (λ ts. is_id_among ts place.id) same) ∙ sym c.chat_of.ensures.kept ∙ ap is_some c.in-Some-chat_of.is in
    omega (arith, c.in_err-add_row.ensures.cost, c.loop-spot.invariant.read, within_more m rules n place here is)

pub loop-spot-preserved : goal.loop-spot-preserved
loop-spot-preserved g c =
    let m = c.args.mailbox.now.mailbox in
    let rules = c.keeps_rules.ensures in
    let n = length c.loop-spot.yielded in
    let place = c.in-Some.spot.now in
    let here = next_mail m c.args.spots.now.keys c.requires.spots c.into_iter-spot-iterator.result c.loop-spot.spot-iterator c.next.new.self c.into_iter-spot-iterator.ensures.into_iter_gives.0 c.loop-spot.yielded c.loop-spot.yielded_by c.next.result c.in-Some.spot c.in-Some.is c.next.ensures.steps in
    let same = ap (λ x. x.links.cites) c.loop-spot.invariant.rest ∙ c.requires.cards.links in
    let is = sym (its_kind m rules n place here) ∙ sym (ap (λ ts. is_id_among ts place.id) same) ∙ sym c.chat_of.ensures.kept ∙ ap is_some c.in_default.is in
    let k = length (c.loop-spot.yielded ++ c.in-Some.spot ∷ []) in
    let more : k ≡ suc n = omega (arith, length-append c.loop-spot.yielded (c.in-Some.spot ∷ [])) in
    record {
      states = states_stay m rules n place here k more is c.loop-spot.self.chats c.loop-spot.invariant.states;
      deadlines = deadlines_stay m rules n place here k more is c.loop-spot.self.timers c.loop-spot.invariant.deadlines;
      rest = c.loop-spot.invariant.rest;
      read = omega (arith, c.loop-spot.invariant.read, cost_stays m rules n place here k more is);
    }
