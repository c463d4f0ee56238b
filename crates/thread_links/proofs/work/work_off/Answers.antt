use Rattle.std.proofs.Common.{◌≡◌, ◌∙◌, sym, ap, ℕ, true, is_some, List, inl, inr}
use Rattle.std.specs.List.{list_any}
use Rattle.std.specs.BTreeSet.{contains}
use Rattle.card_type.specs.declared.spot.Spot.{Spot}
use Rattle.card_type.specs.Spots.{spot_cmp}
use Rattle.mailbox_model.specs.declared.links.Cites.{Cites}
use Rattle.mailbox_model.specs.Chats.{moved, chat_among, moves}
use Rattle.lists.specs.Ordered.{values_at}
use Rattle.thread_links.specs.Linked.{citing}
use Rattle.thread_links.specs.Kept.{chat_in, cites_in}
use Rattle.thread_links.specs.Work.{is_later_of}
use Rattle.thread_links.proofs.Citing.{ties}
use Rattle.thread_links.proofs.CitedLaws.{spots_of}
use Rattle.thread_links.proofs.MapLaws.{AreUnder, same_cites_in, same_ids, under_same}
use Rattle.thread_links.proofs.Turns.{turned, passes_on, comes_after, comes_from, is_listed, above_first, left_fewer, chats_right, moves_right, later_there, none_on}
use Rattle.thread_links.proofs.work.work_off.Goals as goal

pub loop-spot-preserved : goal.loop-spot-preserved
loop-spot-preserved c =
    let start = c.args.kept.now.entries in
    let es = c.loop-spot.kept.entries in
    let fs = c.turn.new.kept.entries in
    let spot = c.in-Some.spot in
    let same = c.loop-spot.invariant.cites in
    let list = same_cites_in start es same in
    let spots = λ (id : List ℕ). c.requires.index.spots id ∙ ap (λ ts. spots_of (citing id ts)) (sym list) in
    let moves = is_some (moved spot.id (chat_in es spot.id) (chat_in fs spot.id)) in
    let above = λ (q : Spot) (h : contains spot_cmp c.pop_first.new.self q ≡ true). above_first spot q c.pop_first.new.self.keys c.in-Some.ensures.all_above h in
    let popped = c.in-Some.ensures.updates.0 in
    let pushed = c.in_ok-turn.ensures.work in
    let work = contains spot_cmp c.loop-spot.work in
    let rest = contains spot_cmp c.pop_first.new.self in
    let next = contains spot_cmp c.turn.new.work in
    let cited = values_at c.args.cited.now spot.id in
    let there : (s : Spot) → next s ≡ true → list_any (λ t. ties s t.spot) (cites_in es) ≡ true = λ s h.
    elim (comes_from work rest next spot moves cited popped pushed above s h) [
      | inl on ↦ c.loop-spot.invariant.there s on
      | inr late ↦ later_there (cites_in es) spot.id spot s (ap (λ ss. is_later_of ss spot s) (sym (spots spot.id)) ∙ late)
    ] in
    let under : AreUnder es = under_same start es (record { ids = c.requires.index.ids; under = c.requires.index.under }) (same_ids start es same c.requires.index.ids) same in
    record {
      cites = c.in_ok-turn.ensures.cites ∙ same;
      there = λ s h. ap (list_any (λ (t : Cites). ties s t.spot)) (same_cites_in es fs c.in_ok-turn.ensures.cites) ∙ there s h;
      begun = λ all before b.
          turned es fs under c.args.cited.now spots work next c.loop-spot.told.items c.turn.new.told.items all before (c.loop-spot.invariant.begun all before b) spot
          (c.loop-spot.invariant.there spot c.in-Some.ensures.member)
          (record {
            on = c.in-Some.ensures.member;
            same = c.in_ok-turn.ensures.cites;
            others = c.in_ok-turn.ensures.others;
            chat = c.in_ok-turn.ensures.chat;
            tells = c.in_ok-turn.ensures.told;
            passes = passes_on work rest next spot moves cited popped pushed above;
            after = comes_after work rest next spot moves cited popped pushed above;
            listed = is_listed work rest next spot moves cited popped pushed above;
          });
    }

pub loop-spot-smaller : goal.loop-spot-smaller
loop-spot-smaller c =
    let start = c.args.kept.now.entries in
    let es = c.loop-spot.kept.entries in
    let fs = c.turn.new.kept.entries in
    let spot = c.in-Some.spot in
    let same = c.loop-spot.invariant.cites in
    let list = same_cites_in start es same in
    let spots = λ (id : List ℕ). c.requires.index.spots id ∙ ap (λ ts. spots_of (citing id ts)) (sym list) in
    let moves = is_some (moved spot.id (chat_in es spot.id) (chat_in fs spot.id)) in
    let above = λ (q : Spot) (h : contains spot_cmp c.pop_first.new.self q ≡ true). above_first spot q c.pop_first.new.self.keys c.in-Some.ensures.all_above h in
    let popped = c.in-Some.ensures.updates.0 in
    let pushed = c.in_ok-turn.ensures.work in
    let work = contains spot_cmp c.loop-spot.work in
    let rest = contains spot_cmp c.pop_first.new.self in
    let next = contains spot_cmp c.turn.new.work in
    let cited = values_at c.args.cited.now spot.id in
    let there : (s : Spot) → next s ≡ true → list_any (λ t. ties s t.spot) (cites_in es) ≡ true = λ s h.
    elim (comes_from work rest next spot moves cited popped pushed above s h) [
      | inl on ↦ c.loop-spot.invariant.there s on
      | inr late ↦ later_there (cites_in es) spot.id spot s (ap (λ ss. is_later_of ss spot s) (sym (spots spot.id)) ∙ late)
    ] in
    rw c.in-Some.ensures.removal (left_fewer (cites_in start) spot c.pop_first.new.self.keys c.turn.new.work.keys
    (comes_after work rest next spot moves cited popped pushed above)
    (λ s h. ap (list_any (λ (t : Cites). ties s t.spot)) (sym list) ∙ there s h))

pub returns-clause-chats : goal.returns-clause-chats
returns-clause-chats c all before b id =
    let start = c.args.kept.now.entries in
    let es = c.loop-spot.kept.entries in
    let same = c.loop-spot.invariant.cites in
    let under : AreUnder es = under_same start es (record { ids = c.requires.index.ids; under = c.requires.index.under }) (same_ids start es same c.requires.index.ids) same in
    chats_right es under all before (contains spot_cmp c.loop-spot.work) c.loop-spot.told.items (c.loop-spot.invariant.begun all before b) (none_on c.loop-spot.work.keys c.pop_first.result c.in_default.is c.pop_first.ensures.variant.1) id
    ∙ ap (λ ts. chat_among ts id) (same_cites_in start es same)

pub returns-clause-moves : goal.returns-clause-moves
returns-clause-moves c all before b =
    let start = c.args.kept.now.entries in
    let es = c.loop-spot.kept.entries in
    let same = c.loop-spot.invariant.cites in
    let under : AreUnder es = under_same start es (record { ids = c.requires.index.ids; under = c.requires.index.under }) (same_ids start es same c.requires.index.ids) same in
    moves_right es under all before (contains spot_cmp c.loop-spot.work) c.loop-spot.told.items (c.loop-spot.invariant.begun all before b) (none_on c.loop-spot.work.keys c.pop_first.result c.in_default.is c.pop_first.ensures.variant.1)
    ∙ ap (moves all before) (same_cites_in start es same)
