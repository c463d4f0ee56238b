use Rattle.std.proofs.Common.{sym, ap, ◌∙◌, subst, ◌||◌, arith}
use Rattle.std.specs.Prelude.{sum_by}
use Rattle.std.specs.List.{list_any}
use Rattle.std.proofs.Math.Bool.{or_assoc}
use Rattle.std.proofs.lemmas.List.Sums.{sum_by-cons}
use Rattle.mailbox_model.specs.Chats.{chat, is_chat}
use Rattle.chat_states.specs.States.{has_key}
use Rattle.touched_chats.specs.Costs.{settle_reads}
use Rattle.repair.specs.Cards.{IsBetween}
use Rattle.repair.proofs.Between.{rest_through}
use Rattle.repair.proofs.whole.settle_all.Goals as goal

pub loop-id-preserved : goal.loop-id-preserved
loop-id-preserved g c =
    let m = c.args.mailbox.now.mailbox in
    let n = c.args.view.now in
    let id = c.in-Some.id in
    let left = c.next_of.new.ids.keys in
    let first = c.in-Some.ensures.some in
    let settled = c.in_ok-settle.ensures in
    record {
      between = λ start.
          settled.between left c.args.indexes.now c.in-Some.ensures.once
          (subst (λ ids. IsBetween m n ids c.loop-id.noted c.args.indexes.now c.loop-id.indexes) first (c.loop-id.invariant.between start));
      touched = λ key.
          ap (λ b. b || list_any (λ i. is_chat key (chat m i) || is_chat key (chat n i)) left) (settled.touched key)
          ∙ or_assoc (has_key c.loop-id.noted.touched key) (is_chat key (chat m id) || is_chat key (chat n id)) (list_any (λ i. is_chat key (chat m i) || is_chat key (chat n i)) left)
          ∙ ap (λ ids. has_key c.loop-id.noted.touched key || list_any (λ i. is_chat key (chat m i) || is_chat key (chat n i)) ids) (sym first)
          ∙ c.loop-id.invariant.touched key;
      rest = rest_through c.args.indexes.now c.loop-id.indexes c.settle.new.indexes c.loop-id.invariant.rest settled.rest;
      read = omega (arith, c.settle.ensures.cost, c.loop-id.invariant.read, ap (sum_by (settle_reads m n)) first, sum_by-cons (settle_reads m n) id left);
    }
