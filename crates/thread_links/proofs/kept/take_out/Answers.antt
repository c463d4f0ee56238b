use Rattle.std.proofs.Common.{◌∙◌, sym, ap}
use Rattle.std.specs.Prelude.{if◌then◌else◌}
use Rattle.lists.specs.Ordered.{values_at}
use Rattle.card_type.specs.Effects.{is_among}
use Rattle.thread_links.proofs.Citing.{but}
use Rattle.thread_links.proofs.KeptLaws.{looked}
use Rattle.thread_links.proofs.ChangeLaws.{under_of, is_kept, left_index, left_cites, left_chats}
use Rattle.thread_links.proofs.kept.take_out.Goals as goal

pub returns-in_err-gone-clause-gone : goal.returns-in_err-gone-clause-gone
returns-in_err-gone-clause-gone c =
    let es = c.args.kept.now.entries in
    absurd (is_kept es (under_of es c.args.cited.now c.requires.index) c.args.id.now c.requires.there (sym (looked es c.args.id.now) ∙ sym c.remove.ensures.value ∙ c.in_err-gone.was))

pub returns-in_err-gone-clause-cites : goal.returns-in_err-gone-clause-cites
returns-in_err-gone-clause-cites c =
    let es = c.args.kept.now.entries in
    absurd (is_kept es (under_of es c.args.cited.now c.requires.index) c.args.id.now c.requires.there (sym (looked es c.args.id.now) ∙ sym c.remove.ensures.value ∙ c.in_err-gone.was))

pub returns-in_err-gone-clause-chats : goal.returns-in_err-gone-clause-chats
returns-in_err-gone-clause-chats c =
    let es = c.args.kept.now.entries in
    absurd (is_kept es (under_of es c.args.cited.now c.requires.index) c.args.id.now c.requires.there (sym (looked es c.args.id.now) ∙ sym c.remove.ensures.value ∙ c.in_err-gone.was))

pub returns-clause-gone : goal.returns-clause-gone
returns-clause-gone c = sym (sym (looked c.args.kept.now.entries c.args.id.now) ∙ sym c.remove.ensures.value ∙ c.in_ok-gone.was)

pub returns-clause-index : goal.returns-clause-index
returns-clause-index c =
    let es = c.args.kept.now.entries in
    let k = c.in_ok-gone.gone in
    let found = sym (looked es c.args.id.now) ∙ sym c.remove.ensures.value ∙ c.in_ok-gone.was in
    left_index es c.remove.new.self.entries c.args.cited.now c.uncite.new.cited c.requires.index c.remove.ensures.ordered c.args.id.now k found c.remove.ensures.updates.0
    (λ q. c.uncite.ensures q ∙ ap (λ ids. if is_among ids q then but k.cites.spot (values_at c.args.cited.now q) else values_at c.args.cited.now q) c.as_slice.ensures)

pub returns-clause-cites : goal.returns-clause-cites
returns-clause-cites c =
    let es = c.args.kept.now.entries in
    let found = sym (looked es c.args.id.now) ∙ sym c.remove.ensures.value ∙ c.in_ok-gone.was in
    left_cites es c.remove.new.self.entries c.args.cited.now c.uncite.new.cited c.requires.index c.remove.ensures.ordered c.args.id.now c.in_ok-gone.gone found c.remove.ensures.updates.0

pub returns-clause-chats : goal.returns-clause-chats
returns-clause-chats c =
    let es = c.args.kept.now.entries in
    let found = sym (looked es c.args.id.now) ∙ sym c.remove.ensures.value ∙ c.in_ok-gone.was in
    left_chats es c.remove.new.self.entries c.args.cited.now c.uncite.new.cited c.requires.index c.remove.ensures.ordered c.args.id.now c.in_ok-gone.gone found c.remove.ensures.updates.0
