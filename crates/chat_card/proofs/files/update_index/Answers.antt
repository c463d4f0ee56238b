use Rattle.std.proofs.Common.{sym, ◌∙◌}
use Rattle.chat_card.proofs.FileLemmas.{index-app, index-file, index-none, index-others}
use Rattle.chat_card.proofs.files.update_index.Goals as goal

pub returns-then-has_app-clause-none : goal.returns-then-has_app-clause-none
returns-then-has_app-clause-none c = index-app c.args.files.now (sym c.has_app.ensures ∙ c.if-has_app.true)

pub returns-clause-none : goal.returns-clause-none
returns-clause-none c = index-none c.args.files.now c.named_index.result (sym c.if-has_app.ensures) c.named_index.ensures.index

pub returns-clause-file : goal.returns-clause-file
returns-clause-file c = index-file c.args.files.now c.named_index.result (sym c.if-has_app.ensures) c.named_index.ensures.index

pub returns-clause-others : goal.returns-clause-others
returns-clause-others c = index-others c.args.files.now c.named_index.result c.named_index.ensures.index
