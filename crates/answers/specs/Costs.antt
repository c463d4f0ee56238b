-- How many reads of kept cards an answer may take.
use Rattle.std.specs.Prelude.{ℕ}
use Rattle.std.specs.Option.{option_map_or}
use Rattle.mailbox_model.specs.Mailbox.{Mailbox}
use Rattle.indexes.specs.Costs.{list_cost, page_cost, row_cost}
use Rattle.answers.specs.Answers.{named_key}
use Rattle.answers.specs.declared.question.Question.{Question}
use Rattle.answers.specs.declared.question.Question.TheVariants as question

-- The cost of what is shown: of the list, of a page, or of the row of an app. A text that names no chat in the list costs
-- nothing. The contacts are not counted.
abbrev pub answer_cost : Mailbox → Question → ℕ
answer_cost m question.List = list_cost m
answer_cost m question.Contacts = 0
answer_cost m (question.Chat text) = option_map_or (page_cost m) (named_key m text) 0
answer_cost m (question.Updates text info) = row_cost m text
