-- How many reads of kept cards a trial may take.
use Rattle.std.specs.Prelude.{ℕ, ◌+◌, sum_by}
use Rattle.std.specs.Option.{option_map_or}
use Rattle.mailbox_model.specs.ChatList.{list_page}
use Rattle.mailbox_model.specs.Lists.{Bytes}
use Rattle.mailbox_model.specs.Mailbox.{Mailbox, empty_mailbox}
use Rattle.indexes.specs.Costs.{list_cost, page_cost}
use Rattle.touched_chats.specs.Costs.{change_costs}
use Rattle.trial.specs.Trials.{trial_changes, trial_mailbox}

-- for the pages of all chats in the list, one after the other
abbrev pub pages_cost : Mailbox → ℕ
pages_cost m = sum_by (λ row. page_cost m row.key) (list_page m).rows

-- for the list and the pages
abbrev pub summary_cost : Mailbox → ℕ
summary_cost m = list_cost m + pages_cost m

-- for the moment and the arrivals of all mails
abbrev pub making_cost : Bytes → ℕ → ℕ
making_cost me number = change_costs (empty_mailbox me) (trial_changes me number)

-- Where the mailbox has no place for one of the mails nothing is asked. The mails after it count all the same.
abbrev pub trial_cost : Bytes → ℕ → ℕ
trial_cost me number = making_cost me number + option_map_or summary_cost (trial_mailbox me number) 0
