-- What a mailbox shows, in numbers, and the line that says so.
use Rattle.std.specs.Prelude.{ℕ, Option, option_map, ◌++◌, length, codes, sum_by}
use Rattle.std.specs.Fmt.{decimal}
use Rattle.mailbox_model.specs.ChatList.{list_page}
use Rattle.mailbox_model.specs.Lists.{Bytes}
use Rattle.mailbox_model.specs.Mailbox.{Mailbox}
use Rattle.mailbox_model.specs.Pages.{page_of}
use Rattle.trial.specs.declared.summary.Summary.{Summary}
use Rattle.trial.specs.Trials.{trial_mailbox}

-- how many rows the pages of all chats in the list show
abbrev pub shown_count : Mailbox → ℕ
shown_count m = sum_by (λ row. length (page_of m row.key).rows) (list_page m).rows

-- how many of them are received and unseen
abbrev pub fresh_count : Mailbox → ℕ
fresh_count m = sum_by (λ row. row.fresh) (list_page m).rows

abbrev pub summary_of : Mailbox → Summary
summary_of m = record { chats = length (list_page m).rows; shown = shown_count m; fresh = fresh_count m }

-- trial NUMBER: 2000 mails, C chats, S shown, F fresh
abbrev pub summary_text : ℕ → Summary → Bytes
summary_text number s =
    codes "trial " ++ decimal number ++ codes ": 2000 mails, " ++ decimal s.chats ++ codes " chats, " ++ decimal s.shown ++ codes " shown, "
    ++ decimal s.fresh ++ codes " fresh\n"

-- the line of a trial; none where its mailbox has no place for one of the mails
abbrev pub trial_text : Bytes → ℕ → Option Bytes
trial_text me number = option_map (λ m. summary_text number (summary_of m)) (trial_mailbox me number)
