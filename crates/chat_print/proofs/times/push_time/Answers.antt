use Rattle.std.proofs.Common.{◌≡◌, ℕ, List, ◌++◌, ◌/◌, ◌%◌, append_assoc, codes}
use Rattle.mailbox_model.specs.Times.{civil_date, date_text, clock_text, time_text}
use Rattle.chat_print.proofs.times.push_time.Goals as goal

in_turn : (old dated spaced date space clock : List ℕ) → dated ≡ old ++ date → spaced ≡ dated ++ space → old ++ (date ++ space ++ clock) ≡ spaced ++ clock
in_turn old dated spaced date space clock d s = rw (s, d) (simp append_assoc)

pub returns : goal.returns
unfolding time_text lib.Utf8.encode
returns c =
    let date = date_text (civil_date (c.args.moment / 86400)) in
    let clock = clock_text (c.args.moment % 86400) in
    record { ok = rw (in_turn _ _ _ date (codes " ") clock c.in_ok-push_date.ensures c.in_ok-push.ensures.bytes) c.push_clock.ensures }
