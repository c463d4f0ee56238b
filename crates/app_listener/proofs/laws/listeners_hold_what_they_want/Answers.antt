use Rattle.std.proofs.Common.{◌≡◌, ap, subst, ◌+◌, max, map, arith}
use Rattle.std.specs.List.{common_prefix_len}
use Rattle.std.proofs.Math.Nat.{max-zero}
use Rattle.mailbox_model.specs.Mailbox.{after_all}
use Rattle.mailbox_model.proofs.UidLaws.{one_card}
use Rattle.app_listener.specs.Hearing.{is_origin, origin, wanted_over}
use Rattle.app_listener.proofs.Brought.{IsKept, all_kept, follow, one_update, shown}
use Rattle.app_listener.proofs.Rejoined.{Rejoins, rejoined, common_is_same}
use Rattle.app_listener.proofs.laws.listeners_hold_what_they_want.Goals as goal

pub returns-clause-first : goal.returns-clause-first
returns-clause-first c = λ wanted from now. ap (λ n. wanted_over wanted n now) (max-zero from)

pub returns-clause-again : goal.returns-clause-again
returns-clause-again c = λ m changes id wanted from before now rules later is_shown is_shown_now.
    let n = after_all m changes in
    let old = shown m id before is_shown in
    let new = shown n id now is_shown_now in
    let one = one_update m n (λ uid a b. one_card m changes uid a b rules.uids) in
    let none : 0 + common_prefix_len is_origin (map origin before) now ≡ common_prefix_len is_origin (map origin before) now = omega arith in
    subst (λ count. Rejoins wanted from (max from count) before now) none (rejoined (IsKept m) (IsKept n) one wanted from 0 before now (follow m before old) (follow n now new) (all_kept m rules.uids before old) (all_kept n later.uids now new))

pub returns-clause-same : goal.returns-clause-same
returns-clause-same c = λ m changes id before now rules later is_shown is_shown_now.
    let n = after_all m changes in
    let old = shown m id before is_shown in
    let new = shown n id now is_shown_now in
    let one = one_update m n (λ uid a b. one_card m changes uid a b rules.uids) in
    common_is_same (IsKept m) (IsKept n) one 0 before now (follow m before old) (follow n now new) (all_kept m rules.uids before old) (all_kept n later.uids now new)
