use Rattle.std.proofs.Common.{◌≡◌}
use Rattle.contacts.proofs.ByAddr.{equal, kept_if_ok}
use Rattle.contacts.proofs.mentions.Mentions.kept.Goals as goal

pub returns : goal.returns
returns c =
    let same = equal c.args.addr.now c.in_ok-kept.kept.now c.in_ok-kept.ensures.same_key in
    rw c.ok.ensures.value (kept_if_ok (λ copy. copy ≡ c.args.addr.now) c.copy.result (rw (← same) c.copy.ensures))
