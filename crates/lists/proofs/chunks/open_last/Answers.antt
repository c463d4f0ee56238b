use Rattle.std.proofs.Common.{[], ◌∷◌, ap, ◌∙◌, append-nil}
use Rattle.lists.specs.Chunks.{joined}
use Rattle.lists.proofs.Joined.{joined-append}
use Rattle.lists.proofs.chunks.open_last.Goals as goal

pub returns-clause-same : goal.returns-clause-same
returns-clause-same g c =
    let chunks = c.args.chunks.now.items in
    ap joined c.in_ok-push.ensures.items ∙ joined-append chunks (c.new.result ∷ []) ∙ rw c.new.ensures (append-nil (joined chunks))
