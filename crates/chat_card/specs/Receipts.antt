-- The receipt rule: the mail that a mail is a receipt for (RFC 3462; RFC 3798, section 3).
use Rattle.std.specs.Prelude.{ℕ, ◌==◌, Bool, not, ◌&&◌, if◌then◌else◌, List, [], ◌∷◌, codes, find, Option, None}
use Rattle.kit.specs.Letters.{same_name}
use Rattle.kit.specs.Options.{◌>>=◌}
use Rattle.mime_parts.specs.declared.part.PartNode.{PartNode}
use Rattle.mime_parts.specs.Trees.{is_kind}
use Rattle.part_read.specs.Receipts.{receipt}
use Rattle.chat_card.specs.Parts.{Part, param}

-- a report of what became of a mail, whose parts are in the tree
abbrev pub is_report : PartNode → Bool
is_report n =
    is_kind (codes "multipart") (codes "report") n.kind && not n.leaf
    && same_name (param n.kind (codes "report-type")) (codes "disposition-notification")

-- a notification right below the mail itself
abbrev pub is_notification : Part → Bool
is_notification p = p.node.depth == 1 && is_kind (codes "message") (codes "disposition-notification") p.node.kind

-- the first notification of a mail that is a report
abbrev pub notification_of : List Part → Option Part
notification_of [] = None
notification_of (root ∷ parts) = if is_report root.node then find is_notification parts else None

-- the mail that it is a receipt for
abbrev pub receipt_of : List Part → Option (List ℕ)
receipt_of parts = notification_of parts >>= λ p. receipt p.content
