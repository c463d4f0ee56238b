use Rattle.std.proofs.Common.{append_assoc}
use Rattle.mail_headers.proofs.Layouts.{total_push, fields_in_push}
use Rattle.mail_headers.proofs.fields.Fields.push.Goals as goal

pub returns-clause-full : goal.returns-clause-full
returns-clause-full c =
    rw (c.in_ok-push.ensures.items, c.in_ok-extend_from_slice-2.ensures.items, c.in_ok-extend_from_slice.ensures.items, append_assoc)
    (total_push _ _ c.args.name.now c.args.body.now c.requires)

pub returns-clause-fields : goal.returns-clause-fields
returns-clause-fields c =
    rw (c.in_ok-push.ensures.items, c.in_ok-extend_from_slice-2.ensures.items, c.in_ok-extend_from_slice.ensures.items, append_assoc)
    (fields_in_push _ _ c.args.name.now c.args.body.now c.requires)
