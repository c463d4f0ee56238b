use Rattle.std.proofs.Common.{◌∙◌, ap}
use Rattle.state_image.specs.Images.{image_of}
use Rattle.state_image.proofs.ImageLaws.{image_again}
use Rattle.state_image.proofs.Written.{whole}
use Rattle.state_image.proofs.write.write_image.Goals as goal

pub returns-clause-image : goal.returns-clause-image
returns-clause-image g c =
    whole c.args.mailbox.now.mailbox c.args.position _ _ _ _ _ c.in_ok-push_names.ensures.rules c.in_ok-image.ensures.items c.in_ok-push_names.ensures.text
    c.in_ok-push_counts.ensures c.items.ensures c.in_ok-push_items.ensures.text

pub returns-clause-reads_back : goal.returns-clause-reads_back
returns-clause-reads_back g c =
    ap image_of (whole c.args.mailbox.now.mailbox c.args.position _ _ _ _ _ c.in_ok-push_names.ensures.rules c.in_ok-image.ensures.items c.in_ok-push_names.ensures.text
    c.in_ok-push_counts.ensures c.items.ensures c.in_ok-push_items.ensures.text)
    ∙ image_again c.args.mailbox.now.mailbox c.args.position (record {
      me = c.in_ok-push_names.ensures.me;
      rules = c.in_ok-push_names.ensures.rules;
      position = record { some = c.requires.some; few = c.requires.few; mbox = c.in_ok-push_names.ensures.wide.0; steps = c.in_ok-push_names.ensures.wide.1; lines = c.requires.lines; mbox_trace = c.in_ok-push_names.ensures.traces.0; steps_trace = c.in_ok-push_names.ensures.traces.1 };
    })
