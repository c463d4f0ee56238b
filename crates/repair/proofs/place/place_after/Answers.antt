use Rattle.std.proofs.Common.{◌≡◌, ◌∙◌, sym, ap, Some}
use Rattle.std.specs.Option.{option_copied}
use Rattle.mailbox_model.specs.Chats.{chat, chat_among}
use Rattle.repair.proofs.Contents.{place_lent, spot_lent}
use Rattle.repair.proofs.place.place_after.Goals as goal
use Rattle.repair.proofs.place.place_after.Goals.{In_ok-chat}

known : (c : In_ok-chat) → chat c.args.view.now c.args.id.now ≡ Some c.in_ok-chat.chat
known c =
    ap (λ ts. chat_among ts c.args.id.now) (sym c.requires.links)
    ∙ sym c.chat_of.ensures.chat
    ∙ ap option_copied c.in-Some.is
    ∙ ap Some (sym c.in_ok-chat.ensures)

pub unwrap-spot-requires : goal.unwrap-spot-requires
unwrap-spot-requires c =
    spot_lent c.args.view.now c.keeps_rules.ensures c.args.id.now c.in_ok-chat.chat (known (goal.at.unwrap-spot-requires c).In_ok-chat) c.spot_of.result
    c.spot_of.ensures

pub returns : goal.returns
returns c =
    place_lent c.args.view.now c.keeps_rules.ensures c.args.id.now c.in_ok-chat.chat (known (goal.at.returns c).In_ok-chat) c.spot_of.result
    c.spot_of.ensures c.unwrap-spot.result c.unwrap-spot.ensures
