use Rattle.std.proofs.Common.{sym, ap, ◌∙◌, map}
use Rattle.chatlist.proofs.Zips.{keys_zip}
use Rattle.chatlist.proofs.order.Order.keys.Goals as goal

pub returns-clause-keys : goal.returns-clause-keys
returns-clause-keys c =
    c.as_slice.ensures ∙ sym (keys_zip c.self.inside.keys.values c.self.inside.dates.values c.self.invariant.0)
    ∙ ap (λ o. map (λ d. d.0) o.chats) c.self.view_is
