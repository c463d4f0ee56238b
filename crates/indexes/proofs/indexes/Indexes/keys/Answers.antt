use Rattle.std.proofs.Common.{sym, subst}
use Rattle.std.proofs.lemmas.Result.{IfOk-weaker}
use Rattle.std.specs.FinMap as map_of
use Rattle.std.proofs.Common.{◌≡◌, map}
use Rattle.indexes.specs.Kept.{AreAllChats}
use Rattle.indexes.proofs.AllKeys.{all_keys}
use Rattle.indexes.proofs.indexes.Indexes.keys.Goals as goal

pub returns : goal.returns
returns c =
    let m = c.args.mailbox.now.mailbox in
    IfOk-weaker c.keys_of.result (λ found. found.items ≡ map (λ entry. entry.0) (map_of.entries c.args.self.now.chats)) (λ found. AreAllChats m found.items)
    (λ found same. subst (AreAllChats m) (sym same) (all_keys m c.args.self.now.chats c.requires.kept.chats)) c.keys_of.ensures
