use Rattle.std.proofs.Common.{rules}
use Rattle.std.specs.Str.{IsUtf8}
use Rattle.kit.proofs.Utf8Lemmas.{addr_utf8}
use Rattle.kit.proofs.addr.Addr.as_str.Goals as goal

pub unwrap-requires : goal.unwrap-requires
unwrap-requires c =
    let utf8 : IsUtf8 c.bytes.result.now = rw c.bytes.ensures.same (addr_utf8 c.args.self.now c.bytes.ensures.addr) in
    search (utf8, rules)
