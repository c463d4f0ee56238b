use Rattle.kit.proofs.Utf8Lemmas.{addr_utf8}
use Rattle.chat_view.proofs.text.contact_name.Goals as goal

pub text_of-requires : goal.text_of-requires
text_of-requires c = rw c.bytes.ensures.same (addr_utf8 c.args.address.now c.bytes.ensures.addr)
