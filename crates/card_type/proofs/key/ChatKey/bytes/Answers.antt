use Rattle.kit.proofs.Utf8Lemmas.{addr_utf8, id_utf8}
use Rattle.card_type.proofs.KeyBytes.{group_utf8}
use Rattle.card_type.proofs.key.ChatKey.bytes.Goals as goal

pub returns-in-Single-clause-utf8 : goal.returns-in-Single-clause-utf8
returns-in-Single-clause-utf8 c = rw c.in-Single.is (addr_utf8 c.in-Single.other c.bytes.ensures.addr)

pub returns-in-Group-clause-utf8 : goal.returns-in-Group-clause-utf8
returns-in-Group-clause-utf8 c = rw c.in-Group.is (group_utf8 c.in-Group.group c.bytes-in-Group.ensures.group)

pub returns-in-Thread-clause-utf8 : goal.returns-in-Thread-clause-utf8
returns-in-Thread-clause-utf8 c = rw c.in-Thread.is (id_utf8 c.in-Thread.first c.bytes-in-Thread.ensures.id)
