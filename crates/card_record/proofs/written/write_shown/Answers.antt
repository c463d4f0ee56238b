use Rattle.std.proofs.Common.{append_assoc}
use Rattle.std.proofs.lemmas.List.{append-nil}
use Rattle.card_record.proofs.written.write_shown.Goals as goal

pub returns : goal.returns
returns c =
    rw (c.in_ok-write_reaction.ensures, c.in_ok-write-6.ensures, c.in_ok-write_code.ensures, c.in_ok-write-5.ensures, c.in_ok-write-4.ensures, c.in_ok-write-3.ensures, c.in_ok-write-2.ensures, c.in_ok-write.ensures)
    (simp (append_assoc, append-nil))
