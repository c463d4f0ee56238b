-- What contracts see of values that the program holds.
use Rattle.chat_card.specs.declared.leaf.Kept as Borrowed
use Rattle.chat_card.specs.declared.leaf.Kept.TheVariants as code
use Rattle.chat_card.specs.Shown.{Kept, Text, File}

-- a part that is kept
abbrev pub kept : Borrowed.Kept → Kept
kept (code.Text part) = Text part.now
kept (code.File part) = File part.now
