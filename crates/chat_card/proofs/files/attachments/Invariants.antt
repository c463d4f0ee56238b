use Rattle.std.proofs.Common.{◌≡◌, map, take}
use Rattle.chat_card.specs.Files.{attachment}
use Rattle.chat_card.proofs.files.attachments.Given as goal

abbrev pub invariant-loop-file : goal.invariant-loop-file
invariant-loop-file l = l.made ≡ map attachment (map (λ f. f.now) (take l.file-index l.files))
