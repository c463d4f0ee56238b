use Rattle.std.proofs.Common.{◌≡◌, map, take}
use Rattle.std.specs.List.{filter_map}
use Rattle.chat_card.specs.Shown.{file_of}
use Rattle.chat_card.specs.Views.{kept}
use Rattle.chat_card.proofs.files.files.Given as goal

abbrev pub invariant-loop-part : goal.invariant-loop-part
invariant-loop-part l = map (λ f. f.now) l.files.items ≡ filter_map file_of (map kept (take l.part-index l.parts))
