use Rattle.std.proofs.Common.{◌≡◌, ◌==◌, length, map, take}
use Rattle.std.specs.Prelude.{string_bytes}
use Rattle.std.specs.List.{filter_map, join_with_byte}
use Rattle.chat_card.specs.Shown.{text_of}
use Rattle.chat_card.specs.Views.{kept}
use Rattle.chat_card.proofs.shown.shown_text.Given as goal

-- the texts so far
abbrev pub invariant-loop-part : goal.invariant-loop-part
invariant-loop-part l =
    let texts = filter_map text_of (map kept (take l.part-index l.parts)) in
    record {
      so_far : string_bytes l.shown ≡ join_with_byte 10 texts;
      first : l.first ≡ (length texts == 0);
    }
