use Rattle.std.proofs.Common.{◌≡◌, ◌<◌, ◌&&◌, ◌++◌, false, length, refl, ap, ◌∙◌, arith, string_bytes}
use Rattle.std.proofs.lemmas.Bool.{lt-ltb}
use Rattle.std.proofs.lemmas.Str.{IsUtf8-string_bytes}
use lib.Utf8.{encode}
use Rattle.card_type.specs.Kinds.{has_some}
use Rattle.chat_card.proofs.LineLemmas.{put_alone, put_spaced}
use Rattle.chat_card.proofs.line.push_character.Goals as goal
use Rattle.chat_card.proofs.line.push_character.Goals.{then-begins+then-not-is_empty+in_ok-push, else-begins, else-begins-via-then-begins+else-not-is_empty, else-begins-via-else-begins}

pub returns : goal.returns
returns c =
    let line = c.args.line.now in
    let new = c.push-2.new.self in
    let character = c.args.character in elim c.if-begins.branch [
      | then-begins+then-not-is_empty+in_ok-push w ↦
          let some : 0 < length (string_bytes line) = grind (arith, w.is_empty.ensures, w.if-not-is_empty.true) in
          put_spaced (string_bytes line) (string_bytes w.push.new.self) (string_bytes new) c.args.begins character
          (IsUtf8-string_bytes line) (IsUtf8-string_bytes w.push.new.self) (IsUtf8-string_bytes new)
          w.if-begins.true (lt-ltb 0 (length (string_bytes line)) some) w.in_ok-push.ensures.bytes
          (c.in_ok-push-2.ensures.bytes ∙ ap (λ s. string_bytes s ++ encode character) w.line-is)
      | else-begins w ↦
          let further = c.args.begins && has_some (string_bytes line) in
          let alone : further ≡ false = elim w.else-begins.branch [
            | else-begins-via-then-begins+else-not-is_empty v ↦
                let none : length (string_bytes line) ≡ 0 = grind (arith, v.is_empty.ensures, v.if-not-is_empty.false) in
                rw (v.if-begins.true, none) refl
            | else-begins-via-else-begins v ↦ rw v.if-begins.false refl
          ] in
          put_alone (string_bytes line) (string_bytes new) further character (IsUtf8-string_bytes line) (IsUtf8-string_bytes new) alone
          (c.in_ok-push-2.ensures.bytes ∙ ap (λ s. string_bytes s ++ encode character) w.line-is)
    ]
