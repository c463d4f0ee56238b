-- The shown text rule: the text of a card, of the text that a mail shows.
use Rattle.std.specs.Prelude.{ℕ, ◌-◌, Bool, ◌||◌, ◌==◌, nat_le, nat_lt, if◌then◌else◌, List, [], ◌∷◌, length, take, Option, Some, None, unwrap_or}
use Rattle.std.specs.Fmt.Cut.{floor_char_boundary}
use Rattle.std.specs.List.{suffix_len}
use Rattle.kit.specs.Cuts.{strip_prefix}
use Rattle.chat_card.specs.declared.text.CardText.{CardText}

-- space (32), tab (9), CR (13) or LF (10)
abbrev pub is_space : ℕ → Bool
is_space b = b == 32 || b == 9 || b == 13 || b == 10

abbrev pub trimmed : List ℕ → List ℕ
trimmed text = take (length text - suffix_len is_space text) text

-- U+270F U+FE0F, a pencil
abbrev pub edit_mark : List ℕ
edit_mark = 0xE2 ∷ 0x9C ∷ 0x8F ∷ 0xEF ∷ 0xB8 ∷ 0x8F ∷ []

-- an edit says what it is by one mark at its beginning, for those who don't know its field
abbrev pub unmarked : Option (List ℕ) → List ℕ → List ℕ
unmarked None text = text
unmarked (Some id) text = unwrap_or (strip_prefix text edit_mark) text

-- the longest prefix of at most so many bytes that ends between two characters
abbrev pub prefix : ℕ → List ℕ → List ℕ
prefix limit text = if nat_le (length text) limit then text else take (floor_char_boundary text limit) text

-- what a mail says: the text that it shows, which in an edit begins with a mark
abbrev pub uncut : Option (List ℕ) → List ℕ → List ℕ
uncut edit shown = unmarked edit (trimmed shown)

-- the text of the card of a mail that edits another, or none, and shows a text
abbrev pub card_text : Option (List ℕ) → List ℕ → CardText
card_text edit shown =
    let text = uncut edit shown in
    record { text = prefix 32768 text; cut = nat_lt (length (prefix 32768 text)) (length text) }
