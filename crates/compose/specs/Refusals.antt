-- Which drafts are not written, and why: the first that applies.
use Rattle.std.specs.Prelude.{ℕ, Bool, false, not, ◌&&◌, ◌||◌, ◌==◌, bytes_eq, nat_le, if◌then◌else◌, List, [], ◌∷◌, ◌++◌, length, is_none, Option, Some, None}
use Rattle.std.specs.List.{cons_option, list_any}
use Rattle.card_type.specs.Rules.{fits_weight, is_short}
use Rattle.chat_card.specs.Reactions.{one_line}
use Rattle.chat_card.specs.Texts.{is_space}
use Rattle.flowed_text.specs.Flowed.{user_text}
use Rattle.compose.specs.declared.draft.Act.{Act}
use Rattle.compose.specs.declared.draft.Act.TheVariants as act
use Rattle.compose.specs.declared.draft.Draft.{Draft}
use Rattle.compose.specs.declared.fault.DraftFault.{DraftFault}
use Rattle.compose.specs.declared.fault.DraftFault.TheVariants as fault
use Rattle.compose.specs.Intended.{added, intended, reacts, removed}

-- who changes a group names one
abbrev pub lacks_group : Act → Option (List ℕ) → Bool
lacks_group (act.Add who) group = is_none group
lacks_group (act.Remove who) group = is_none group
lacks_group (act.Rename name) group = is_none group
lacks_group _ group = false

-- who takes mails back names some, and who reacts names the mail that it is to
abbrev pub lacks_target : Act → Option (List ℕ) → Bool
lacks_target (act.Delete mails) reply = length mails == 0
lacks_target act.React reply = is_none reply
lacks_target _ reply = false

-- a bracket, [ (91) or ] (93), in an address
abbrev pub has_bracket : List ℕ → Bool
has_bracket addr = list_any (λ b. b == 91 || b == 93) addr

-- the address that an act names, if it names one
abbrev pub named : Act → List (List ℕ)
named act = cons_option (added act) (cons_option (removed act) [])

abbrev pub addresses : Draft → List (List ℕ)
addresses d = d.from ∷ (d.to ++ named d.act)

abbrev pub ends_in_space : List ℕ → Bool
ends_in_space [] = false
ends_in_space (b ∷ []) = is_space b
ends_in_space (b ∷ c ∷ cs) = ends_in_space (c ∷ cs)

-- a text that is shown as it is
abbrev pub is_shown_text : List ℕ → Bool
is_shown_text text = nat_le (length text) 32768 && not (ends_in_space text) && bytes_eq (user_text text) text

-- a reaction that is said as it is: its words with one space between each two
abbrev pub is_reaction_text : List ℕ → Bool
is_reaction_text text = is_short text && bytes_eq (one_line text) text

abbrev pub is_fine_text : Act → List ℕ → Bool
is_fine_text act text = if reacts act then is_reaction_text text else is_shown_text text

abbrev pub refusal : Draft → Option DraftFault
refusal d =
    if length d.to == 0 then Some fault.NoTo
    else if lacks_group d.act d.group then Some fault.NoGroup
    else if lacks_target d.act d.reply then Some fault.NoTarget
    else if list_any has_bracket (addresses d) then Some fault.BadAddr
    else if not (is_fine_text d.act d.text) then Some fault.BadText
    else if not (fits_weight (intended d)) then Some fault.CardTooLong
    else None
