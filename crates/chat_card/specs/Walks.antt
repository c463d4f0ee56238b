-- Parts that are read one after the other, in preorder, with the way in which the next of them is beside the others.
use Rattle.std.specs.Prelude.{ℕ, Bool, true, false, not, nat_lt, ◌&&◌, ◌||◌, if◌then◌else◌, List, [], ◌∷◌, ◌++◌, Option}
use Rattle.std.specs.List.{cons_option}
use Rattle.mime_fields.specs.Kinds.{Kind}
use Rattle.mime_parts.specs.declared.part.PartNode.{PartNode}
use Rattle.chat_card.specs.declared.kept.Parent.{Parent}
use Rattle.chat_card.specs.Parts.{Part}
use Rattle.chat_card.specs.declared.way.Way.{Way}
use Rattle.chat_card.specs.declared.way.Way.TheVariants.{Together, Choice, Beside}
use Rattle.chat_card.specs.Shown.{Forest, Nothing, Then, Kept, is_alternative, is_text, leaf_beside, leaf_of, shows_text}

-- ---- the way of a part

-- whether a part is kept whole that has a text to show, or has none
abbrev pub is_whole : Way → Bool → Bool
is_whole Together has_text = true
is_whole Choice has_text = has_text
is_whole Beside has_text = false

-- the way of the parts that follow it
abbrev pub way_after : Way → Bool → Way
way_after Choice has_text = if has_text then Beside else Choice
way_after way has_text = way

-- the way of the parts in it
abbrev pub way_within : Bool → Kind → Bool → Way
way_within whole kind has_text = if not whole then Beside else if is_alternative kind && has_text then Choice else Together

-- what is kept of a part itself
abbrev pub own : Bool → Part → Option Kept
own whole p = if whole then leaf_of p else leaf_beside p

-- what is kept of trees, the first of which is in this way
abbrev pub kept_by : Way → Forest → List Kept
kept_by way Nothing = []
kept_by way (Then p within more) =
    let below = shows_text within in
    let has_text = is_text p.node || below in
    let whole = is_whole way has_text in
    cons_option (own whole p) (kept_by (way_within whole p.node.kind below) within ++ kept_by (way_after way has_text) more)

-- ---- the parents that are open, of which the innermost comes first

-- the way of the next part in the innermost parent
abbrev pub way_of : List Parent → Way
way_of [] = Together
way_of (p ∷ ps) = p.way

-- without the parents that a part at a depth is not in
abbrev pub closed : ℕ → List Parent → List Parent
closed depth [] = []
closed depth (p ∷ ps) = if nat_lt p.depth depth then p ∷ ps else closed depth ps

-- the innermost parent has read a part that has a text to show, or has none
abbrev pub turned : Bool → List Parent → List Parent
turned has_text [] = []
turned has_text (p ∷ ps) = record { depth = p.depth; way = way_after p.way has_text } ∷ ps

-- the parents of what follows a part, in which a text is shown, or none
abbrev pub entered : PartNode → Bool → List Parent → List Parent
entered n below parents =
    let open_ones = closed n.depth parents in
    let has_text = is_text n || below in
    record { depth = n.depth; way = way_within (is_whole (way_of open_ones) has_text) n.kind below } ∷ turned has_text open_ones
