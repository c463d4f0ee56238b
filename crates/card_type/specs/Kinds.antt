-- What a mail is for.
use Rattle.std.specs.Prelude.{Bool, true, false, not, ◌&&◌, nat_lt, if◌then◌else◌, List, length, is_some}
use Rattle.card_type.specs.declared.card.Card.{Card}
use Rattle.card_type.specs.declared.kind.Kind.{Kind}
use Rattle.card_type.specs.declared.kind.Kind.TheVariants.{Receipt, Delete, Edit, Update, Reaction, Content}

abbrev pub has_some : {T : Type 0} → List T → Bool
has_some xs = nat_lt 0 (length xs)

-- the first that applies
abbrev pub kind_of : Card → Kind
kind_of c =
    if is_some c.receipt then Receipt
    else if has_some c.deletes then Delete
    else if is_some c.edit then Edit
    else if has_some c.updates && not c.app then Update
    else if is_some c.reaction then Reaction
    else Content

abbrev pub is_content : Kind → Bool
is_content Content = true
is_content k = false
