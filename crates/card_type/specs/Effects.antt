-- What one card does to another, by the two cards and the own address alone.
use Rattle.std.specs.Prelude.{ℕ, Bool, not, ◌&&◌, ◌||◌, if◌then◌else◌, List, [], take, Option, Some, None}
use Rattle.std.specs.List.{list_any}
use Rattle.std.specs.Option.{option_to_list}
use Rattle.std.specs.Str.{bytes_eq}
use Rattle.card_type.specs.Kinds.{kind_of, is_content}
use Rattle.card_type.specs.declared.card.Card.{Card}
use Rattle.card_type.specs.declared.kind.Kind.{Kind}
use Rattle.card_type.specs.declared.kind.Kind.TheVariants.{Receipt, Delete, Edit, Update, Reaction, Content}
use Rattle.card_type.specs.declared.effect.Effect.{Effect}
use Rattle.card_type.specs.declared.effect.Effect.TheVariants.{Edit as edits, Delete as deletes, Read as reads, Update as updates, Reaction as reacts}

-- whether bytes are among others
abbrev pub is_among : List (List ℕ) → List ℕ → Bool
is_among xs bytes = list_any (bytes_eq bytes) xs

-- the ids that a card of a kind names
abbrev pub names_by : Kind → Card → List (List ℕ)
names_by Receipt c = option_to_list c.receipt
names_by Delete c = c.deletes
names_by Edit c = option_to_list c.edit
names_by Update c = take 1 c.replies
names_by Reaction c = take 1 c.replies
names_by Content c = []

abbrev pub names : Card → List (List ℕ)
names c = names_by (kind_of c) c

-- whether an address is among From, To and Cc
abbrev pub has_person : Card → List ℕ → Bool
has_person c addr = bytes_eq addr c.from || is_among c.to addr || is_among c.cc addr

-- what a card e of a kind does to a content card t that it names, and on which condition
abbrev pub effect_by : Kind → Card → Card → List ℕ → Option Effect
effect_by Receipt e t me = if bytes_eq t.from me && not (bytes_eq e.from me) then Some reads else None
effect_by Delete e t me = if bytes_eq e.from t.from then Some deletes else None
effect_by Edit e t me = if bytes_eq e.from t.from then Some edits else None
effect_by Update e t me = if t.app && has_person t e.from then Some updates else None
effect_by Reaction e t me = if has_person t e.from then Some reacts else None
effect_by Content e t me = None

-- what e does to t, which is nothing where t is no content card, or e does not name it
abbrev pub effect_of : Card → Card → List ℕ → Option Effect
effect_of e t me = if is_content (kind_of t) && is_among (names e) t.id then effect_by (kind_of e) e t me else None
