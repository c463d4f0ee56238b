-- A card of kind Content as it is shown.
use Rattle.std.specs.Prelude.{ℕ, ◌+◌, Bool, true, false, ◌&&◌, ◌||◌, ◌==◌, nat_lt, nat_le, if◌then◌else◌, Option, Some, None, is_some, option_map, unwrap_or, List, [], map, filter, filter_map, flat_map}
use Rattle.std.specs.List.{enumerate_from}
use Rattle.std.specs.Option.{option_map_or}
use Rattle.std.specs.Str.{bytes_eq}
use Rattle.lists.specs.Distinct.{firsts, lasts}
use Rattle.card_type.specs.declared.card.Card.{Card}
use Rattle.card_type.specs.declared.card.Update.{Update}
use Rattle.card_type.specs.declared.effect.Effect.{Effect}
use Rattle.card_type.specs.declared.effect.Effect.TheVariants as effects
use Rattle.card_type.specs.Effects.{effect_of, is_among, names}
use Rattle.card_type.specs.Kinds.{has_some}
use Rattle.mailbox_model.specs.declared.row.Mark.{Mark}
use Rattle.mailbox_model.specs.declared.row.Mark.TheVariants.{Out, New, Seen}
use Rattle.mailbox_model.specs.declared.row.UpdateRow.{UpdateRow}
use Rattle.mailbox_model.specs.declared.row.Row.{Row}
use Rattle.mailbox_model.specs.Lists.{Bytes, last_of}
use Rattle.mailbox_model.specs.Mailbox.{Mailbox}
use Rattle.mailbox_model.specs.Present.{Placed, Mail, present_cards}

-- ---- what acts on it

abbrev pub is_effect : Effect → Effect → Bool
is_effect effects.Edit effects.Edit = true
is_effect effects.Delete effects.Delete = true
is_effect effects.Read effects.Read = true
is_effect effects.Update effects.Update = true
is_effect effects.Reaction effects.Reaction = true
is_effect x y = false

-- what a card does
pub record Act : Type 0 where
  pub effect : Effect
  pub by : Placed

-- what e does to t, if anything
abbrev pub act_on : Bytes → Card → Placed → Option Act
act_on me t e = option_map (λ effect. record { effect = effect; by = e }) (effect_of e.card t me)

-- what these do to t, in their order
abbrev pub acts_on : Bytes → Card → List Placed → List Act
acts_on me t es = filter_map (act_on me t) es

-- the cards that act in this way
abbrev pub acting_by : Effect → List Act → List Placed
acting_by effect acts = map (λ act. act.by) (filter (λ act. is_effect effect act.effect) acts)

-- those that name an id
abbrev pub naming : Bytes → List Placed → List Placed
naming id es = filter (λ e. is_among (names e.card) id) es

-- ---- whether it is shown

abbrev pub is_withdrawn : List Act → Bool
is_withdrawn acts = has_some (acting_by effects.Delete acts)

abbrev pub is_sent : Bytes → Card → Bool
is_sent me t = bytes_eq t.from me

-- from when on its timer runs: what was sent from its date, what was received from when it was seen
abbrev pub timed_from : Bytes → Mail → Option ℕ
timed_from me t = if is_sent me t.placed.card then Some t.placed.date else t.seen

-- the moment at which it expires, if it ever does
abbrev pub expiry : Bytes → Mail → Option ℕ
expiry me t =
    if nat_lt 0 t.placed.card.timer then option_map (λ start. start + t.placed.card.timer) (timed_from me t) else None

abbrev pub is_expired : Bytes → ℕ → Mail → Bool
is_expired me now t = option_map_or (λ end. nat_le end now) (expiry me t) false

-- ---- how it is shown

abbrev pub mark_of : Bytes → Mail → Mark
mark_of me t = if is_sent me t.placed.card then Out else if is_some t.seen then Seen else New

-- the card that has its text, which may be cut: the last edit, else its own
abbrev pub text_card : Option Placed → Card → Card
text_card edit t = option_map_or (λ e. e.card) edit t

abbrev pub same_sender : Placed → Placed → Bool
same_sender a b = bytes_eq a.card.from b.card.from

-- who read it, each once, and when first
abbrev pub readers_by : List Placed → List (Bytes × ℕ)
readers_by receipts = map (λ e. (e.card.from, e.date)) (firsts same_sender receipts)

-- what a card says as a reaction
abbrev pub reaction_of : Card → Bytes
reaction_of c = unwrap_or c.reaction []

-- who reacts to it, and how: of each sender the last reaction counts, and one that says nothing takes back what was said
abbrev pub reactions_by : List Placed → List (Bytes × Bytes)
reactions_by es =
    map (λ e. (e.card.from, reaction_of e.card)) (filter (λ e. has_some (reaction_of e.card)) (lasts same_sender es))

-- whether two reactions are of one sender
abbrev pub same_reactor : Bytes × Bytes → Bytes × Bytes → Bool
same_reactor a b = bytes_eq a.0 b.0

-- an update, with the card that brings it and its index among those of that card
pub record Brought : Type 0 where
  pub by : Placed
  pub part : ℕ
  pub update : Update

abbrev pub brought_by : Placed → List Brought
brought_by e = map (λ p. record { by = e; part = p.0; update = p.1 }) (enumerate_from 0 e.card.updates)

abbrev pub update_row : ℕ → Brought → UpdateRow
update_row serial b = record { serial = serial; uid = b.by.uid; part = b.part; from = b.by.card.from; update = b.update }

-- the updates in mail order, numbered from 1
abbrev pub updates_by : List Placed → List UpdateRow
updates_by es = map (λ b. update_row b.0 b.1) (enumerate_from 1 (flat_map brought_by es))

-- whether two rows are of one place in one mail
abbrev pub same_part : UpdateRow → UpdateRow → Bool
same_part a b = (a.uid == b.uid) && (a.part == b.part)

-- what is shown of t where these act on it
abbrev pub shown_by : Bytes → Mail → List Act → Row
shown_by me t acts =
    let card = t.placed.card in
    let edit = last_of (acting_by effects.Edit acts) in
    record {
      uid = t.placed.uid;
      id = card.id;
      date = t.placed.date;
      from = card.from;
      chat = card.chat;
      subject = card.subject;
      text = (text_card edit card).text;
      cut = (text_card edit card).cut;
      edited = is_some edit;
      mark = mark_of me t;
      attachments = card.attachments;
      readers = readers_by (acting_by effects.Read acts);
      reactions = reactions_by (acting_by effects.Reaction acts);
      app = card.app;
      updates = updates_by (acting_by effects.Update acts);
    }

-- the row of t at a moment, where it is neither withdrawn nor expired
abbrev pub row_by : Bytes → ℕ → Mail → List Act → Option Row
row_by me now t acts = if is_withdrawn acts || is_expired me now t then None else Some (shown_by me t acts)

-- ---- in a mailbox

-- what the present cards do to t, in mail order
abbrev pub acting : Mailbox → Card → List Act
acting m t = acts_on m.me t (present_cards m)

abbrev pub row : Mailbox → Mail → Option Row
row m t = row_by m.me m.now t (acting m t.placed.card)

abbrev pub is_new : Mark → Bool
is_new Out = false
is_new New = true
is_new Seen = false

abbrev pub is_fresh : Row → Bool
is_fresh r = is_new r.mark
