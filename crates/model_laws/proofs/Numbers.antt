-- What is shown of mails without their numbers is what is shown of them, but for those numbers.
use Rattle.std.proofs.Common.{◌≡◌, refl, sym, ap, ◌∙◌, ℕ, Bool, true, false, Option, Some, None, is_some, List, [], ◌∷◌, ◌++◌, length, map}
use Rattle.std.specs.Prelude.{if◌then◌else◌, ◌||◌, nat_lt, filter, filter_map, flat_map, find, option_map, count_by}
use Rattle.std.specs.List.{enumerate_from, list_any}
use Rattle.std.proofs.lemmas.List.{length-map}
use Rattle.std.proofs.lemmas.List.Folds.{flat_map-map}
use Rattle.lists.specs.Distinct.{firsts, lasts}
use Rattle.lists.specs.Sorted.{sorted_by}
use Rattle.kit.specs.Options.{◌>>=◌}
use Rattle.card_type.specs.declared.card.Card.{Card}
use Rattle.card_type.specs.declared.key.ChatKey.{ChatKey}
use Rattle.card_type.specs.declared.effect.Effect.{Effect}
use Rattle.card_type.specs.declared.effect.Effect.TheVariants as effects
use Rattle.card_type.specs.Effects.{effect_of}
use Rattle.card_type.specs.Keys.{key_eq}
use Rattle.card_type.specs.Kinds.{has_some}
use Rattle.mailbox_model.specs.declared.list.FaultRow.{FaultRow}
use Rattle.mailbox_model.specs.declared.row.Row.{Row}
use Rattle.mailbox_model.specs.declared.row.UpdateRow.{UpdateRow}
use Rattle.mailbox_model.specs.Lists.{Bytes, last_of}
use Rattle.mailbox_model.specs.Present.{Placed, Mail, spot, has_id}
use Rattle.mailbox_model.specs.Chats.{Known, known_chat, known_after, next_chat, cites_by, chats_of, is_chat}
use Rattle.mailbox_model.specs.Rows.{Act, Brought, act_on, acts_on, acting_by, is_effect, is_expired, text_card, same_sender, readers_by, reaction_of, reactions_by, brought_by, update_row, updates_by, shown_by, row_by, is_fresh}
use Rattle.mailbox_model.specs.Rosters.{roster_of}
use Rattle.mailbox_model.specs.Contacts.{name_among}
use Rattle.mailbox_model.specs.Names.{name_by}
use Rattle.mailbox_model.specs.Pages.{page_by, app_updates}
use Rattle.mailbox_model.specs.ChatList.{list_row_by, list_cmp}
use Rattle.mailbox_model.specs.Printed.{update_line, updates_text}
use Rattle.mailbox_model.specs.Answers.{has_info}
use Rattle.mailbox_model.specs.Answers.Question.{AllUpdates, InfoUpdates}
use Rattle.mailbox_model.proofs.CountLaws.{sum_by-map}
use Rattle.model_laws.specs.Numbers.{unnumbered_update, unnumbered_row, unnumbered}
use Rattle.model_laws.proofs.Maps.{map_twice, filter-map, find-map, filter_map-map, firsts-map, lasts-map, last_of-map, enumerate_from-map, map-flat_map, flat_map_same}
use Rattle.model_laws.proofs.Parts.{is_shown_kind, contents_in, chats_in, mails_in, row_in, roster_in, cards_in, name_in, rows_in, keys_in, page_in, list_row_in, list_rows_in, updates_in, answer_in}

abbrev bare_placed : Placed → Placed
bare_placed p = record p { uid = 0 }

-- a mail without its number
abbrev pub bare : Mail → Mail
bare t = record t { placed = bare_placed t.placed }

abbrev bare_act : Act → Act
bare_act a = record a { by = bare_placed a.by }

abbrev bare_brought : Brought → Brought
bare_brought b = record b { by = bare_placed b.by }

-- ---- a row

act_bare : (me : Bytes) (t : Card) (e : Placed) → act_on me t (bare_placed e) ≡ option_map bare_act (act_on me t e)
act_bare me t e = by (effect_of e.card t me)
  where
    made : Placed → Effect → Act
    made p effect = record { effect = effect; by = p }

    by : (o : Option Effect) → option_map (made (bare_placed e)) o ≡ option_map bare_act (option_map (made e) o)
    by None = refl
    by (Some effect) = refl

placed_bare : (ps : List Mail) → map (λ t. t.placed) (map bare ps) ≡ map bare_placed (map (λ t. t.placed) ps)
placed_bare ps = map_twice bare (λ t. t.placed) ps ∙ sym (map_twice (λ t. t.placed) bare_placed ps)

acts_bare : (me : Bytes) (t : Card) (ps : List Mail)
    → acts_on me t (map (λ u. u.placed) (map bare ps)) ≡ map bare_act (acts_on me t (map (λ u. u.placed) ps))
acts_bare me t ps =
    ap (acts_on me t) (placed_bare ps)
    ∙ filter_map-map bare_placed bare_act (act_on me t) (act_on me t) (act_bare me t) (map (λ u. u.placed) ps)

acting_bare : (effect : Effect) (acts : List Act) → acting_by effect (map bare_act acts) ≡ map bare_placed (acting_by effect acts)
acting_bare effect acts =
    let p : Act → Bool = λ a. is_effect effect a.effect in
    ap (map (λ a. a.by)) (filter-map bare_act p p (λ a. refl) acts)
    ∙ map_twice bare_act (λ a. a.by) (filter p acts) ∙ sym (map_twice (λ a. a.by) bare_placed (filter p acts))

text_bare : (o : Option Placed) (c : Card) → text_card (option_map bare_placed o) c ≡ text_card o c
text_bare None c = refl
text_bare (Some e) c = refl

some_bare : (o : Option Placed) → is_some (option_map bare_placed o) ≡ is_some o
some_bare None = refl
some_bare (Some e) = refl

readers_bare : (es : List Placed) → readers_by (map bare_placed es) ≡ readers_by es
readers_bare es =
    ap (map (λ e. (e.card.from, e.date))) (firsts-map bare_placed same_sender same_sender (λ a b. refl) es)
    ∙ map_twice bare_placed (λ e. (e.card.from, e.date)) (firsts same_sender es)

reactions_bare : (es : List Placed) → reactions_by (map bare_placed es) ≡ reactions_by es
reactions_bare es =
    let says = λ (e : Placed). has_some (reaction_of e.card) in
    ap (λ xs. map (λ (e : Placed). (e.card.from, reaction_of e.card)) (filter says xs)) (lasts-map bare_placed same_sender same_sender (λ a b. refl) es)
    ∙ ap (map (λ (e : Placed). (e.card.from, reaction_of e.card))) (filter-map bare_placed says says (λ e. refl) (lasts same_sender es))
    ∙ map_twice bare_placed (λ e. (e.card.from, reaction_of e.card)) (filter says (lasts same_sender es))

brought_bare : (e : Placed) → brought_by (bare_placed e) ≡ map bare_brought (brought_by e)
brought_bare e = sym (map_twice (λ p. record { by = e; part = p.0; update = p.1 }) bare_brought (enumerate_from 0 e.card.updates))

updates_bare : (es : List Placed) → updates_by (map bare_placed es) ≡ map unnumbered_update (updates_by es)
updates_bare es =
    let bs = flat_map brought_by es in
    ap (λ cs. map (λ b. update_row b.0 b.1) (enumerate_from 1 cs)) (flat_map-map brought_by bare_placed es ∙ flat_map_same (λ e. brought_by (bare_placed e)) (λ e. map bare_brought (brought_by e)) brought_bare es ∙ sym (map-flat_map bare_brought brought_by es))
    ∙ ap (map (λ b. update_row b.0 b.1)) (enumerate_from-map bare_brought 1 bs)
    ∙ map_twice (λ b. (b.0, bare_brought b.1)) (λ b. update_row b.0 b.1) (enumerate_from 1 bs)
    ∙ sym (map_twice (λ b. update_row b.0 b.1) unnumbered_update (enumerate_from 1 bs))

shown_bare : (me : Bytes) (t : Mail) (acts : List Act) → shown_by me (bare t) (map bare_act acts) ≡ unnumbered_row (shown_by me t acts)
shown_bare me t acts =
    let card = t.placed.card in
    let edits = last_of (acting_by effects.Edit acts) in
    let edit : last_of (acting_by effects.Edit (map bare_act acts)) ≡ option_map bare_placed edits = ap last_of (acting_bare effects.Edit acts) ∙ last_of-map bare_placed (acting_by effects.Edit acts) in
    let text = ap (λ o. text_card o card) edit ∙ text_bare edits card in
    let edited = ap is_some edit ∙ some_bare edits in
    let readers = ap readers_by (acting_bare effects.Read acts) ∙ readers_bare (acting_by effects.Read acts) in
    let reactions = ap reactions_by (acting_bare effects.Reaction acts) ∙ reactions_bare (acting_by effects.Reaction acts) in
    let updates = ap updates_by (acting_bare effects.Update acts) ∙ updates_bare (acting_by effects.Update acts) in
    λ i. record (unnumbered_row (shown_by me t acts)) {
      text = (text i).text;
      cut = (text i).cut;
      edited = edited i;
      readers = readers i;
      reactions = reactions i;
      updates = updates i;
    }

some_map : {X Y : Type 0} (f : X → Y) (xs : List X) → has_some (map f xs) ≡ has_some xs
some_map f xs = ap (nat_lt 0) (length-map xs f)

row_bare : (me : Bytes) (now : ℕ) (ps : List Mail) (t : Mail)
    → row_in me now (map bare ps) (bare t) ≡ option_map unnumbered_row (row_in me now ps t)
row_bare me now ps t =
    let acts = acts_on me t.placed.card (map (λ u. u.placed) ps) in
    let expired = is_expired me now t in
    let deletes = ap has_some (acting_bare effects.Delete acts) ∙ some_map bare_placed (acting_by effects.Delete acts) in
    ap (row_by me now (bare t)) (acts_bare me t.placed.card ps)
    ∙ (λ i. if deletes i || expired then None else Some (shown_bare me t acts i))
    ∙ by (has_some (acting_by effects.Delete acts) || expired) (shown_by me t acts)
  where
    by : (b : Bool) (r : Row) → (if b then None else Some (unnumbered_row r)) ≡ option_map unnumbered_row (if b then None else Some r)
    by true r = refl
    by false r = refl

-- ---- the chats

known_bare : (me : Bytes) (known : Known) (cs : List Mail)
    → known_after known (map (λ t. cites_by me (spot t.placed) t.placed.card) (map bare cs)) ≡ known_after known (map (λ t. cites_by me (spot t.placed) t.placed.card) cs)
known_bare me known [] = refl
known_bare me known (c ∷ cs) =
    known_bare me (known ++ (c.placed.card.id, next_chat known (cites_by me (spot c.placed) c.placed.card)) ∷ []) cs

module _ (me : Bytes) (now : ℕ) (ps : List Mail) where
  abbrev qs : List Mail
  qs = map bare ps

  contents_bare : contents_in me now qs ≡ map bare (contents_in me now ps)
  contents_bare = filter-map bare is_shown_kind is_shown_kind (λ t. refl) ps

  chats_bare : chats_in me now qs ≡ chats_in me now ps
  chats_bare =
      ap (λ cs. chats_of (map (λ t. cites_by me (spot t.placed) t.placed.card) cs)) contents_bare ∙ known_bare me [] (contents_in me now ps)

  keys_bare : keys_in me now qs ≡ keys_in me now ps
  keys_bare = ap (λ known. firsts key_eq (map (λ k. k.1) known)) chats_bare

  pub cards_bare : cards_in me now qs ≡ cards_in me now ps
  cards_bare =
      ap (map (λ p. p.card)) (placed_bare ps) ∙ map_twice bare_placed (λ p. p.card) (map (λ t. t.placed) ps)

  module _ (key : ChatKey) where
    mails_bare : mails_in me now qs key ≡ map bare (mails_in me now ps key)
    mails_bare =
        let p : Mail → Bool = λ t. is_chat key (known_chat (chats_in me now ps) t.placed.card.id) in
        (λ i. filter (λ t. is_chat key (known_chat (chats_bare i) t.placed.card.id)) (contents_bare i))
        ∙ filter-map bare p p (λ t. refl) (contents_in me now ps)

    rows_bare : rows_in me now qs key ≡ map unnumbered_row (rows_in me now ps key)
    rows_bare =
        ap (filter_map (row_in me now qs)) mails_bare
        ∙ filter_map-map bare unnumbered_row (row_in me now ps) (row_in me now qs) (row_bare me now ps) (mails_in me now ps key)

    roster_bare : roster_in me now qs key ≡ roster_in me now ps key
    roster_bare =
        ap (λ ts. roster_of me key (map (λ t. t.placed.card) ts)) mails_bare
        ∙ ap (roster_of me key) (map_twice bare (λ t. t.placed.card) (mails_in me now ps key))

    name_bare : name_in me now qs key ≡ name_in me now ps key
    name_bare = λ i. name_by key (roster_bare i) (name_among (cards_bare i))

    list_row_bare : list_row_in me now qs key ≡ list_row_in me now ps key
    list_row_bare =
        let rows = rows_in me now ps key in
        (λ i. list_row_by key (name_bare i) (count_by is_fresh (rows_bare i)) (last_of (rows_bare i)))
        ∙ (λ i. list_row_by key (name_in me now ps key) (sum_by-map (λ r. if is_fresh r then 1 else 0) unnumbered_row rows i) (last_of-map unnumbered_row rows i))
        ∙ by (last_of rows)
      where
        by : (o : Option Row) → list_row_by key (name_in me now ps key) (count_by is_fresh (rows_in me now ps key)) (option_map unnumbered_row o)
            ≡ list_row_by key (name_in me now ps key) (count_by is_fresh (rows_in me now ps key)) o
        by None = refl
        by (Some r) = refl

    pub page_bare : page_in me now qs key ≡ option_map unnumbered (page_in me now ps key)
    page_bare =
        (λ i. if list_any (key_eq key) (keys_bare i) then Some (page_by key (name_bare i) (roster_bare i) (rows_bare i)) else None)
        ∙ by (list_any (key_eq key) (keys_in me now ps))
      where
        by : (b : Bool) → (if b then Some (page_by key (name_in me now ps key) (roster_in me now ps key) (map unnumbered_row (rows_in me now ps key))) else None)
            ≡ option_map unnumbered (if b then Some (page_by key (name_in me now ps key) (roster_in me now ps key) (rows_in me now ps key)) else None)
        by true = refl
        by false = refl

  pub list_bare : list_rows_in me now qs ≡ list_rows_in me now ps
  list_bare =
      ap (λ ks. sorted_by list_cmp (map (list_row_in me now qs) ks)) keys_bare
      ∙ ap (sorted_by list_cmp) (all (keys_in me now ps))
    where
      all : (ks : List ChatKey) → map (list_row_in me now qs) ks ≡ map (list_row_in me now ps) ks
      all [] = refl
      all (k ∷ ks) = λ i. list_row_bare k i ∷ all ks i

  updates_found : (id : Bytes) → updates_in me now qs id ≡ option_map (map unnumbered_update) (updates_in me now ps id)
  updates_found id =
      ap (λ o. o >>= row_in me now qs >>= app_updates) (ap (find (has_id id)) contents_bare ∙ find-map bare (has_id id) (has_id id) (λ t. refl) (contents_in me now ps))
      ∙ by (find (has_id id) (contents_in me now ps))
    where
      of_row : (o : Option Row) → (option_map unnumbered_row o >>= app_updates) ≡ option_map (map unnumbered_update) (o >>= app_updates)
      of_row None = refl
      of_row (Some r) = elim r.app as (λ b. (if b then Some (map unnumbered_update r.updates) else None) ≡ option_map (map unnumbered_update) (if b then Some r.updates else None)) [ true ↦ refl | false ↦ refl ]

      by : (o : Option Mail) → (option_map bare o >>= row_in me now qs >>= app_updates) ≡ option_map (map unnumbered_update) (o >>= row_in me now ps >>= app_updates)
      by None = refl
      by (Some t) = ap (λ o. o >>= app_updates) (row_bare me now ps t) ∙ of_row (row_in me now ps t)

  -- ---- what is printed of them

  printed_alike : (f : List UpdateRow → Bytes) → ((rows : List UpdateRow) → f (map unnumbered_update rows) ≡ f rows) → (id : Bytes)
      → option_map f (updates_in me now qs id) ≡ option_map f (updates_in me now ps id)
  printed_alike f h id = ap (option_map f) (updates_found id) ∙ by (updates_in me now ps id)
    where
      by : (o : Option (List UpdateRow)) → option_map f (option_map (map unnumbered_update) o) ≡ option_map f o
      by None = refl
      by (Some rows) = ap Some (h rows)

  text_same : (max : ℕ) (rows : List UpdateRow) → updates_text max (map unnumbered_update rows) ≡ updates_text max rows
  text_same max rows = flat_map-map (update_line max) unnumbered_update rows

  pub all_updates_bare : (faults : List FaultRow) (id : Bytes)
      → answer_in me now qs faults (AllUpdates id) ≡ answer_in me now ps faults (AllUpdates id)
  all_updates_bare faults id =
      printed_alike (λ rows. updates_text (length rows) rows)
      (λ rows. ap (λ n. updates_text n (map unnumbered_update rows)) (length-map rows unnumbered_update) ∙ text_same (length rows) rows) id

  pub info_updates_bare : (faults : List FaultRow) (id : Bytes)
      → answer_in me now qs faults (InfoUpdates id) ≡ answer_in me now ps faults (InfoUpdates id)
  info_updates_bare faults id =
      printed_alike (λ rows. updates_text (length rows) (filter has_info rows))
      (λ rows. (λ i. updates_text (length-map rows unnumbered_update i) (filter-map unnumbered_update has_info has_info (λ r. refl) rows i)) ∙ text_same (length rows) (filter has_info rows)) id
