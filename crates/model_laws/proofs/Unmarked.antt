-- A seen mark changes nothing but marks.
use Rattle.std.proofs.Common.{◌≡◌, refl, sym, ap, ◌∙◌, ℕ, ◌+◌, Bool, true, false, ◌||◌, Option, Some, None, List, [], ◌∷◌, length, map, arith}
use Rattle.std.specs.Prelude.{if◌then◌else◌, fold, filter, filter_map, find, option_map, nat_lt, nat_le}
use Rattle.std.specs.List.{cons_option, list_any}
use Rattle.std.specs.Option.{option_map_or, option_or}
use Rattle.std.specs.Str.{bytes_eq}
use Rattle.std.proofs.lemmas.Bool.{ltb-true, lt-leb}
use Rattle.kit.specs.Options.{◌>>=◌}
use Rattle.lists.specs.Distinct.{firsts}
use Rattle.lists.specs.Sorted.{insert_by, sorted_by}
use Rattle.lists.proofs.OneMore.{map-insert_by}
use Rattle.card_type.specs.declared.key.ChatKey.{ChatKey}
use Rattle.card_type.specs.Keys.{key_eq}
use Rattle.card_type.specs.Kinds.{kind_of, is_content}
use Rattle.mailbox_model.specs.declared.change.Change.TheVariants.{Seen}
use Rattle.mailbox_model.specs.declared.list.ListRow.{ListRow}
use Rattle.mailbox_model.specs.declared.roster.Roster.{Roster}
use Rattle.mailbox_model.specs.declared.row.Row.{Row}
use Rattle.mailbox_model.specs.declared.row.UpdateRow.{UpdateRow}
use Rattle.mailbox_model.specs.Lists.{Bytes, last_of}
use Rattle.mailbox_model.specs.Mailbox.{Mailbox, Entry, after, has_uid, marked_at, mark_entry}
use Rattle.mailbox_model.specs.Present.{Placed, Mail, spot, mails, has_id, same_id, present, present_cards, contents}
use Rattle.mailbox_model.specs.Turns.{is_mail, mark_mail}
use Rattle.mailbox_model.specs.Chats.{known_chat, cites_by, chats_of, chats, is_chat, chat_mails}
use Rattle.mailbox_model.specs.Rows.{Act, acting, acts_on, is_withdrawn, is_sent, is_expired, shown_by, row_by, row}
use Rattle.mailbox_model.specs.Rosters.{roster_of, roster}
use Rattle.mailbox_model.specs.Contacts.{name_among, contacts_by}
use Rattle.mailbox_model.specs.Names.{name_by, name}
use Rattle.mailbox_model.specs.Pages.{keys, page_by, page, shown_rows, app_updates, updates}
use Rattle.mailbox_model.specs.ChatList.{fault_by, list_cmp, list_page, list_row, list_row_by}
use Rattle.mailbox_model.specs.Printed.{contacts_text, updates_text}
use Rattle.mailbox_model.specs.Answers.{has_info, answer}
use Rattle.mailbox_model.specs.Answers.Question.{AllContacts, AllUpdates, InfoUpdates}
use Rattle.mailbox_model.proofs.MailLaws.{mails-seen}
use Rattle.model_laws.specs.Marks.{but_mark, unmarked, but_fresh, uncounted}
use Rattle.model_laws.proofs.Maps.{filter-map, find-map, firsts-map, last_of-map}
use Rattle.model_laws.proofs.Strangers.{shown_alike}

-- ---- one mail

module _ (uid now : ℕ) where
  abbrev mark : Mail → Mail
  mark t = mark_mail uid now t

  placed_kept : (t : Mail) → (mark t).placed ≡ t.placed
  placed_kept t = elim (is_mail uid t) as (λ b. (if b then record t { seen = marked_at now t.seen } else t).placed ≡ t.placed) [ true ↦ refl | false ↦ refl ]

  -- a timer that begins now does not end now
  not_yet : (timer : ℕ) → option_map_or (λ end. nat_le end now) (if nat_lt 0 timer then Some (now + timer) else None) false ≡ false
  not_yet timer = by (nat_lt 0 timer) refl
    where
      by : (b : Bool) → nat_lt 0 timer ≡ b → option_map_or (λ end. nat_le end now) (if b then Some (now + timer) else None) false ≡ false
      by true e = lt-leb (now + timer) now (omega (arith, ltb-true 0 timer e))
      by false e = refl

  none_yet : (timer : ℕ) → option_map_or (λ end. nat_le end now) (if nat_lt 0 timer then None else None) false ≡ false
  none_yet timer = elim (nat_lt 0 timer) as (λ b. option_map_or (λ end. nat_le end now) (if b then None else None) false ≡ false) [ true ↦ refl | false ↦ refl ]

  expired_kept : (me : Bytes) (t : Mail) → is_expired me now (mark t) ≡ is_expired me now t
  expired_kept me t =
      elim (is_mail uid t) as (λ b. is_expired me now (if b then record t { seen = marked_at now t.seen } else t) ≡ is_expired me now t) [
        | true ↦ by (is_sent me t.placed.card) t.seen
        | false ↦ refl
      ]
    where
      timer : ℕ
      timer = t.placed.card.timer

      expired : Bool → Option ℕ → Bool
      expired sent seen =
          option_map_or (λ end. nat_le end now) (if nat_lt 0 timer then option_map (λ start. start + timer) (if sent then Some t.placed.date else seen) else None) false

      by : (sent : Bool) (seen : Option ℕ) → expired sent (option_or seen (Some now)) ≡ expired sent seen
      by true seen = refl
      by false (Some s) = refl
      by false None = not_yet timer ∙ sym (none_yet timer)

  row_marked : (me : Bytes) (t : Mail) (acts : List Act)
      → option_map but_mark (row_by me now (mark t) acts) ≡ option_map but_mark (row_by me now t acts)
  row_marked me t acts =
      shown_alike but_mark (is_withdrawn acts || is_expired me now (mark t)) (is_withdrawn acts || is_expired me now t) (shown_by me (mark t) acts) (shown_by me t acts) (ap (λ b. is_withdrawn acts || b) (expired_kept me t))
      (elim (is_mail uid t) as (λ b. but_mark (shown_by me (if b then record t { seen = marked_at now t.seen } else t) acts) ≡ but_mark (shown_by me t acts)) [ true ↦ refl | false ↦ refl ])

  map_kept : {Y : Type 0} (f : Placed → Y) (ts : List Mail) → map (λ t. f t.placed) (map mark ts) ≡ map (λ t. f t.placed) ts
  map_kept f [] = refl
  map_kept f (t ∷ ts) = λ i. f (placed_kept t i) ∷ map_kept f ts i

-- rows that differ in their marks, picked one by one
rows_marked : (mark : Mail → Mail) (f g : Mail → Option Row) → ((t : Mail) → option_map but_mark (f (mark t)) ≡ option_map but_mark (g t))
    → (ts : List Mail) → map but_mark (filter_map f (map mark ts)) ≡ map but_mark (filter_map g ts)
rows_marked mark f g h [] = refl
rows_marked mark f g h (t ∷ ts) =
    each (f (mark t)) (filter_map f (map mark ts))
    ∙ (λ i. cons_option (h t i) (rows_marked mark f g h ts i))
    ∙ sym (each (g t) (filter_map g ts))
  where
    each : (o : Option Row) (rows : List Row) → map but_mark (cons_option o rows) ≡ cons_option (option_map but_mark o) (map but_mark rows)
    each None rows = refl
    each (Some r) rows = refl

-- the order of the list does not look at how many are fresh
sorted_uncounted : (sorted rows : List ListRow)
    → map but_fresh (fold (λ sorted row. insert_by list_cmp row sorted) sorted rows) ≡ fold (λ sorted row. insert_by list_cmp row sorted) (map but_fresh sorted) (map but_fresh rows)
sorted_uncounted sorted [] = refl
sorted_uncounted sorted (row ∷ rows) =
    sorted_uncounted (insert_by list_cmp row sorted) rows
    ∙ ap (λ firsts. fold (λ sorted row. insert_by list_cmp row sorted) firsts (map but_fresh rows)) (map-insert_by list_cmp but_fresh list_cmp (λ x y. refl) row sorted)

-- ---- the mailbox

module _ (m : Mailbox) (uid : ℕ) where
  abbrev n : Mailbox
  n = after m (Seen uid)

  abbrev seen : Mail → Mail
  seen t = mark_mail uid m.now t

  present_marked : present n ≡ map seen (present m)
  present_marked =
      ap (firsts same_id) (mails-seen m uid)
      ∙ firsts-map seen same_id same_id (λ a b i. bytes_eq (placed_kept uid m.now a i).card.id (placed_kept uid m.now b i).card.id) (mails m)

  cards_kept : present_cards n ≡ present_cards m
  cards_kept = ap (map (λ t. t.placed)) present_marked ∙ map_kept uid m.now (λ p. p) (present m)

  contents_marked : contents n ≡ map seen (contents m)
  contents_marked =
      let p : Mail → Bool = λ t. is_content (kind_of t.placed.card) in
      ap (filter p) present_marked ∙ filter-map seen p p (λ t. ap (λ q. is_content (kind_of q.card)) (placed_kept uid m.now t)) (present m)

  chats_kept : chats n ≡ chats m
  chats_kept =
      ap (λ ts. chats_of (map (λ t. cites_by m.me (spot t.placed) t.placed.card) ts)) contents_marked
      ∙ ap chats_of (map_kept uid m.now (λ p. cites_by m.me (spot p) p.card) (contents m))

  row_seen : (t : Mail) → option_map but_mark (row n (seen t)) ≡ option_map but_mark (row m t)
  row_seen t =
      (λ i. option_map but_mark (row_by m.me m.now (seen t) (acts_on m.me (placed_kept uid m.now t i).card (cards_kept i))))
      ∙ row_marked uid m.now m.me t (acting m t.placed.card)

  module _ (key : ChatKey) where
    mails_marked : chat_mails n key ≡ map seen (chat_mails m key)
    mails_marked =
        let p : Mail → Bool = λ t. is_chat key (known_chat (chats m) t.placed.card.id) in
        (λ i. filter (λ t. is_chat key (known_chat (chats_kept i) t.placed.card.id)) (contents_marked i))
        ∙ filter-map seen p p (λ t. ap (λ q. is_chat key (known_chat (chats m) q.card.id)) (placed_kept uid m.now t)) (contents m)

    roster_kept : roster n key ≡ roster m key
    roster_kept =
        ap (λ ts. roster_of m.me key (map (λ t. t.placed.card) ts)) mails_marked
        ∙ ap (roster_of m.me key) (map_kept uid m.now (λ p. p.card) (chat_mails m key))

    name_kept : name n key ≡ name m key
    name_kept = λ i. name_by key (roster_kept i) (name_among (map (λ p. p.card) (cards_kept i)))

    shown_marked : map but_mark (shown_rows n key) ≡ map but_mark (shown_rows m key)
    shown_marked =
        ap (λ ts. map but_mark (filter_map (row n) ts)) mails_marked ∙ rows_marked seen (row n) (row m) row_seen (chat_mails m key)

    pub page_marked : option_map unmarked (page n key) ≡ option_map unmarked (page m key)
    page_marked =
        made (list_any (key_eq key) (keys n)) (name n key) (roster n key) (shown_rows n key)
        ∙ (λ i. if list_any (key_eq key) (firsts key_eq (map (λ k. k.1) (chats_kept i))) then Some (page_by key (name_kept i) (roster_kept i) (shown_marked i)) else None)
        ∙ sym (made (list_any (key_eq key) (keys m)) (name m key) (roster m key) (shown_rows m key))
      where
        made : (b : Bool) (called : Bytes) (r : Roster) (rows : List Row) → option_map unmarked (if b then Some (page_by key called r rows) else None)
            ≡ (if b then Some (page_by key called r (map but_mark rows)) else None)
        made true called r rows = refl
        made false called r rows = refl

    row_of_list : but_fresh (list_row n key) ≡ but_fresh (list_row m key)
    row_of_list =
        let rows = shown_rows n key in
        let others = shown_rows m key in
        (λ i. but_fresh (list_row_by key (name_kept i) 0 (last_of rows)))
        ∙ kept (last_of rows)
        ∙ ap (λ o. but_fresh (list_row_by key (name m key) 0 o)) (sym (last_of-map but_mark rows) ∙ ap last_of shown_marked ∙ last_of-map but_mark others)
        ∙ sym (kept (last_of others))
      where
        kept : (o : Option Row)
            → but_fresh (list_row_by key (name m key) 0 o) ≡ but_fresh (list_row_by key (name m key) 0 (option_map but_mark o))
        kept None = refl
        kept (Some r) = refl

  rows_of_list : (ks : List ChatKey) → map but_fresh (map (list_row n) ks) ≡ map but_fresh (map (list_row m) ks)
  rows_of_list [] = refl
  rows_of_list (k ∷ ks) = λ i. row_of_list k i ∷ rows_of_list ks i

  faults_kept : (es : List Entry)
      → filter_map (λ (e : Entry). fault_by e.uid e.read) (map (mark_entry uid m.now) es) ≡ filter_map (λ (e : Entry). fault_by e.uid e.read) es
  faults_kept [] = refl
  faults_kept (e ∷ es) = λ i. cons_option (one i) (faults_kept es i)
    where
      one : fault_by (mark_entry uid m.now e).uid (mark_entry uid m.now e).read ≡ fault_by e.uid e.read
      one =
          elim (has_uid uid e) as (λ b. let marked : Entry = if b then record e { seen = marked_at m.now e.seen } else e in fault_by marked.uid marked.read ≡ fault_by e.uid e.read) [ true ↦ refl | false ↦ refl ]

  pub list_marked : uncounted (list_page n) ≡ uncounted (list_page m)
  list_marked =
      let rows =
      sorted_uncounted [] (map (list_row n) (keys n))
      ∙ ap (sorted_by list_cmp) (ap (λ known. map but_fresh (map (list_row n) (firsts key_eq (map (λ k. k.1) known)))) chats_kept ∙ rows_of_list (keys m))
      ∙ sym (sorted_uncounted [] (map (list_row m) (keys m))) in
      λ i. record { rows = rows i; faults = faults_kept m.entries i }

  pub contacts_kept : answer n AllContacts ≡ answer m AllContacts
  contacts_kept = λ i. Some (contacts_text (contacts_by m.me (map (λ p. p.card) (cards_kept i))))

  updates_kept : (id : Bytes) → updates n id ≡ updates m id
  updates_kept id =
      ap (λ o. o >>= row n >>= app_updates) (ap (find (has_id id)) contents_marked ∙ find-map seen (has_id id) (has_id id) (λ t. ap (λ p. bytes_eq id p.card.id) (placed_kept uid m.now t)) (contents m))
      ∙ by (find (has_id id) (contents m))
    where
      of_row : (o : Option Row) → (o >>= app_updates) ≡ (option_map but_mark o >>= app_updates)
      of_row None = refl
      of_row (Some r) = refl

      by : (o : Option Mail) → (option_map seen o >>= row n >>= app_updates) ≡ (o >>= row m >>= app_updates)
      by None = refl
      by (Some t) = of_row (row n (seen t)) ∙ ap (λ o. o >>= app_updates) (row_seen t) ∙ sym (of_row (row m t))

  pub all_updates_kept : (id : Bytes) → answer n (AllUpdates id) ≡ answer m (AllUpdates id)
  all_updates_kept id = ap (option_map (λ (rows : List UpdateRow). updates_text (length rows) rows)) (updates_kept id)

  pub info_updates_kept : (id : Bytes) → answer n (InfoUpdates id) ≡ answer m (InfoUpdates id)
  info_updates_kept id = ap (option_map (λ (rows : List UpdateRow). updates_text (length rows) (filter has_info rows))) (updates_kept id)
