-- A chat of which a shown row expires has another page.
use Rattle.std.proofs.Common.{◌≡◌, ◌≢◌, refl, sym, ap, ◌∙◌, subst, ◌+◌, ◌<◌, ◌≤◌, Bool, true, false, not, ◌||◌, ◌&&◌, Option, Some, None, is_some, List, [], ◌∷◌, length, map, arith}
use Rattle.std.specs.Prelude.{if◌then◌else◌, filter_map}
use Rattle.std.specs.List.{list_any, AllByRecursion, cons_option}
use Rattle.std.specs.Option.{option_map_or}
use Rattle.std.proofs.lemmas.Bool.{both_ways, and_parts, and_from, lt-ltb, false≢true}
use Rattle.lists.proofs.OneMore.{none_among}
use Rattle.card_type.specs.declared.key.ChatKey.{ChatKey}
use Rattle.card_type.specs.Keys.{key_eq}
use Rattle.card_type.specs.Kinds.{has_some}
use Rattle.mailbox_model.specs.declared.row.Row.{Row}
use Rattle.mailbox_model.specs.declared.page.ChatPage.{ChatPage}
use Rattle.mailbox_model.specs.declared.turn.Turn.{Turn}
use Rattle.mailbox_model.specs.declared.turn.Turn.TheVariants.{Nothing, Add, Remove, Replace, Marked, Moved}
use Rattle.mailbox_model.specs.Mailbox.{Mailbox}
use Rattle.mailbox_model.specs.Present.{Mail, present}
use Rattle.mailbox_model.specs.Turns.{IsTurn}
use Rattle.mailbox_model.specs.Chats.{chat_mails}
use Rattle.mailbox_model.specs.Rows.{acting, acts_on, expiry, is_withdrawn, is_expired, row, row_by, shown_by}
use Rattle.mailbox_model.specs.Pages.{keys, page, page_of, shown_rows}
use Rattle.mailbox_model.proofs.ListLaws.{keys_are}
use Rattle.touched_chats.specs.Suspects.{is_due, has_due}
use Rattle.touched_chats.proofs.Among.{any_found, found_any}
use Rattle.touched_chats.proofs.Clock.{still_late, moved_mails}

-- ---- where the moment stays, none expires

not_yet : (w x : Bool) (r : Row) → (is_some (if w || x then None else Some r) && x) ≡ false
not_yet true x r = refl
not_yet false true r = refl
not_yet false false r = refl

none_yet : (m : Mailbox) (key : ChatKey) → has_due m m.now key ≡ false
none_yet m key = none_among (is_due m m.now) (chat_mails m key) (each (chat_mails m key))
  where
    each : (ts : List Mail) → AllByRecursion (λ t. is_due m m.now t ≡ false) ts
    each [] = tt
    each (t ∷ ts) = (not_yet (is_withdrawn (acting m t.placed.card)) (is_expired m.me m.now t) (shown_by m.me t (acting m t.placed.card)), each ts)

none_without : (m n : Mailbox) (key : ChatKey) → n.now ≡ m.now → has_due m n.now key ≡ false
none_without m n key same = ap (λ now. has_due m now key) same ∙ none_yet m key

-- ---- fewer rows

shown_first : (o : Option Row) (rows : List Row) → length (cons_option o rows) ≡ (if is_some o then 1 else 0) + length rows
shown_first None rows = omega arith
shown_first (Some r) rows = omega arith

-- each row that f gives is one that g gives
abbrev GivesLess : (Mail → Option Row) → (Mail → Option Row) → Mail → Type 0
GivesLess f g t = is_some (f t) ≡ true → is_some (g t) ≡ true

counted : (b c : Bool) → (b ≡ true → c ≡ true) → (if b then 1 else 0) ≤ (if c then 1 else 0)
counted true c h = rw (h refl) (omega arith)
counted false true h = omega arith
counted false false h = omega arith

module _ (f g : Mail → Option Row) where
  no_more : (ts : List Mail) → AllByRecursion (GivesLess f g) ts → length (filter_map f ts) ≤ length (filter_map g ts)
  no_more [] a = omega arith
  no_more (t ∷ ts) a =
      let rest = no_more ts a.1 in
      let one = shown_first (f t) (filter_map f ts) in
      let two = shown_first (g t) (filter_map g ts) in
      let here = counted (is_some (f t)) (is_some (g t)) a.0 in
      omega (arith, rest, one, two, here)

  fewer : (ts : List Mail) → AllByRecursion (GivesLess f g) ts → list_any (λ t. is_some (g t) && not (is_some (f t))) ts ≡ true
      → length (filter_map f ts) < length (filter_map g ts)
  fewer [] a h = absurd (false≢true h)
  fewer (t ∷ ts) a h = by (is_some (f t)) (is_some (g t)) refl refl (fewer ts a.1) h
    where
      by : (b c : Bool) → is_some (f t) ≡ b → is_some (g t) ≡ c
          → (list_any (λ t. is_some (g t) && not (is_some (f t))) ts ≡ true → length (filter_map f ts) < length (filter_map g ts))
          → ((c && not b) || list_any (λ t. is_some (g t) && not (is_some (f t))) ts) ≡ true
          → length (filter_map f (t ∷ ts)) < length (filter_map g (t ∷ ts))
      by true true d e rest k =
          let left = rest k in
          let one = shown_first (f t) (filter_map f ts) ∙ ap (λ b. (if b then 1 else 0) + length (filter_map f ts)) d in
          let two = shown_first (g t) (filter_map g ts) ∙ ap (λ b. (if b then 1 else 0) + length (filter_map g ts)) e in
          omega (arith, left, one, two)
      by true false d e rest k = absurd (both_ways (is_some (g t)) e (a.0 d))
      by false true d e rest k =
          let weak = no_more ts a.1 in
          let one = shown_first (f t) (filter_map f ts) ∙ ap (λ b. (if b then 1 else 0) + length (filter_map f ts)) d in
          let two = shown_first (g t) (filter_map g ts) ∙ ap (λ b. (if b then 1 else 0) + length (filter_map g ts)) e in
          omega (arith, weak, one, two)
      by false false d e rest k =
          let left = rest k in
          let one = shown_first (f t) (filter_map f ts) ∙ ap (λ b. (if b then 1 else 0) + length (filter_map f ts)) d in
          let two = shown_first (g t) (filter_map g ts) ∙ ap (λ b. (if b then 1 else 0) + length (filter_map g ts)) e in
          omega (arith, left, one, two)

-- a page with fewer rows is another page
fewer_rows : (m n : Mailbox) (key : ChatKey) → list_any (key_eq key) (keys m) ≡ true → list_any (key_eq key) (keys n) ≡ true
    → length (shown_rows n key) < length (shown_rows m key) → page m key ≢ page n key
fewer_rows m n key p q h e =
    let same = ap (λ o. option_map_or (λ (page : ChatPage). length page.rows) o 0) e in
    let left : option_map_or (λ (page : ChatPage). length page.rows) (page m key) 0 ≡ length (shown_rows m key) = ap (λ b. option_map_or (λ (page : ChatPage). length page.rows) (if b then Some (page_of m key) else None) 0) p in
    let right : option_map_or (λ (page : ChatPage). length page.rows) (page n key) 0 ≡ length (shown_rows n key) = ap (λ b. option_map_or (λ (page : ChatPage). length page.rows) (if b then Some (page_of n key) else None) 0) q in
    omega (arith, h, same, left, right)

-- ---- as time goes on

module _ (m n : Mailbox) (me : m.me ≡ n.me) (same : present m ≡ present n) (clock : m.now ≤ n.now) where
  -- the row of a mail then
  abbrev later : Mail → Option Row
  later t = row_by m.me n.now t (acting m t.placed.card)

  later_is : (t : Mail) → later t ≡ row n t
  later_is t i = row_by (me i) n.now t (acts_on (me i) t.placed.card (map (λ u. u.placed) (same i)))

  gives_less : (t : Mail) → GivesLess later (row m) t
  gives_less t = by (is_withdrawn (acting m t.placed.card)) (is_expired m.me m.now t) (is_expired m.me n.now t) (shown_by m.me t (acting m t.placed.card)) (still_late (expiry m.me t) m.now n.now clock)
    where
      by : (w x y : Bool) (r : Row) → (x ≡ true → y ≡ true) → is_some (if w || y then None else Some r) ≡ true → is_some (if w || x then None else Some r) ≡ true
      by true x y r f h = absurd (false≢true h)
      by false x true r f h = absurd (false≢true h)
      by false true false r f h = absurd (false≢true (f refl))
      by false false false r f h = refl

  gone : (t : Mail) → is_due m n.now t ≡ true → (is_some (row m t) && not (is_some (later t))) ≡ true
  gone t h =
      let parts = and_parts (is_some (row m t)) (is_expired m.me n.now t) h in
      and_from (is_some (row m t)) (not (is_some (later t))) parts.0
      (ap (λ x. not (is_some (if is_withdrawn (acting m t.placed.card) || x then None else Some (shown_by m.me t (acting m t.placed.card))))) parts.1
      ∙ none (is_withdrawn (acting m t.placed.card)) (shown_by m.me t (acting m t.placed.card)))
    where
      none : (w : Bool) (r : Row) → not (is_some (if w || true then None else Some r)) ≡ true
      none true r = refl
      none false r = refl

  clock_touches : (key : ChatKey) → has_due m n.now key ≡ true → page m key ≢ page n key
  clock_touches key h =
      let f = any_found (is_due m n.now) (chat_mails m key) h in
      let some = found_any (λ t. is_some (row m t) && not (is_some (later t))) f.it (chat_mails m key) f.among (gone f.it f.passes) in
      let here = keys_are m key ∙ has_one (chat_mails m key) h in
      let there = keys_are n key ∙ ap has_some (sym mails) ∙ has_one (chat_mails m key) h in
      fewer_rows m n key here there (subst (λ rows. length rows < length (shown_rows m key)) rows (fewer later (row m) (chat_mails m key) (each (chat_mails m key)) some))
    where
      mails : chat_mails m key ≡ chat_mails n key
      mails = moved_mails m n me same clock key

      rows : filter_map later (chat_mails m key) ≡ shown_rows n key
      rows i = filter_map (λ t. later_is t i) (mails i)

      each : (ts : List Mail) → AllByRecursion (GivesLess later (row m)) ts
      each [] = tt
      each (t ∷ ts) = (gives_less t, each ts)

      has_one : (ts : List Mail) → list_any (is_due m n.now) ts ≡ true → has_some ts ≡ true
      has_one [] h = absurd (false≢true h)
      has_one (t ∷ ts) h = lt-ltb 0 (length (t ∷ ts)) (omega arith)

pub due_touched : (m n : Mailbox) (turn : Turn) (key : ChatKey) → m.me ≡ n.me → IsTurn m n turn → has_due m n.now key ≡ true → page m key ≢ page n key
due_touched m n Nothing key me is h = absurd (both_ways (has_due m n.now key) (none_without m n key is.clock) h)
due_touched m n (Add at) key me is h = absurd (both_ways (has_due m n.now key) (none_without m n key is.clock) h)
due_touched m n (Remove at) key me is h = absurd (both_ways (has_due m n.now key) (none_without m n key is.clock) h)
due_touched m n (Replace from to) key me is h = absurd (both_ways (has_due m n.now key) (none_without m n key is.clock) h)
due_touched m n (Marked uid) key me is h = absurd (both_ways (has_due m n.now key) (none_without m n key is.clock) h)
due_touched m n (Moved moment) key me is h =
    let later : m.now ≤ n.now = let lt = is.clock.0 in let e = is.clock.1 in omega (arith, lt, e) in
    clock_touches m n me (sym is.present) later key h
