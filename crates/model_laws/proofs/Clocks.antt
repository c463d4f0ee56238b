-- As the clock goes on, only a deadline that falls due makes a difference.
use Rattle.std.proofs.Common.{◌≡◌, refl, sym, ap, ◌∙◌, ℕ, ◌≤◌, Bool, true, false, ◌<◌, ◌||◌, Option, Some, None, List, [], ◌∷◌, length, map, max, arith}
use Rattle.std.specs.Prelude.{if◌then◌else◌, find, filter, option_map, IfSome, ◌⊎◌, nat_le}
use Rattle.std.specs.List.{AllByRecursion}
use Rattle.std.proofs.lemmas.Bool.{leb-true, leb-false}
use Rattle.lists.specs.Sorted.{sorted_by}
use Rattle.lists.proofs.Inserts.{All-filter, found_all}
use Rattle.kit.specs.Options.{◌>>=◌}
use Rattle.card_type.specs.declared.key.ChatKey.{ChatKey}
use Rattle.mailbox_model.specs.declared.change.Change.TheVariants.{At}
use Rattle.mailbox_model.specs.declared.row.UpdateRow.{UpdateRow}
use Rattle.mailbox_model.specs.Lists.{Bytes}
use Rattle.mailbox_model.specs.Mailbox.{Mailbox, after}
use Rattle.mailbox_model.specs.Present.{Mail, has_id, contents}
use Rattle.mailbox_model.specs.Chats.{chats, known_chat, is_chat}
use Rattle.mailbox_model.specs.Rows.{acting, is_withdrawn, is_expired, expiry, shown_by, row}
use Rattle.mailbox_model.specs.Pages.{keys, updates, app_updates}
use Rattle.mailbox_model.specs.ChatList.{list_row, list_cmp, list_page}
use Rattle.mailbox_model.specs.Frames.{Stays}
use Rattle.mailbox_model.specs.Printed.{list_text, chat_text, updates_text}
use Rattle.mailbox_model.specs.Answers.{Question, answer, has_info}
use Rattle.mailbox_model.specs.Answers.Question.{AllChats, OneChat, AllContacts, AllUpdates, InfoUpdates}
use Rattle.mailbox_model.proofs.ActLaws.{still_unexpired}
use Rattle.mailbox_model.proofs.FrameLaws.{page_stays, list_row_stays}
use Rattle.model_laws.specs.Clocks.{NoneFallsDue}

module _ (m : Mailbox) (moment : ℕ) (still : NoneFallsDue m moment) where
  abbrev n : Mailbox
  n = after m (At moment)

  -- the clock goes forward, or stays
  expired_still : (t : Mail) → IfSome (expiry m.me t) (λ end. (end ≤ m.now) ⊎ (moment < end))
      → is_expired m.me m.now t ≡ is_expired m.me (max m.now moment) t
  expired_still t h = by (nat_le m.now moment) refl
    where
      by : (b : Bool) → nat_le m.now moment ≡ b → is_expired m.me m.now t ≡ is_expired m.me (max m.now moment) t
      by true e =
          let ahead : m.now ≤ moment = leb-true m.now moment e in
          let later : max m.now moment ≡ moment = omega (arith, ahead) in
          still_unexpired m.me m.now moment t ahead h ∙ ap (λ now. is_expired m.me now t) (sym later)
      by false e =
          let behind : moment < m.now = leb-false m.now moment e in
          let same : max m.now moment ≡ m.now = omega (arith, behind) in
          ap (λ now. is_expired m.me now t) (sym same)

  row_still : (t : Mail) → IfSome (expiry m.me t) (λ end. (end ≤ m.now) ⊎ (moment < end)) → row m t ≡ row n t
  row_still t h =
      let acts = acting m t.placed.card in
      let expired = expired_still t h in
      λ i. if is_withdrawn acts || expired i then None else Some (shown_by m.me t acts)

  rows_still : AllByRecursion (λ t. row m t ≡ row n t) (contents m)
  rows_still = all (contents m) still
    where
      all : (ts : List Mail) → AllByRecursion (λ t. IfSome (expiry m.me t) (λ end. (end ≤ m.now) ⊎ (moment < end))) ts
          → AllByRecursion (λ t. row m t ≡ row n t) ts
      all [] a = tt
      all (t ∷ ts) a = (row_still t a.0, all ts a.1)

  stays : (key : ChatKey) → Stays m n key
  stays key =
      let p : Mail → Bool = λ t. is_chat key (known_chat (chats m) t.placed.card.id) in
      record { me = refl; mails = refl; rows = All-filter (λ t. row m t ≡ row n t) p (contents m) rows_still }

  list_still : (list_page n).rows ≡ (list_page m).rows
  list_still = ap (sorted_by list_cmp) (all (keys m))
    where
      all : (ks : List ChatKey) → map (list_row n) ks ≡ map (list_row m) ks
      all [] = refl
      all (k ∷ ks) = λ i. sym (list_row_stays m n k (stays k) (λ addr e. refl)) i ∷ all ks i

  updates_still : (id : Bytes) → updates n id ≡ updates m id
  updates_still id = by (find (has_id id) (contents m)) refl
    where
      by : (o : Option Mail) → find (has_id id) (contents m) ≡ o → (o >>= row n >>= app_updates) ≡ (o >>= row m >>= app_updates)
      by None e = refl
      by (Some t) e =
          ap (λ r. r >>= app_updates) (sym (found_all (λ t. row m t ≡ row n t) (has_id id) (contents m) t rows_still e))

  pub answer_still : (question : Question) → answer n question ≡ answer m question
  answer_still AllChats = ap (λ rows. Some (list_text (record { rows = rows; faults = (list_page m).faults }))) list_still
  answer_still (OneChat key) = ap (option_map chat_text) (sym (page_stays m n key (stays key) (λ addr e. refl)))
  answer_still AllContacts = refl
  answer_still (AllUpdates id) = ap (option_map (λ (rows : List UpdateRow). updates_text (length rows) rows)) (updates_still id)
  answer_still (InfoUpdates id) = ap (option_map (λ (rows : List UpdateRow). updates_text (length rows) (filter has_info rows))) (updates_still id)
