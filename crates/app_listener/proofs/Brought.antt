-- Where the updates of an app come from: each from a card that is kept, and their serials follow one another.
use Rattle.std.proofs.Common.{◌≡◌, refl, sym, ap, subst, ◌∙◌, ℕ, ◌+◌, Bool, true, false, Option, Some, None, Result, Ok, Err, List, [], ◌∷◌, ◌++◌, length, map, append_assoc}
use Rattle.std.specs.Prelude.{◌==◌, ◌||◌, if◌then◌else◌, flat_map, find, option_map, slice_get, unwrap_or}
use Rattle.std.specs.List.{AllByRecursion, enumerate_from}
use Rattle.std.specs.Result.{result_ok}
use Rattle.std.proofs.lemmas.Bool.{and_parts, eqb-true}
use Rattle.std.proofs.lemmas.List.{length_push}
use Rattle.kit.specs.Options.{◌>>=◌}
use Rattle.card_type.specs.declared.card.Card.{Card}
use Rattle.card_type.specs.declared.card.Update.{Update}
use Rattle.card_type.specs.declared.effect.Effect.TheVariants as effects
use Rattle.mailbox_model.specs.declared.change.Fault.{Fault}
use Rattle.mailbox_model.specs.declared.row.UpdateRow.{UpdateRow}
use Rattle.mailbox_model.specs.Lists.{Bytes}
use Rattle.mailbox_model.specs.Mailbox.{Entry, Mailbox, RiseBelow, card_at, entry_at}
use Rattle.mailbox_model.specs.Pages.{app_updates, updates}
use Rattle.mailbox_model.specs.Present.{Mail, Placed, contents, has_id, mail_at, mail_by, mail_of, present, present_cards}
use Rattle.mailbox_model.specs.Rows.{Brought, acting, acting_by, brought_by, is_expired, is_withdrawn, row, shown_by, update_row, updates_by}
use Rattle.mailbox_model.proofs.ActLaws.{All-acting}
use Rattle.mailbox_model.proofs.Elements.{All-append}
use Rattle.mailbox_model.proofs.UidLaws.{present_own}
use Rattle.app_listener.specs.Hearing.{is_origin, origin}
use Rattle.app_listener.proofs.Rejoined.{Follow}

-- ---- one that is shown is that of a mail

pub record IsShown (m : Mailbox) (rows : List UpdateRow) : Type 0 where
  pub mail : Mail
  pub are : rows ≡ updates_by (acting_by effects.Update (acting m mail.placed.card))

pub shown : (m : Mailbox) (id : Bytes) (rows : List UpdateRow) → updates m id ≡ Some rows → IsShown m rows
shown m id rows h = by (find (has_id id) (contents m)) h
  where
    of_app : (t : Mail) (app : Bool) → let us = updates_by (acting_by effects.Update (acting m t.placed.card)) in
        (if app then Some us else None) ≡ Some rows → IsShown m rows
    of_app t true e = record { mail = t; are = ap (λ o. unwrap_or o rows) (sym e) }
    of_app t false e = absurd cc

    of_row : (t : Mail) (gone : Bool) → ((if gone then None else Some (shown_by m.me t (acting m t.placed.card))) >>= app_updates) ≡ Some rows → IsShown m rows
    of_row t true e = absurd cc
    of_row t false e = of_app t t.placed.card.app e

    by : (o : Option Mail) → (o >>= row m >>= app_updates) ≡ Some rows → IsShown m rows
    by None e = absurd cc
    by (Some t) e = of_row t (is_withdrawn (acting m t.placed.card) || is_expired m.me m.now t) e

-- ---- serials

numbered : (j : ℕ) (bs : List Brought) → Follow j (map (λ b. update_row b.0 b.1) (enumerate_from (j + 1) bs))
numbered j [] = tt
numbered j (b ∷ bs) = (refl, numbered (j + 1) bs)

pub follow : (m : Mailbox) (rows : List UpdateRow) → IsShown m rows → Follow 0 rows
follow m rows s = subst (Follow 0) (sym s.are) (numbered 0 (flat_map brought_by (acting_by effects.Update (acting m s.mail.placed.card))))

-- ---- cards

-- an update is one of a card that is kept
pub record IsKept (m : Mailbox) (row : UpdateRow) : Type 0 where
  pub card : Card
  pub kept : card_at m row.uid ≡ Some card
  pub from : row.from ≡ card.from
  pub update : slice_get card.updates row.part ≡ Some row.update

record IsBrought (m : Mailbox) (b : Brought) : Type 0 where
  pub kept : card_at m b.by.uid ≡ Some b.by.card
  pub update : slice_get b.by.card.updates b.part ≡ Some b.update

abbrev bring : Placed → List (ℕ × Update) → List Brought
bring e us = map (λ p. record { by = e; part = p.0; update = p.1 }) us

slice_get-seam : {X : Type 0} (xs : List X) (y : X) (ys : List X) → slice_get (xs ++ y ∷ ys) (length xs) ≡ Some y
slice_get-seam [] y ys = refl
slice_get-seam (x ∷ xs) y ys = slice_get-seam xs y ys

module _ (m : Mailbox) where
  -- of one mail, with the updates before them
  of_mail : (e : Placed) (before us : List Update) → card_at m e.uid ≡ Some e.card → e.card.updates ≡ before ++ us
      → AllByRecursion (IsBrought m) (bring e (enumerate_from (length before) us))
  of_mail e before [] k h = tt
  of_mail e before (u ∷ us) k h =
      let at : slice_get e.card.updates (length before) ≡ Some u = ap (λ all. slice_get all (length before)) h ∙ slice_get-seam before u us in
      let others = of_mail e (before ++ u ∷ []) us k (h ∙ sym (append_assoc before (u ∷ []) us)) in
      (record { kept = k; update = at }, subst (λ n. AllByRecursion (IsBrought m) (bring e (enumerate_from n us))) (length_push before u) others)

  of_mails : (es : List Placed) → AllByRecursion (λ e. card_at m e.uid ≡ Some e.card) es → AllByRecursion (IsBrought m) (flat_map brought_by es)
  of_mails [] a = tt
  of_mails (e ∷ es) a = All-append (IsBrought m) (brought_by e) (flat_map brought_by es) (of_mail e [] e.card.updates a.0 refl) (of_mails es a.1)

  of_rows : (n : ℕ) (bs : List Brought) → AllByRecursion (IsBrought m) bs → AllByRecursion (IsKept m) (map (λ b. update_row b.0 b.1) (enumerate_from n bs))
  of_rows n [] a = tt
  of_rows n (b ∷ bs) a = (record { card = b.by.card; kept = a.0.kept; from = refl; update = a.0.update }, of_rows (n + 1) bs a.1)

  present_kept : (ts : List Mail) → AllByRecursion (λ t. mail_at m t.placed.uid ≡ Some t) ts → AllByRecursion (λ e. card_at m e.uid ≡ Some e.card) (map (λ t. t.placed) ts)
  present_kept [] a = tt
  present_kept (t ∷ ts) a = (by (entry_at m t.placed.uid) a.0, present_kept ts a.1)
    where
      read : (entry : Entry) (read : Result Card Fault) → mail_by entry read ≡ Some t → result_ok read ≡ Some t.placed.card
      read entry (Ok card) e = ap (option_map (λ u. u.placed.card)) e
      read entry (Err fault) e = absurd cc

      by : (o : Option Entry) → (o >>= mail_of) ≡ Some t → (o >>= λ entry. result_ok entry.read) ≡ Some t.placed.card
      by None e = absurd cc
      by (Some entry) e = read entry entry.read e

  pub all_kept : RiseBelow 1 m.entries m.next_uid → (rows : List UpdateRow) → IsShown m rows → AllByRecursion (IsKept m) rows
  all_kept rise rows s =
      let t = s.mail.placed.card in
      let es = acting_by effects.Update (acting m t) in
      subst (AllByRecursion (IsKept m)) (sym s.are) (of_rows 1 (flat_map brought_by es)
      (of_mails es (All-acting m.me t effects.Update (λ e. card_at m e.uid ≡ Some e.card) (present_cards m) (present_kept (present m) (present_own m rise)))))

-- ---- one origin, one update

pub one_update : (m n : Mailbox) → ((uid : ℕ) (a b : Card) → card_at m uid ≡ Some a → card_at n uid ≡ Some b → b ≡ a)
    → (x y : UpdateRow) → IsKept m x → IsKept n y → x.serial ≡ y.serial → is_origin (origin x) y ≡ true → x ≡ y
one_update m n one x y k l serial same =
    let parts = and_parts (x.uid == y.uid) (x.part == y.part) same in
    let uid = eqb-true x.uid y.uid parts.0 in
    let part = eqb-true x.part y.part parts.1 in
    let card = sym (one x.uid k.card l.card k.kept (ap (card_at n) uid ∙ l.kept)) in
    let from = k.from ∙ ap (λ c. c.from) card ∙ sym l.from in
    let update = ap (λ o. unwrap_or o x.update) (sym k.update ∙ (λ i. slice_get (card i).updates (part i)) ∙ l.update) in
    λ i. record { serial = serial i; uid = uid i; part = part i; from = from i; update = update i }
