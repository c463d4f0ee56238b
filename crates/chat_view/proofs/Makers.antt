-- What a maker keeps after one more card that acts.
use Rattle.std.proofs.Common.{◌≡◌, refl, sym, ap, ◌∙◌, subst, ℕ, Bool, true, false, cond, Option, Some, List, [], ◌∷◌, ◌++◌, map, append-nil, arith}
use Rattle.std.specs.Prelude.{filter, if◌then◌else◌, is_some, not}
use Rattle.std.specs.List.{list_any}
use Rattle.std.specs.Str.{bytes_eq}
use Rattle.std.specs.Cmp.Lexicographic.{bytes_decides}
use Rattle.std.proofs.lemmas.List.{map-append}
use Rattle.std.proofs.lemmas.List.Elements.{filter-append}
use Rattle.std.proofs.lemmas.Bool.Decides.{nat_tests}
use Rattle.lists.specs.Distinct.{firsts}
use Rattle.lists.proofs.DistinctLaws.{firsts-push}
use Rattle.card_type.specs.declared.effect.Effect.{Effect}
use Rattle.card_type.specs.declared.effect.Effect.TheVariants as effects
use Rattle.card_type.specs.Kinds.{has_some}
use Rattle.mailbox_model.specs.declared.row.Row.{Row}
use Rattle.mailbox_model.specs.declared.row.UpdateRow.{UpdateRow}
use Rattle.mailbox_model.specs.Lists.{Bytes, last_of}
use Rattle.mailbox_model.specs.Present.{Placed, Mail}
use Rattle.mailbox_model.specs.Rows.{Act, acting_by, is_effect, mark_of, reaction_of, reactions_by, readers_by, same_sender, text_card, updates_by}
use Rattle.mailbox_model.proofs.ReactionLaws.{reactions_more}
use Rattle.chat_view.specs.declared.maker.RowMaker.{RowMaker}
use Rattle.chat_view.specs.Makers.{MakesRow}
use Rattle.chat_view.proofs.States.{last_of_more}

-- ---- readers

abbrev reader : Placed → Bytes × ℕ
reader e = (e.card.from, e.date)

any_map : {X Y : Type 0} (test : Y → Bool) (f : X → Y) (xs : List X) → list_any test (map f xs) ≡ list_any (λ x. test (f x)) xs
any_map test f [] = refl
any_map test f (x ∷ xs) = rw (any_map test f xs) refl

through : (x y z : Placed) → same_sender x y ≡ true → same_sender y z ≡ true → same_sender x z ≡ true
through x y z h k = subst (λ w. bytes_eq x.card.from w ≡ true) ((bytes_decides y.card.from z.card.from).0 k) h

readers_more : (receipts : List Placed) (e : Placed)
    → cond (list_any (λ r. bytes_eq r.0 e.card.from) (readers_by receipts)) (readers_by receipts) (readers_by receipts ++ reader e ∷ []) ≡ readers_by (receipts ++ e ∷ [])
readers_more receipts e =
    let once = firsts same_sender receipts in
    ap (λ b. cond b (map reader once) (map reader once ++ reader e ∷ [])) (any_map (λ r. bytes_eq r.0 e.card.from) reader once)
    ∙ by (list_any (λ x. same_sender x e) once) once
    ∙ ap (map reader) (sym (firsts-push same_sender through receipts e))
  where
    by : (b : Bool) (once : List Placed) → cond b (map reader once) (map reader once ++ reader e ∷ []) ≡ map reader (cond b once (once ++ e ∷ []))
    by true once = refl
    by false once = sym (map-append reader once (e ∷ []))

-- ---- one more act

-- what is shown of a mail by its last edit, its receipts, its reactions and its updates
abbrev row_with : Bytes → Mail → Option Placed → List (Bytes × ℕ) → List (Bytes × Bytes) → List UpdateRow → Row
row_with me t edit readers reactions updates =
    let card = t.placed.card in
    record {
      uid = t.placed.uid;
      id = card.id;
      date = t.placed.date;
      from = card.from;
      chat = card.chat;
      subject = card.subject;
      text = (text_card edit card).text;
      cut = (text_card edit card).cut;
      edited = is_some edit;
      mark = mark_of me t;
      attachments = card.attachments;
      readers = readers;
      reactions = reactions;
      app = card.app;
      updates = updates;
    }

some_more : {X : Type 0} (xs : List X) (x : X) → has_some (xs ++ x ∷ []) ≡ true
some_more [] x = refl
some_more (y ∷ ys) x = grind (arith, nat_tests)

module _ (acts : List Act) (p : Placed) where
  abbrev more : Effect → List Act
  more y = acts ++ record { effect = y; by = p } ∷ []

  acting_more : (x y : Effect) → acting_by x (more y) ≡ acting_by x acts ++ cond (is_effect x y) (p ∷ []) []
  acting_more x y =
      ap (map (λ (a : Act). a.by)) (filter-append (λ a. is_effect x a.effect) acts (record { effect = y; by = p } ∷ []))
      ∙ map-append (λ (a : Act). a.by) (filter (λ a. is_effect x a.effect) acts) (cond (is_effect x y) (record { effect = y; by = p } ∷ []) [])
      ∙ by (is_effect x y)
    where
      by : (b : Bool) → acting_by x acts ++ map (λ (a : Act). a.by) (cond b (record { effect = y; by = p } ∷ []) []) ≡ acting_by x acts ++ cond b (p ∷ []) []
      by true = refl
      by false = refl

  acting_other : (x y : Effect) → is_effect x y ≡ false → acting_by x (more y) ≡ acting_by x acts
  acting_other x y other = acting_more x y ∙ ap (λ b. acting_by x acts ++ cond b (p ∷ []) []) other ∙ append-nil (acting_by x acts)

  module _ (me : Bytes) (t : Mail) (maker : RowMaker) (stands : MakesRow me t acts maker) where
    pub edit_makes : (row : Row) → row ≡ record maker.row { text = p.card.text; cut = p.card.cut; edited = true }
        → MakesRow me t (more effects.Edit) (record { row = row; withdrawn = maker.withdrawn; expiry = maker.expiry })
    edit_makes row is =
        let edit : last_of (acting_by effects.Edit (more effects.Edit)) ≡ Some p = ap last_of (acting_more effects.Edit effects.Edit) ∙ last_of_more (acting_by effects.Edit acts) p in
        let receipts = acting_other effects.Read effects.Edit refl in
        let reactions = acting_other effects.Reaction effects.Edit refl in
        let updates = acting_other effects.Update effects.Edit refl in
        record {
          row = is ∙ ap {A = Row} {B = Row} (λ r. record r { text = p.card.text; cut = p.card.cut; edited = true }) stands.row
              ∙ sym (λ i. row_with me t (edit i) (readers_by (receipts i)) (reactions_by (reactions i)) (updates_by (updates i)));
          withdrawn = stands.withdrawn ∙ ap has_some (sym (acting_other effects.Delete effects.Edit refl));
          expiry = stands.expiry;
        }

    pub delete_makes : MakesRow me t (more effects.Delete) (record { row = maker.row; withdrawn = true; expiry = maker.expiry })
    delete_makes =
        let edits = acting_other effects.Edit effects.Delete refl in
        let receipts = acting_other effects.Read effects.Delete refl in
        let reactions = acting_other effects.Reaction effects.Delete refl in
        let updates = acting_other effects.Update effects.Delete refl in
        record {
          row = stands.row ∙ sym (λ i. row_with me t (last_of (edits i)) (readers_by (receipts i)) (reactions_by (reactions i)) (updates_by (updates i)));
          withdrawn = sym (ap has_some (acting_more effects.Delete effects.Delete) ∙ some_more (acting_by effects.Delete acts) p);
          expiry = stands.expiry;
        }

    pub read_makes : (readers : List (Bytes × ℕ))
        → readers ≡ cond (list_any (λ r. bytes_eq r.0 p.card.from) maker.row.readers) maker.row.readers (maker.row.readers ++ reader p ∷ [])
        → MakesRow me t (more effects.Read) (record { row = record maker.row { readers = readers }; withdrawn = maker.withdrawn; expiry = maker.expiry })
    read_makes readers is =
        let edits = acting_other effects.Edit effects.Read refl in
        let reactions = acting_other effects.Reaction effects.Read refl in
        let updates = acting_other effects.Update effects.Read refl in
        let known : maker.row.readers ≡ readers_by (acting_by effects.Read acts) = ap (λ r. r.readers) stands.row in
        let all : readers_by (acting_by effects.Read (more effects.Read)) ≡ readers = sym (
        is ∙ ap (λ rs. cond (list_any (λ r. bytes_eq r.0 p.card.from) rs) rs (rs ++ reader p ∷ [])) known
        ∙ readers_more (acting_by effects.Read acts) p ∙ ap readers_by (sym (acting_more effects.Read effects.Read))) in
        record {
          row = ap {A = Row} {B = Row} (λ r. record r { readers = readers }) stands.row
              ∙ sym (λ i. row_with me t (last_of (edits i)) (all i) (reactions_by (reactions i)) (updates_by (updates i)));
          withdrawn = stands.withdrawn ∙ ap has_some (sym (acting_other effects.Delete effects.Read refl));
          expiry = stands.expiry;
        }

    pub update_makes : (updates : List UpdateRow)
        → ((before : List Placed) → maker.row.updates ≡ updates_by before → updates ≡ updates_by (before ++ p ∷ []))
        → MakesRow me t (more effects.Update) (record { row = record maker.row { updates = updates }; withdrawn = maker.withdrawn; expiry = maker.expiry })
    update_makes updates is =
        let edits = acting_other effects.Edit effects.Update refl in
        let receipts = acting_other effects.Read effects.Update refl in
        let reactions = acting_other effects.Reaction effects.Update refl in
        let all : updates_by (acting_by effects.Update (more effects.Update)) ≡ updates = sym (
        is (acting_by effects.Update acts) (ap (λ r. r.updates) stands.row) ∙ ap updates_by (sym (acting_more effects.Update effects.Update))) in
        record {
          row = ap {A = Row} {B = Row} (λ r. record r { updates = updates }) stands.row
              ∙ sym (λ i. row_with me t (last_of (edits i)) (readers_by (receipts i)) (reactions_by (reactions i)) (all i));
          withdrawn = stands.withdrawn ∙ ap has_some (sym (acting_other effects.Delete effects.Update refl));
          expiry = stands.expiry;
        }

    pub reaction_makes : (reactions : List (Bytes × Bytes))
        → reactions ≡ filter (λ r. not (bytes_eq p.card.from r.0)) maker.row.reactions
        ++ (if has_some (reaction_of p.card) then (p.card.from, reaction_of p.card) ∷ [] else [])
        → MakesRow me t (more effects.Reaction) (record { row = record maker.row { reactions = reactions }; withdrawn = maker.withdrawn; expiry = maker.expiry })
    reaction_makes reactions is =
        let edits = acting_other effects.Edit effects.Reaction refl in
        let receipts = acting_other effects.Read effects.Reaction refl in
        let updates = acting_other effects.Update effects.Reaction refl in
        let known : maker.row.reactions ≡ reactions_by (acting_by effects.Reaction acts) = ap (λ r. r.reactions) stands.row in
        let all : reactions_by (acting_by effects.Reaction (more effects.Reaction)) ≡ reactions = sym (
        is ∙ ap (λ rs. filter (λ r. not (bytes_eq p.card.from r.0)) rs ++ (if has_some (reaction_of p.card) then (p.card.from, reaction_of p.card) ∷ [] else [])) known
        ∙ sym (reactions_more (acting_by effects.Reaction acts) p) ∙ ap reactions_by (sym (acting_more effects.Reaction effects.Reaction))) in
        record {
          row = ap {A = Row} {B = Row} (λ r. record r { reactions = reactions }) stands.row
              ∙ sym (λ i. row_with me t (last_of (edits i)) (readers_by (receipts i)) (all i) (updates_by (updates i)));
          withdrawn = stands.withdrawn ∙ ap has_some (sym (acting_other effects.Delete effects.Reaction refl));
          expiry = stands.expiry;
        }
