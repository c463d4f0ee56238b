-- What is noted of the cards that moved: the first chat of each.
use Rattle.std.proofs.Common.{◌≡◌, refl, sym, ap, ◌∙◌, Bool, true, false, cond, Option, Some, None, is_some, inl, inr, List, [], ◌∷◌, ◌++◌}
use Rattle.std.specs.Prelude.{find, if◌then◌else◌, unwrap_or}
use Rattle.std.specs.Map.{lookup}
use Rattle.std.specs.Option.{option_map, option_or}
use Rattle.std.specs.Str.{bytes_eq}
use Rattle.std.specs.Cmp.Lexicographic.{bytes_decides}
use Rattle.std.proofs.lemmas.Bool.{cases_Bool}
use Rattle.std.proofs.lemmas.List.Folds.{find-append}
use Rattle.lists.proofs.Inserts.{found_all, found_passes, list_any-found}
use Rattle.card_type.specs.declared.key.ChatKey.{ChatKey}
use Rattle.mailbox_model.specs.declared.links.Cites.{Cites}
use Rattle.mailbox_model.specs.declared.links.Moved.{Moved}
use Rattle.mailbox_model.specs.Chats.{chat_among}
use Rattle.mailbox_model.specs.Lists.{Bytes}
use Rattle.mailbox_model.proofs.ChatLaws.{or_none}
use Rattle.mailbox_model.proofs.MailLaws.{bytes_turn}
use Rattle.indexes.specs.Moves.{IsTold}
use Rattle.repair.specs.Moves.{LeadBack}

abbrev pub Entries : Type 0
Entries = List (Bytes × Option ChatKey)

-- ---- one card

-- what is noted of an id once the chat before of another one is noted
abbrev pub noted_with : Bytes → Option ChatKey → Bytes → Option (Option ChatKey) → Option (Option ChatKey)
noted_with id before other noted = option_or noted (if bytes_eq other id then Some before else None)

module _ (id : Bytes) (before : Option ChatKey) (es : Entries) where
  pub noted_already : is_some (lookup (bytes_eq id) es) ≡ true → (other : Bytes)
      → lookup (bytes_eq other) es ≡ noted_with id before other (lookup (bytes_eq other) es)
  noted_already there other =
      elim (cases_Bool (bytes_eq other id)) [
        | inl e ↦ kept (lookup (bytes_eq other) es) (if bytes_eq other id then Some before else None) (ap (λ q. is_some (lookup (bytes_eq q) es)) ((bytes_decides other id).0 e) ∙ there)
        | inr n ↦ sym (ap (λ b. option_or (lookup (bytes_eq other) es) (if b then Some before else None)) n ∙ or_none (lookup (bytes_eq other) es))
      ]
    where
      kept : (o more : Option (Option ChatKey)) → is_some o ≡ true → o ≡ option_or o more
      kept None more h = cc
      kept (Some x) more h = refl

  pub noted_new : (fs : Entries) → lookup (bytes_eq id) es ≡ None → lookup (bytes_eq id) fs ≡ Some before
      → ((other : Bytes) → bytes_eq id other ≡ false → lookup (bytes_eq other) fs ≡ lookup (bytes_eq other) es) → (other : Bytes)
      → lookup (bytes_eq other) fs ≡ noted_with id before other (lookup (bytes_eq other) es)
  noted_new fs none here elsewhere other =
      elim (cases_Bool (bytes_eq other id)) [
        | inl e ↦
            let same : other ≡ id = (bytes_decides other id).0 e in
            ap (λ q. lookup (bytes_eq q) fs) same ∙ here
            ∙ sym (ap (λ b. option_or (lookup (bytes_eq other) es) (if b then Some before else None)) e ∙ ap (λ q. option_or (lookup (bytes_eq q) es) (Some before)) same ∙ ap (λ o. option_or o (Some before)) none)
        | inr n ↦
            elsewhere other (bytes_turn id other ∙ n)
            ∙ sym (ap (λ b. option_or (lookup (bytes_eq other) es) (if b then Some before else None)) n ∙ or_none (lookup (bytes_eq other) es))
      ]

pub not_noted : (o : Option (Option ChatKey)) → is_some o ≡ false → o ≡ None
not_noted None h = refl
not_noted (Some x) h = cc

-- ---- cards one after the other

-- the chat before that the first of these moves tells of an id
abbrev pub told_before : List Moved → Bytes → Option (Option ChatKey)
told_before moved id = option_map (λ move. move.before) (find (λ move. bytes_eq id move.id) moved)

pub told_more : (moved : List Moved) (move : Moved) (id : Bytes) (noted : Option (Option ChatKey))
    → noted_with move.id move.before id (option_or noted (told_before moved id)) ≡ option_or noted (told_before (moved ++ move ∷ []) id)
told_more moved move id noted =
    sym (ap (λ o. option_or noted (option_map (λ m. m.before) o)) (find-append (λ m. bytes_eq id m.id) moved (move ∷ [])) ∙ by noted (find (λ m. bytes_eq id m.id) moved) (bytes_eq id move.id))
  where
    by : (noted : Option (Option ChatKey)) (found : Option Moved) (b : Bool)
        → option_or noted (option_map (λ m. m.before) (option_or found (cond b (Some move) None)))
        ≡ option_or (option_or noted (option_map (λ m. m.before) found)) (if b then Some move.before else None)
    by (Some x) found b = refl
    by None (Some m) b = refl
    by None None true = refl
    by None None false = refl

-- they lead back from the chats after as those before did from the chats before
pub leads_back : (es fs : Entries) (moved : List Moved) (first before after : List Cites) → IsTold moved before after
    → ((id : Bytes) → lookup (bytes_eq id) fs ≡ option_or (lookup (bytes_eq id) es) (told_before moved id))
    → LeadBack es before first → LeadBack fs after first
leads_back es fs moved first before after told noted back id =
    ap (λ o. unwrap_or o (chat_among after id)) (noted id)
    ∙ by (lookup (bytes_eq id) es) (find (λ move. bytes_eq id move.id) moved) refl
    ∙ back id
  where
    by : (o : Option (Option ChatKey)) (found : Option Moved) → find (λ move. bytes_eq id move.id) moved ≡ found
        → unwrap_or (option_or o (option_map (λ m. m.before) found)) (chat_among after id) ≡ unwrap_or o (chat_among before id)
    by (Some x) found e = refl
    by None (Some m) e =
        found_all (λ move. move.before ≡ chat_among before move.id) (λ move. bytes_eq id move.id) moved m told.each e
        ∙ ap (chat_among before) (sym ((bytes_decides id m.id).0 (found_passes (λ move. bytes_eq id move.id) moved m e)))
    by None None e = sym (told.others id (list_any-found (λ move. bytes_eq id move.id) moved ∙ ap is_some e))
