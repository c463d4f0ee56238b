-- Where one card comes or goes, those that keep the rule still keep it but for that card and the later ones that name it.
use Rattle.std.proofs.Common.{◌≡◌, refl, sym, ap, ◌∙◌, Bool, true, false, ◌||◌, cond, Some, List, [], ◌∷◌, ◌++◌}
use Rattle.std.specs.List.{find, AllByRecursion}
use Rattle.std.specs.Option.{option_and_then}
use Rattle.std.specs.Str.{bytes_eq}
use Rattle.std.proofs.lemmas.Bool.{both_ways, or_parts}
use Rattle.std.proofs.lemmas.List.Folds.{list_any-append}
use Rattle.card_type.specs.declared.spot.Spot.{Spot}
use Rattle.card_type.specs.Effects.{is_among}
use Rattle.mailbox_model.specs.declared.links.Cites.{Cites}
use Rattle.mailbox_model.specs.Lists.{Bytes}
use Rattle.mailbox_model.specs.Chats.{chat_from, is_id_among}
use Rattle.mailbox_model.proofs.MailLaws.{bytes_turn}
use Rattle.thread_links.specs.Work.{Chats, KeepRuleBut}

-- one that does not name x has one parent among two lists that differ by x alone
pub same_parent : (x : Bytes) (es fs : List Cites) → ((id : Bytes) → bytes_eq x id ≡ false → is_id_among es id ≡ is_id_among fs id)
    → (ids : List Bytes) → is_among ids x ≡ false → find (is_id_among es) ids ≡ find (is_id_among fs) ids
same_parent x es fs b [] n = refl
same_parent x es fs b (id ∷ ids) n =
    let parts = or_parts (bytes_eq x id) (is_among ids x) n in
    λ i. cond (b id parts.0 i) (Some id) (same_parent x es fs b ids parts.1 i)

pub with_one : (c : Cites) (es : List Cites) (id : Bytes) → bytes_eq c.spot.id id ≡ false → is_id_among es id ≡ is_id_among (es ++ c ∷ []) id
with_one c es id h =
    sym (list_any-append (λ d. bytes_eq id d.spot.id) es (c ∷ []) ∙ ap (λ b. is_id_among es id || (b || false)) (bytes_turn id c.spot.id ∙ h) ∙ or_none (is_id_among es id))
  where
    or_none : (b : Bool) → (b || (false || false)) ≡ b
    or_none true = refl
    or_none false = refl

pub and_more : (x : Bytes) (es fs us : List Cites) → ((id : Bytes) → bytes_eq x id ≡ false → is_id_among es id ≡ is_id_among fs id)
    → (id : Bytes) → bytes_eq x id ≡ false → is_id_among (es ++ us) id ≡ is_id_among (fs ++ us) id
and_more x es fs us b id h =
    list_any-append (λ e. bytes_eq id e.spot.id) es us ∙ ap (λ c. c || is_id_among us id) (b id h) ∙ sym (list_any-append (λ e. bytes_eq id e.spot.id) fs us)

module _ (f : Chats) (pending : Spot → Bool) where
  module _ (x : Bytes) where
    -- those that name x are on the list
    abbrev pub Listed : List Cites → Type 0
    Listed ts = AllByRecursion (λ t. pending t.spot ≡ false → is_among t.candidates x ≡ false) ts

    seeded : (es fs ts : List Cites) → ((id : Bytes) → bytes_eq x id ≡ false → is_id_among es id ≡ is_id_among fs id) → Listed ts → KeepRuleBut f (λ _. false) es ts → KeepRuleBut f pending fs ts
    seeded es fs [] b l k = tt
    seeded es fs (t ∷ ts) b l k = (λ n. k.0 refl ∙ ap (λ o. Some (chat_from t (option_and_then f o))) (same_parent x es fs b t.candidates (l.0 n)), seeded (es ++ t ∷ []) (fs ++ t ∷ []) ts (and_more x es fs (t ∷ []) b) l.1 k.1)

  -- a card that comes is on the list itself
  pub seed_added : (c : Cites) → pending c.spot ≡ true → (es before later : List Cites) → Listed c.spot.id later
      → KeepRuleBut f (λ _. false) es (before ++ later) → KeepRuleBut f pending es (before ++ c ∷ later)
  seed_added c p es [] later l k = (λ n. absurd (both_ways (pending c.spot) n p), seeded c.spot.id es (es ++ c ∷ []) later (λ id h. with_one c es id h) l k)
  seed_added c p es (t ∷ before) later l k = (λ n. k.0 refl, seed_added c p (es ++ t ∷ []) before later l k.1)

  -- a card that goes leaves those that name it
  pub seed_removed : (c : Cites) → (es before later : List Cites) → Listed c.spot.id later
      → KeepRuleBut f (λ _. false) es (before ++ c ∷ later) → KeepRuleBut f pending es (before ++ later)
  seed_removed c es [] later l k = seeded c.spot.id (es ++ c ∷ []) es later (λ id h. sym (with_one c es id h)) l k.1
  seed_removed c es (t ∷ before) later l k = (λ n. k.0 refl, seed_removed c (es ++ t ∷ []) before later l k.1)
