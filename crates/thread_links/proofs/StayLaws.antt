-- What a card that comes or goes leaves as it is.
use Rattle.std.proofs.Common.{◌≡◌, refl, sym, ap, ◌∙◌, subst, true, false, ◌||◌, Option, Some, None, is_some, List, [], ◌∷◌, ◌++◌, append_assoc}
use Rattle.std.specs.Option.{option_and_then}
use Rattle.std.specs.Str.{bytes_eq}
use Rattle.std.proofs.lemmas.Bool.{or_parts, or_from, false≢true}
use Rattle.std.proofs.lemmas.List.Folds.{list_any-append}
use Rattle.card_type.specs.declared.key.ChatKey.{ChatKey}
use Rattle.card_type.specs.Effects.{is_among}
use Rattle.mailbox_model.specs.declared.links.Cites.{Cites}
use Rattle.mailbox_model.specs.Lists.{Bytes}
use Rattle.mailbox_model.specs.Chats.{known_chat, chats_of, chat_from, is_id_among, DistinctIds, parent_among, chat_among}
use Rattle.mailbox_model.proofs.ChatLaws.{known_chat_known, known_after-append, is_some-known_chat, chat_by_parent}
use Rattle.mailbox_model.proofs.MailLaws.{bytes_turn}
use Rattle.thread_links.specs.Linked.{chat_of_parent}
use Rattle.thread_links.proofs.SeedLaws.{same_parent}
use Rattle.thread_links.proofs.WorkLaws.{same_found, find_in}

-- ---- the earlier ones

same_from : (before rest more : List Cites) (id : Bytes) (o : Option ChatKey) → known_chat (chats_of before) id ≡ o → is_some o ≡ true
    → chat_among (before ++ rest) id ≡ chat_among (before ++ more) id
same_from before rest more id None e s = absurd (false≢true s)
same_from before rest more id (Some key) e s = is rest ∙ sym (is more)
  where
    is : (ts : List Cites) → chat_among (before ++ ts) id ≡ Some key
    is ts = ap (λ known. known_chat known id) (known_after-append [] before ts) ∙ known_chat_known (chats_of before) ts id key e

pub earlier_stay : (before later : List Cites) (x t : Cites) → is_id_among before t.spot.id ≡ true
    → chat_among (before ++ x ∷ later) t.spot.id ≡ chat_among (before ++ later) t.spot.id
earlier_stay before later x t h =
    same_from before (x ∷ later) later t.spot.id (known_chat (chats_of before) t.spot.id) refl (is_some-known_chat [] before t.spot.id ∙ h)

-- ---- the later ones that don't name it

beside : (before between : List Cites) (x : Cites) (id : Bytes) → bytes_eq x.spot.id id ≡ false
    → is_id_among (before ++ x ∷ between) id ≡ is_id_among (before ++ between) id
beside before between x id h =
    list_any-append (λ e. bytes_eq id e.spot.id) before (x ∷ between)
    ∙ ap (λ b. is_id_among before id || (b || is_id_among between id)) (bytes_turn id x.spot.id ∙ h)
    ∙ sym (list_any-append (λ e. bytes_eq id e.spot.id) before between)

pub parent_stays : (before between : List Cites) (x t : Cites) → is_among t.candidates x.spot.id ≡ false
    → parent_among (before ++ x ∷ between) t ≡ parent_among (before ++ between) t
parent_stays before between x t n = same_parent x.spot.id (before ++ x ∷ between) (before ++ between) (beside before between x) t.candidates n

-- without one of them no id is there twice either
pub distinct_without : (before later : List Cites) (x : Cites) → DistinctIds (before ++ x ∷ later) → DistinctIds (before ++ later)
distinct_without [] later x d = d.1
distinct_without (b ∷ before) later x d = (fewer before d.0, distinct_without before later x d.1)
  where
    fewer : (us : List Cites) → is_id_among (us ++ x ∷ later) b.spot.id ≡ false → is_id_among (us ++ later) b.spot.id ≡ false
    fewer [] n = (or_parts (bytes_eq b.spot.id x.spot.id) (is_id_among later b.spot.id) n).1
    fewer (u ∷ us) n = let parts = or_parts (bytes_eq b.spot.id u.spot.id) (is_id_among (us ++ x ∷ later) b.spot.id) n in or_from (bytes_eq b.spot.id u.spot.id) (is_id_among (us ++ later) b.spot.id) parts.0 (fewer us parts.1)

by_rule : (all earlier : List Cites) (t : Cites) (later : List Cites) → all ≡ earlier ++ t ∷ later → DistinctIds all
    → chat_among all t.spot.id ≡ Some (chat_from t (chat_of_parent earlier t later))
by_rule all earlier t later e d = ap (λ us. chat_among us t.spot.id) e ∙ chat_by_parent earlier t later (subst DistinctIds e d)

pub parent_in_chat : (before between later : List Cites) (x t : Cites) → is_among t.candidates x.spot.id ≡ false
    → ((id : Bytes) → is_among t.candidates id ≡ true → chat_among (before ++ x ∷ between ++ t ∷ later) id ≡ chat_among (before ++ between ++ t ∷ later) id)
    → chat_of_parent (before ++ x ∷ between) t later ≡ chat_of_parent (before ++ between) t later
parent_in_chat before between later x t n same =
    ap (option_and_then (chat_among (before ++ x ∷ between ++ t ∷ later))) (parent_stays before between x t n)
    ∙ same_found (chat_among (before ++ x ∷ between ++ t ∷ later)) (chat_among (before ++ between ++ t ∷ later)) (parent_among (before ++ between) t)
    (λ p h. sym (same p (find_in (is_id_among (before ++ between)) t.candidates p h)))

pub chat_stays : (before between later : List Cites) (x t : Cites) → is_among t.candidates x.spot.id ≡ false
    → DistinctIds (before ++ x ∷ between ++ t ∷ later)
    → chat_of_parent (before ++ x ∷ between) t later ≡ chat_of_parent (before ++ between) t later
    → chat_among (before ++ x ∷ between ++ t ∷ later) t.spot.id ≡ chat_among (before ++ between ++ t ∷ later) t.spot.id
chat_stays before between later x t n d same =
    let without = before ++ between ++ t ∷ later in
    let whole : DistinctIds (before ++ x ∷ (between ++ t ∷ later)) = subst DistinctIds (append_assoc before (x ∷ between) (t ∷ later)) d in
    let fewer : DistinctIds without = subst DistinctIds (sym (append_assoc before between (t ∷ later))) (distinct_without before (between ++ t ∷ later) x whole) in
    by_rule (before ++ x ∷ between ++ t ∷ later) (before ++ x ∷ between) t later refl d
    ∙ ap (λ o. Some (chat_from t o)) same
    ∙ sym (by_rule without (before ++ between) t later refl fewer)
