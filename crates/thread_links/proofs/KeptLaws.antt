-- Cites by id, read and changed.
use Rattle.std.proofs.Common.{◌≡◌, ◌<◌, ◌+◌, refl, sym, ap, ◌∙◌, ℕ, Bool, true, false, cond, Option, Some, List, [], ◌∷◌, length, drop, get_or}
use Rattle.std.specs.Prelude.{find}
use Rattle.std.specs.Option.{option_map_or, option_and_then}
use Rattle.std.specs.Ordering.{nat_cmp, is_lt}
use Rattle.std.specs.Cmp.Lexicographic.{slice_cmp, bytes_decides}
use Rattle.std.specs.Map.{lookup, set_value}
use Rattle.std.specs.BTreeMap.{is_at}
use Rattle.std.specs.Str.{bytes_eq}
use Rattle.std.proofs.lemmas.List.{drop_more}
use Rattle.std.proofs.lemmas.Map.Text.{is_eq-slice_cmp}
use Rattle.card_type.specs.declared.key.ChatKey.{ChatKey}
use Rattle.card_type.specs.Spots.{spot_cmp}
use Rattle.mailbox_model.specs.declared.links.Cites.{Cites}
use Rattle.mailbox_model.specs.Lists.{Bytes}
use Rattle.thread_links.specs.declared.kept.Kept.{Kept}
use Rattle.thread_links.specs.Kept.{Entries, kept_at, chat_in, without_chats, is_earlier, parent_in}

-- the order of ids tells alike those that are equal
pub looked : {V : Type 0} (es : List (Bytes × V)) (id : Bytes) → lookup (is_at (slice_cmp nat_cmp id)) es ≡ lookup (bytes_eq id) es
looked [] id = refl
looked (e ∷ es) id = λ i. cond (is_eq-slice_cmp id e.0 i) (Some e.1) (looked es id i)

-- entries that differ at one id
pub changed : (es fs : Entries) (id : Bytes) (kept : Option Kept)
    → ((q : Bytes) → lookup (is_at (slice_cmp nat_cmp q)) fs ≡ cond (is_at (slice_cmp nat_cmp id) q) kept (lookup (is_at (slice_cmp nat_cmp q)) es))
    → (q : Bytes) → kept_at fs q ≡ cond (bytes_eq id q) kept (kept_at es q)
changed es fs id kept updates q = sym (looked fs q) ∙ updates q ∙ (λ i. cond (is_eq-slice_cmp id q i) kept (looked es q i))

-- ---- the parent

module _ (es : Entries) (t : Cites) (ids : List Bytes) (i : ℕ) (id : Bytes) (in_range : i < length ids) (is : id ≡ get_or ids i id)
    (so_far : find (is_earlier es t) (drop i ids) ≡ parent_in es t) where
  next : cond (is_earlier es t id) (Some id) (find (is_earlier es t) (drop (i + 1) ids)) ≡ parent_in es t
  next = ap (λ c. find (is_earlier es t) (c ∷ drop (i + 1) ids)) is ∙ ap (find (is_earlier es t)) (sym (drop_more ids i id in_range)) ∙ so_far

  pub is_parent : (k : Kept) → kept_at es id ≡ Some k → is_lt (spot_cmp k.cites.spot t.spot) ≡ true
      → Some k ≡ option_and_then (kept_at es) (parent_in es t)
  is_parent k e h =
      let earlier : is_earlier es t id ≡ true = ap (λ o. option_map_or (λ c. is_lt (spot_cmp c.cites.spot t.spot)) o false) e ∙ h in
      sym e ∙ ap (option_and_then (kept_at es)) (sym (ap (λ b. cond b (Some id) (find (is_earlier es t) (drop (i + 1) ids))) earlier) ∙ next)

  pub is_no_parent : (o : Option Kept) → kept_at es id ≡ o → option_map_or (λ c. is_lt (spot_cmp c.cites.spot t.spot)) o false ≡ false
      → find (is_earlier es t) (drop (i + 1) ids) ≡ parent_in es t
  is_no_parent o e h =
      let not_earlier : is_earlier es t id ≡ false = ap (λ p. option_map_or (λ c. is_lt (spot_cmp c.cites.spot t.spot)) p false) e ∙ h in
      sym (ap (λ b. cond b (Some id) (find (is_earlier es t) (drop (i + 1) ids))) not_earlier) ∙ next

-- ---- another chat

pub same_cites : (test : Bytes → Bool) (es : Entries) (v w : Kept) → lookup test es ≡ Some v → w.cites ≡ v.cites
    → without_chats (set_value test es w) ≡ without_chats es
same_cites test [] v w e c = refl
same_cites test (x ∷ es) v w e c =
    elim (test x.0) as (λ b. cond b (Some x.1) (lookup test es) ≡ Some v → without_chats (cond b ((x.0, w) ∷ es) (x ∷ set_value test es w)) ≡ without_chats (x ∷ es)) [
      | true ↦ λ k. let same : v ≡ x.1 = cc in ap (λ t. (x.0, t) ∷ without_chats es) (c ∙ ap (λ u. u.cites) same)
      | false ↦ λ k. ap (λ us. (x.0, x.1.cites) ∷ us) (same_cites test es v w k c)
    ] e

pub chat_here : (es fs : Entries) (id : Bytes) (w : Kept) (chat : ChatKey) → w.chat ≡ Some chat
    → ((q : Bytes) → kept_at fs q ≡ cond (bytes_eq id q) (Some w) (kept_at es q)) → chat_in fs id ≡ Some chat
chat_here es fs id w chat e u =
    ap (option_and_then (λ k. k.chat)) (u id ∙ ap (λ b. cond b (Some w) (kept_at es id)) ((bytes_decides id id).1 refl)) ∙ e

pub chat_elsewhere : (es fs : Entries) (id : Bytes) (w : Option Kept)
    → ((q : Bytes) → kept_at fs q ≡ cond (bytes_eq id q) w (kept_at es q))
    → (q : Bytes) → bytes_eq id q ≡ false → chat_in fs q ≡ chat_in es q
chat_elsewhere es fs id w u q n = ap (option_and_then (λ k. k.chat)) (u q ∙ ap (λ b. cond b w (kept_at es q)) n)
