-- The chats that the fold gives keep the rule, and no others do.
use Rattle.std.proofs.Common.{◌≡◌, refl, sym, ap, ◌∙◌, subst, Bool, true, false, ◌||◌, cond, Option, Some, None, is_some, List, [], ◌∷◌, ◌++◌, map, append_assoc}
use Rattle.std.specs.List.{list_any, find}
use Rattle.std.specs.Prelude.{if◌then◌else◌, IsTrue}
use Rattle.std.specs.Option.{option_and_then, option_or, option_map}
use Rattle.std.specs.Str.{bytes_eq}
use Rattle.std.specs.Cmp.Lexicographic.{bytes_decides}
use Rattle.std.proofs.lemmas.Bool.{false≢true, or_parts, or_from}
use Rattle.card_type.specs.declared.key.ChatKey.{ChatKey}
use Rattle.mailbox_model.specs.declared.links.Cites.{Cites}
use Rattle.mailbox_model.specs.Lists.{Bytes, first_some}
use Rattle.mailbox_model.specs.Chats.{Known, known_chat, next_chat, known_after, chats_of, chat_from, is_id_among, DistinctIds, parent_among, KeepRule}
use Rattle.kit.specs.Options.{◌>>=◌}
use Rattle.card_type.specs.Kinds.{kind_of, is_content}
use Rattle.std.specs.List.{AllByRecursion, IsDistinct}
use Rattle.std.proofs.lemmas.List.{append-nil, map-append}
use Rattle.mailbox_model.specs.Mailbox.{Mailbox}
use Rattle.mailbox_model.specs.Present.{Mail, spot, mails, same_id, present, contents}
use Rattle.mailbox_model.specs.Chats.{cites_by, cites, chat, chat_among}
use Rattle.lists.proofs.DistinctLaws.{IsDistinct-filter, IsDistinct-firsts}
use Rattle.mailbox_model.proofs.MailLaws.{bytes_turn}
use Rattle.lists.proofs.Inserts.{found_passes}

pub same_bytes : (xs : Bytes) → bytes_eq xs xs ≡ true
same_bytes xs = (bytes_decides xs xs).1 refl

-- ---- a look-up

pub known_chat-append : (known more : Known) (id : Bytes)
    → known_chat (known ++ more) id ≡ option_or (known_chat known id) (known_chat more id)
known_chat-append [] more id = refl
known_chat-append (k ∷ known) more id =
    elim (bytes_eq id k.0) as (λ b. option_map (λ e. e.1) (cond b (Some k) (find (λ e. bytes_eq id e.0) (known ++ more))) ≡ option_or (option_map (λ e. e.1) (cond b (Some k) (find (λ e. bytes_eq id e.0) known))) (known_chat more id)) [
      | true ↦ refl
      | false ↦ known_chat-append known more id
    ]

pub or_none : {X : Type 0} (o : Option X) → option_or o None ≡ o
or_none None = refl
or_none (Some x) = refl

not_there : (k : Bytes × ChatKey) (id : Bytes) → bytes_eq id k.0 ≡ false → known_chat (k ∷ []) id ≡ None
not_there k id h = rw (h, find) refl

there : (k : Bytes × ChatKey) → known_chat (k ∷ []) k.0 ≡ Some k.1
there k = rw (same_bytes k.0, find) refl

-- what is known of an id stays, where none that follows has it
pub known_chat_kept : (known : Known) (ts : List Cites) (id : Bytes) → is_id_among ts id ≡ false
    → known_chat (known_after known ts) id ≡ known_chat known id
known_chat_kept known [] id h = refl
known_chat_kept known (t ∷ ts) id h =
    let parts = or_parts (bytes_eq id t.spot.id) (is_id_among ts id) h in
    let one = (t.spot.id, next_chat known t) ∷ [] in
    known_chat_kept (known ++ one) ts id parts.1 ∙ known_chat-append known one id ∙ ap (option_or (known_chat known id)) (rw (parts.0, find) refl) ∙ or_none (known_chat known id)

-- what is known of an id stays in any case
pub known_chat_known : (known : Known) (ts : List Cites) (id : Bytes) (key : ChatKey) → known_chat known id ≡ Some key
    → known_chat (known_after known ts) id ≡ Some key
known_chat_known known [] id key h = h
known_chat_known known (t ∷ ts) id key h =
    let one = (t.spot.id, next_chat known t) ∷ [] in
    known_chat_known (known ++ one) ts id key (known_chat-append known one id ∙ ap (λ o. option_or o (known_chat one id)) h)

pub known_after-append : (known : Known) (xs ys : List Cites)
    → known_after known (xs ++ ys) ≡ known_after (known_after known xs) ys
known_after-append known [] ys = refl
known_after-append known (x ∷ xs) ys = known_after-append (known ++ (x.spot.id, next_chat known x) ∷ []) xs ys

-- ---- chats that keep the equation of the rule

abbrev pub table : (Bytes → ChatKey) → List Cites → Known
table f ts = map (λ t. (t.spot.id, f t.spot.id)) ts

table-append : (f : Bytes → ChatKey) (xs ys : List Cites) → table f (xs ++ ys) ≡ table f xs ++ table f ys
table-append f [] ys = refl
table-append f (x ∷ xs) ys = ap (λ k. (x.spot.id, f x.spot.id) ∷ k) (table-append f xs ys)

pub known_chat-table : (f : Bytes → ChatKey) (ts : List Cites) (id : Bytes)
    → known_chat (table f ts) id ≡ (if is_id_among ts id then Some (f id) else None)
known_chat-table f [] id = refl
known_chat-table f (t ∷ ts) id =
    elim (bytes_eq id t.spot.id) as (λ b. bytes_eq id t.spot.id ≡ b → option_map (λ k. k.1) (cond b (Some (t.spot.id, f t.spot.id)) (find (λ k. bytes_eq id k.0) (table f ts))) ≡ (if b || is_id_among ts id then Some (f id) else None)) [
      | true ↦ λ e. ap (λ i. Some (f i)) (sym ((bytes_decides id t.spot.id).0 e))
      | false ↦ λ e. known_chat-table f ts id
    ] refl

first_some-table : (f : Bytes → ChatKey) (earlier : List Cites) (ids : List Bytes)
    → first_some (known_chat (table f earlier)) ids ≡ option_map f (find (is_id_among earlier) ids)
first_some-table f earlier [] = refl
first_some-table f earlier (id ∷ ids) =
    ap (λ o. option_or o (first_some (known_chat (table f earlier)) ids)) (known_chat-table f earlier id)
    ∙ elim (is_id_among earlier id) as (λ b. option_or (if b then Some (f id) else None) (first_some (known_chat (table f earlier)) ids) ≡ option_map f (cond b (Some id) (find (is_id_among earlier) ids))) [
      | true ↦ refl
      | false ↦ first_some-table f earlier ids
    ]

unique : (f : Bytes → ChatKey) (earlier ts : List Cites) → KeepRule f earlier ts
    → known_after (table f earlier) ts ≡ table f (earlier ++ ts)
unique f earlier [] s = rw append-nil refl
unique f earlier (t ∷ ts) s =
    let same : next_chat (table f earlier) t ≡ f t.spot.id = ap (chat_from t) (first_some-table f earlier t.candidates) ∙ sym s.0 in
    ap (λ c. known_after (table f earlier ++ (t.spot.id, c) ∷ []) ts) same
    ∙ ap (λ k. known_after k ts) (sym (table-append f earlier (t ∷ [])))
    ∙ unique f (earlier ++ t ∷ []) ts s.1
    ∙ ap (table f) (append_assoc earlier (t ∷ []) ts)

-- There is one solution: chats that keep the equation are the chats
pub chats_unique : (f : Bytes → ChatKey) (ts : List Cites) → KeepRule f [] ts → chats_of ts ≡ table f ts
chats_unique f ts s = unique f [] ts s

-- ---- the equation of the rule

-- an id is known just where it was or where one has it
pub is_some-known_chat : (known : Known) (ts : List Cites) (id : Bytes)
    → is_some (known_chat (known_after known ts) id) ≡ (is_some (known_chat known id) || is_id_among ts id)
is_some-known_chat known [] id = or_false (is_some (known_chat known id))
  where
    or_false : (b : Bool) → b ≡ (b || false)
    or_false true = refl
    or_false false = refl
is_some-known_chat known (t ∷ ts) id =
    let one = (t.spot.id, next_chat known t) ∷ [] in
    is_some-known_chat (known ++ one) ts id ∙ ap (λ o. is_some o || is_id_among ts id) (known_chat-append known one id)
    ∙ joined (known_chat known id) (bytes_eq id t.spot.id) (t.spot.id, next_chat known t) (is_id_among ts id)
  where
    joined : (o : Option ChatKey) (b : Bool) (k : Bytes × ChatKey) (rest : Bool)
        → (is_some (option_or o (option_map (λ e. e.1) (cond b (Some k) None))) || rest) ≡ (is_some o || (b || rest))
    joined None true k rest = refl
    joined None false k rest = refl
    joined (Some x) b k rest = refl

first_some-find : {X Y : Type 0} (f : X → Option Y) (xs : List X)
    → first_some f xs ≡ option_and_then f (find (λ x. is_some (f x)) xs)
first_some-find f [] = refl
first_some-find f (x ∷ xs) =
    elim (f x) as (λ o. f x ≡ o → option_or o (first_some f xs) ≡ option_and_then f (cond (is_some o) (Some x) (find (λ x. is_some (f x)) xs))) [
      | Some y ↦ λ e. sym e
      | None ↦ λ e. first_some-find f xs
    ] refl

find_agree : {X : Type 0} (p q : X → Bool) → ((x : X) → p x ≡ q x) → (xs : List X) → find p xs ≡ find q xs
find_agree p q h [] = refl
find_agree p q h (x ∷ xs) = λ i. cond (h x i) (Some x) (find_agree p q h xs i)

any_right : (p : Cites → Bool) (xs ys : List Cites) → list_any p (xs ++ ys) ≡ false → list_any p ys ≡ false
any_right p [] ys h = h
any_right p (x ∷ xs) ys h = any_right p xs ys (or_parts (p x) (list_any p (xs ++ ys)) h).1

DistinctIds-right : (xs ys : List Cites) → DistinctIds (xs ++ ys) → DistinctIds ys
DistinctIds-right [] ys d = d
DistinctIds-right (x ∷ xs) ys d = DistinctIds-right xs ys d.1

-- what is found at the first known candidate is found there in the end
parent_kept : (known : Known) (ts : List Cites) (id : Option Bytes)
    → ((p : Bytes) → id ≡ Some p → IsTrue (is_some (known_chat known p)))
    → option_and_then (known_chat known) id ≡ option_and_then (known_chat (known_after known ts)) id
parent_kept known ts None h = refl
parent_kept known ts (Some p) h = by (known_chat known p) refl (h p refl)
  where
    by : (o : Option ChatKey) → known_chat known p ≡ o → IsTrue (is_some o) → known_chat known p ≡ known_chat (known_after known ts) p
    by (Some key) e t = e ∙ sym (known_chat_known known ts p key e)
    by None e t = absurd (false≢true t)

-- The chat of each is that of its own or of its parent's chat, all in one family
pub chat_by_parent : (earlier : List Cites) (t : Cites) (later : List Cites) → DistinctIds (earlier ++ t ∷ later) →
    known_chat (chats_of (earlier ++ t ∷ later)) t.spot.id ≡ Some (chat_from t (option_and_then (known_chat (chats_of (earlier ++ t ∷ later))) (parent_among earlier t)))
chat_by_parent earlier t later d =
    let known = chats_of earlier in
    let all_is : chats_of (earlier ++ t ∷ later) ≡ known_after known (t ∷ later) = known_after-append [] earlier (t ∷ later) in
    let one = (t.spot.id, next_chat known t) ∷ [] in
    let fresh : is_id_among earlier t.spot.id ≡ false = before earlier d in
    let unknown : known_chat known t.spot.id ≡ None = none_of (known_chat known t.spot.id) (is_some-known_chat [] earlier t.spot.id ∙ fresh) in
    let here : known_chat (known_after known (t ∷ later)) t.spot.id ≡ Some (next_chat known t) =
    known_chat_known (known ++ one) later t.spot.id (next_chat known t) (known_chat-append known one t.spot.id ∙ ap (λ o. option_or o (known_chat one t.spot.id)) unknown ∙ there (t.spot.id, next_chat known t)) in
    let parent : first_some (known_chat known) t.candidates ≡ option_and_then (known_chat known) (parent_among earlier t) =
    first_some-find (known_chat known) t.candidates ∙ ap (option_and_then (known_chat known)) (find_agree (λ id. is_some (known_chat known id)) (is_id_among earlier) (λ id. is_some-known_chat [] earlier id) t.candidates) in
    ap (λ k. known_chat k t.spot.id) all_is ∙ here
    ∙ ap (λ o. Some (chat_from t o)) (parent
    ∙ parent_kept known (t ∷ later) (parent_among earlier t) (λ p h. is_so (is_some-known_chat [] earlier p ∙ found_passes (is_id_among earlier) t.candidates p h))
    ∙ ap (λ k. option_and_then (known_chat k) (parent_among earlier t)) (sym all_is))
  where
    is_so : {b : Bool} → b ≡ true → IsTrue b
    is_so e = e

    none_of : (o : Option ChatKey) → is_some o ≡ false → o ≡ None
    none_of None e = refl
    none_of (Some x) e = absurd (false≢true (sym e))

    before : (xs : List Cites) → DistinctIds (xs ++ t ∷ later) → is_id_among xs t.spot.id ≡ false
    before [] d = refl
    before (x ∷ xs) d = or_from (bytes_eq t.spot.id x.spot.id) (is_id_among xs t.spot.id) (bytes_turn t.spot.id x.spot.id ∙ (or_parts (bytes_eq x.spot.id t.spot.id) (is_id_among later x.spot.id) (any_right (λ e. bytes_eq x.spot.id e.spot.id) xs (t ∷ later) d.0)).0) (before xs d.1)

-- ---- the chats of a mailbox

abbrev pub cites_at : Bytes → Mail → Cites
cites_at me t = cites_by me (spot t.placed) t.placed.card

same_cites : (me id : Bytes) (ts : List Mail) → AllByRecursion (λ t. bytes_eq id t.placed.card.id ≡ false) ts
    → is_id_among (map (cites_at me) ts) id ≡ false
same_cites me id [] a = refl
same_cites me id (t ∷ ts) a = rw a.0 (same_cites me id ts a.1)

distinct_cites : (me : Bytes) (ts : List Mail) → IsDistinct same_id ts → DistinctIds (map (cites_at me) ts)
unfolding IsDistinct
distinct_cites me [] d = tt
distinct_cites me (t ∷ ts) d = (same_cites me t.placed.card.id ts d.0, distinct_cites me ts d.1)

pub cites_once : (m : Mailbox) → DistinctIds (cites m)
cites_once m =
    distinct_cites m.me (contents m) (IsDistinct-filter same_id (λ t. is_content (kind_of t.placed.card)) (present m) (IsDistinct-firsts same_id (mails m)))

pub chats_keep : (m : Mailbox) (earlier : List Cites) (t : Cites) (later : List Cites) → cites m ≡ earlier ++ t ∷ later
    → chat m t.spot.id ≡ Some (chat_from t (parent_among earlier t >>= chat m))
chats_keep m earlier t later e =
    subst (λ ts. known_chat (chats_of ts) t.spot.id ≡ Some (chat_from t (option_and_then (known_chat (chats_of ts)) (parent_among earlier t)))) (sym e)
    (chat_by_parent earlier t later (subst DistinctIds e (cites_once m)))

pub chats_only : (ts : List Cites) (chat_of : Bytes → ChatKey) → KeepRule chat_of [] ts → (id : Bytes)
    → chat_among ts id ≡ (if is_id_among ts id then Some (chat_of id) else None)
chats_only ts chat_of keeps id = ap (λ known. known_chat known id) (chats_unique chat_of ts keeps) ∙ known_chat-table chat_of ts id

pub chats_alone : (m : Mailbox) (chat_of : Bytes → ChatKey) → KeepRule chat_of [] (cites m) → (id : Bytes)
    → chat m id ≡ (if is_id_among (cites m) id then Some (chat_of id) else None)
chats_alone m chat_of keeps id = chats_only (cites m) chat_of keeps id

-- ---- which chats there are

pub ids-known_after : (known : Known) (ts : List Cites)
    → map (λ k. k.0) (known_after known ts) ≡ map (λ k. k.0) known ++ map (λ t. t.spot.id) ts
ids-known_after known [] = sym (append-nil (map (λ k. k.0) known))
ids-known_after known (t ∷ ts) =
    let one = (t.spot.id, next_chat known t) ∷ [] in
    ids-known_after (known ++ one) ts
    ∙ ap (λ ids. ids ++ map (λ t. t.spot.id) ts) (map-append (λ k. k.0) known one)
    ∙ append_assoc (map (λ k. k.0) known) (t.spot.id ∷ []) (map (λ t. t.spot.id) ts)
