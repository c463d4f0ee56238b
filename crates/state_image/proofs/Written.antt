-- What is written of a mailbox is its image.
use Rattle.std.proofs.Common.{◌≡◌, true, ℕ, ◌+◌, ◌<◌, List, [], ◌∷◌, ◌++◌, length, take, get_or, map, Option, Some, Result, Ok, Err, refl, sym, ap, ◌∙◌, append_assoc, add-one, arith}
use Rattle.std.specs.Prelude.{flat_map, sum_by}
use Rattle.std.specs.List.{AllByRecursion}
use Rattle.std.specs.Result.{result_ok}
use Rattle.std.proofs.Math.Seq.{take-suc}
use Rattle.std.proofs.lemmas.Grind.{flat_map-append}
use Rattle.std.proofs.lemmas.List.{append-nil}
use Rattle.std.proofs.lemmas.List.Concat.{flat_map-cons}
use Rattle.std.proofs.lemmas.List.Sums.{sum_by_more}
use Rattle.kit.specs.Options.{◌>>=◌}
use Rattle.card_type.specs.declared.card.Card.{Card}
use Rattle.card_type.specs.Records as records
use Rattle.mailbox_model.specs.declared.change.Fault.{Fault}
use Rattle.mailbox_model.specs.declared.item.Item.{Item}
use Rattle.mailbox_model.specs.Mailbox.{Mailbox, Entry, held, item_of, card_at, entry_at, IsMailbox}
use Rattle.mailbox_model.proofs.UidLaws.{each_found}
use Rattle.state_image.specs.declared.position.Position.{Position}
use Rattle.state_image.specs.Images.{name_of, position_spelled, mail_spelled, entry_spelled, held_spelled, item_spelled, names_spelled, counts_spelled, image, cards_of}

mail_is : (r : Result Card Fault) → held_spelled (held r) (result_ok r) ≡ mail_spelled r
mail_is (Ok card) = refl
mail_is (Err fault) = refl

item_is : (m : Mailbox) (e : Entry) → entry_at m e.uid ≡ Some e → item_spelled m (item_of e) ≡ entry_spelled e
item_is m e found =
    let card : card_at m e.uid ≡ result_ok e.read = ap (λ (o : Option Entry). o >>= λ x. result_ok x.read) found in
    ap (λ (t : List ℕ). records.b32 e.uid ++ records.b64 e.arrival ++ records.opt records.b64 e.seen ++ t)
    (ap (held_spelled (held e.read)) card ∙ mail_is e.read)

items_are : (m : Mailbox) (es : List Entry) → AllByRecursion (λ e. entry_at m e.uid ≡ Some e) es → flat_map (item_spelled m) (map item_of es) ≡ flat_map entry_spelled es
items_are m [] a = refl
items_are m (e ∷ es) a =
    flat_map-cons (item_spelled m) (item_of e) (map item_of es)
    ∙ ap (λ (t : List ℕ). t ++ flat_map (item_spelled m) (map item_of es)) (item_is m e a.0)
    ∙ ap (λ (t : List ℕ). entry_spelled e ++ t) (items_are m es a.1)
    ∙ sym (flat_map-cons entry_spelled e es)

regrouped : (a b c d e f g : List ℕ) → a ++ (b ++ c) ++ (d ++ e ++ f) ++ g ≡ a ++ b ++ c ++ d ++ e ++ (f ++ g)
regrouped a b c d e f g = simp append_assoc

pub written_is : (m : Mailbox) (p : Position) → IsMailbox m → name_of true ++ names_spelled m p ++ counts_spelled m ++ flat_map (item_spelled m) (map item_of m.entries) ≡ image m p
written_is m p k =
    ap (λ (t : List ℕ). name_of true ++ names_spelled m p ++ counts_spelled m ++ t) (items_are m m.entries (each_found 1 m.next_uid m.entries k.uids))
    ∙ regrouped (name_of true) (records.block m.me) (position_spelled true p) (records.b64 m.now) (records.b32 m.next_uid) (records.b32 (length m.entries)) (flat_map entry_spelled m.entries)

pub whole : (m : Mailbox) (p : Position) (items : List Item) (name names counts all : List ℕ) → IsMailbox m → name ≡ name_of true → names ≡ name ++ names_spelled m p
    → counts ≡ names ++ counts_spelled m → items ≡ map item_of m.entries → all ≡ counts ++ flat_map (item_spelled m) items → all ≡ image m p
whole m p items name names counts all k a b c i d =
    d ∙ ap (λ (l : List Item). counts ++ flat_map (item_spelled m) l) i ∙ ap (λ (t : List ℕ). t ++ flat_map (item_spelled m) (map item_of m.entries)) (c ∙ ap (λ (t : List ℕ). t ++ counts_spelled m) (b ∙ ap (λ (t : List ℕ). t ++ names_spelled m p) a))
    ∙ written_is m p k

-- ---- one item more

module _ (xs : List Item) (i : ℕ) (d : Item) (lt : i < length xs) where
  next : take (i + 1) xs ≡ take i xs ++ get_or xs i d ∷ []
  next = ap (λ n. take n xs) (add-one i) ∙ take-suc xs i d lt

  pub more_text : (f : Item → List ℕ) (base out new : List ℕ) → new ≡ out ++ f (get_or xs i d) → out ≡ base ++ flat_map f (take i xs)
      → new ≡ base ++ flat_map f (take (i + 1) xs)
  more_text f base out new last before =
      let more = ap (flat_map f) next ∙ flat_map-append f (take i xs) (get_or xs i d ∷ []) in
      let one = flat_map-cons f (get_or xs i d) [] ∙ append-nil (f (get_or xs i d)) in
      last ∙ ap (λ (t : List ℕ). t ++ f (get_or xs i d)) before ∙ append_assoc base (flat_map f (take i xs)) (f (get_or xs i d))
      ∙ ap (λ (t : List ℕ). base ++ t) (sym (more ∙ ap (λ (t : List ℕ). flat_map f (take i xs) ++ t) one))

  pub more_cards : (base steps new : ℕ) → new ≡ steps + cards_of (get_or xs i d) → steps ≡ base + sum_by cards_of (take i xs)
      → new ≡ base + sum_by cards_of (take (i + 1) xs)
  more_cards base steps new last before =
      let more = sum_by_more cards_of xs i d lt in
      joined _ _ _ _ _ _ last before more
    where
      joined : (base steps new front card whole : ℕ) → new ≡ steps + card → steps ≡ base + front → whole ≡ front + card → new ≡ base + whole
      joined base steps new front card whole p q r = omega arith
