-- How many rows the list and the pages have at most.
use Rattle.std.proofs.Common.{◌≡◌, ◌+◌, ◌≤◌, Bool, not, Option, Some, None, List, [], ◌∷◌, ◌++◌, length, map, filter, arith, length-append}
use Rattle.std.specs.Prelude.{filter_map}
use Rattle.std.specs.List.{cons_option}
use Rattle.std.specs.List.Sorted.{IsPermutation}
use Rattle.std.proofs.lemmas.List.{length-map}
use Rattle.std.proofs.lemmas.List.Sorted.{length_permutation}
use Rattle.std.proofs.lemmas.List.Sums.{count_by-le-length, length-filter}
use Rattle.lists.specs.Distinct.{firsts}
use Rattle.card_type.specs.declared.key.ChatKey.{ChatKey}
use Rattle.card_type.specs.Keys.{key_eq}
use Rattle.mailbox_model.specs.declared.links.Cites.{Cites}
use Rattle.mailbox_model.specs.ChatList.{list_page, list_row}
use Rattle.mailbox_model.specs.Chats.{Known, chat_mails, chats, cites, cites_by, is_chat, known_after, known_chat, next_chat}
use Rattle.mailbox_model.specs.Mailbox.{Mailbox, max_entries}
use Rattle.mailbox_model.specs.Pages.{keys, page_of}
use Rattle.mailbox_model.specs.Present.{contents, spot}
use Rattle.mailbox_model.specs.Rows.{row}

length-filter-le : {X : Type 0} (p : X → Bool) (xs : List X) → length (filter p xs) ≤ length xs
length-filter-le p xs = omega (arith, length-filter p xs, count_by-le-length p xs)

length-firsts-le : {X : Type 0} (alike : X → X → Bool) (xs : List X) → length (firsts alike xs) ≤ length xs
length-firsts-le alike [] = omega arith
length-firsts-le alike (x ∷ xs) =
    omega (arith, length-filter-le (λ y. not (alike x y)) (firsts alike xs), length-firsts-le alike xs)

length-filter_map-le : {X Y : Type 0} (f : X → Option Y) (xs : List X) → length (filter_map f xs) ≤ length xs
length-filter_map-le f [] = omega arith
length-filter_map-le {X} {Y} f (x ∷ xs) = by (f x) (length-filter_map-le f xs)
  where
    by : (o : Option Y) → length (filter_map f xs) ≤ length xs → length (cons_option o (filter_map f xs)) ≤ length (x ∷ xs)
    by None h = omega (arith, h)
    by (Some y) h = omega (arith, h)

-- a chat for each of the cites
length-known_after : (known : Known) (ts : List Cites) → length (known_after known ts) ≡ length known + length ts
length-known_after known [] = omega arith
length-known_after known (t ∷ ts) =
    let more : Known = (t.spot.id, next_chat known t) ∷ [] in
    omega (arith, length-known_after (known ++ more) ts, length-append known more)

-- no more chats than contents
keys_few : (m : Mailbox) → length (keys m) ≤ length (contents m)
keys_few m =
    omega (
      arith,
      length-firsts-le key_eq (map (λ k. k.1) (chats m)),
      length-map (chats m) (λ k. k.1),
      length-known_after [] (cites m),
      length-map (contents m) (λ t. cites_by m.me (spot t.placed) t.placed.card),
    )

pub list_is_short : (m : Mailbox) → IsPermutation (map (list_row m) (keys m)) (list_page m).rows → length (contents m) ≤ max_entries
    → length (list_page m).rows ≤ max_entries
list_is_short m rows few =
    omega (arith, length_permutation (map (list_row m) (keys m)) (list_page m).rows rows, length-map (keys m) (list_row m), keys_few m, few)

pub page_is_short : (m : Mailbox) (key : ChatKey) → length (contents m) ≤ max_entries → length (page_of m key).rows ≤ max_entries
page_is_short m key few =
    omega (arith, length-filter_map-le (row m) (chat_mails m key), length-filter-le (λ t. is_chat key (known_chat (chats m) t.placed.card.id)) (contents m), few)
