-- How often the present cards mention an address.
use Rattle.std.proofs.Common.{◌≡◌, refl, ℕ, ◌+◌, ◌≤◌, Result, Ok, Err, List, [], ◌∷◌, ◌++◌, length, arith, length-append}
use Rattle.std.specs.Prelude.{sum_by, flat_map}
use Rattle.std.specs.List.{concat, cons_option, count_by}
use Rattle.std.specs.Str.{bytes_eq}
use Rattle.std.proofs.lemmas.List.Sums.{count_by-le-length}
use Rattle.card_type.specs.declared.card.Card.{Card}
use Rattle.card_type.specs.Records.{weight, requests, shown, b32, b64, block, opt, list}
use Rattle.mailbox_model.specs.declared.change.Fault.{Fault}
use Rattle.mailbox_model.specs.Chats.{people}
use Rattle.mailbox_model.specs.Lists.{Bytes}
use Rattle.mailbox_model.specs.Mailbox.{Mailbox, Entry, weight_read, max_total_weight, IsMailbox}
use Rattle.mailbox_model.specs.Present.{Placed, Mail, mail_by, mail_of, present, present_cards}
use Rattle.mailbox_model.proofs.CountLaws.{sum_by-map, sum_by-present}

-- ---- each address weighs something

some_block : (bytes : Bytes) → 1 ≤ length (block bytes)
some_block bytes =
    let number : length (b32 (length bytes)) ≡ 4 = refl in
    omega (arith, number, length-append (b32 (length bytes)) bytes)

some_blocks : (xs : List Bytes) → length xs ≤ length (flat_map block xs)
some_blocks [] = omega arith
some_blocks (x ∷ xs) = omega (arith, length-append (block x) (flat_map block xs), some_block x, some_blocks xs)

some_list : (xs : List Bytes) → length xs ≤ length (list block xs)
some_list xs = omega (arith, length-append (b32 (length xs)) (flat_map block xs), some_blocks xs)

people_weigh : (c : Card) → length (people c) ≤ weight c
people_weigh c =
    let after_to = list block c.cc ++ concat more in
    let after_name = list block c.to ++ after_to in
    let after_from = block c.from_name ++ after_name in
    let whole : weight c ≡ length (block c.id) + length (block c.from ++ after_from) = length-append (block c.id) (block c.from ++ after_from) in
    let all : length (people c) ≡ 1 + length (c.to ++ c.cc) = omega arith in
    omega (
      arith,
      whole,
      all,
      length-append (block c.from) after_from,
      length-append (block c.from_name) after_name,
      length-append (list block c.to) after_to,
      length-append (list block c.cc) (concat more),
      length-append c.to c.cc,
      some_block c.from,
      some_list c.to,
      some_list c.cc,
    )
  where
    more : List (List ℕ)
    more =
        opt b64 c.date ∷ list block c.replies ∷ list block c.references ∷ requests c ++ shown c

-- ---- the mentions

mentions_weigh : (addr : Bytes) (e : Entry)
    → sum_by (λ (t : Mail). count_by (bytes_eq addr) (people t.placed.card)) (cons_option (mail_of e) []) ≤ weight_read e.read
mentions_weigh addr e = by e.read
  where
    by : (read : Result Card Fault)
        → sum_by (λ (t : Mail). count_by (bytes_eq addr) (people t.placed.card)) (cons_option (mail_by e read) []) ≤ weight_read read
    by (Ok card) = omega (arith, count_by-le-length (bytes_eq addr) (people card), people_weigh card)
    by (Err fault) = omega arith

pub few_mentions : (m : Mailbox) (addr : Bytes) → IsMailbox m
    → sum_by (λ p. count_by (bytes_eq addr) (people p.card)) (present_cards m) ≤ max_total_weight
few_mentions m addr k =
    omega (
      arith,
      sum_by-map (λ (p : Placed). count_by (bytes_eq addr) (people p.card)) (λ (t : Mail). t.placed) (present m),
      sum_by-present (λ t. count_by (bytes_eq addr) (people t.placed.card)) (λ e. weight_read e.read) (mentions_weigh addr) m,
      k.weight_fits,
    )
