-- What stands for cards in mail order gives their contacts.
use Rattle.std.proofs.Common.{◌≡◌, refl, sym, ap, ◌∙◌, Bool, true, false, cond, Option, Some, None, List, [], ◌∷◌, map}
use Rattle.std.specs.Prelude.{filter, option_map}
use Rattle.std.specs.Option.{option_or}
use Rattle.mailbox_model.specs.Contacts.{gives_name, given_name}
use Rattle.mailbox_model.specs.Lists.{Bytes, last_of}
use Rattle.mailbox_model.specs.Present.{Placed}
use Rattle.contacts.specs.Kept.{Kept, StandsFor, names_at, last_name, given_by}

last_of-map : {X Y : Type 0} (f : X → Y) (xs : List X) → last_of (map f xs) ≡ option_map f (last_of xs)
last_of-map f [] = refl
last_of-map {X} f (x ∷ xs) = ap (λ o. option_or o (Some (f x))) (last_of-map f xs) ∙ turned (last_of xs)
  where
    turned : (o : Option X) → option_or (option_map f o) (Some (f x)) ≡ option_map f (option_or o (Some x))
    turned None = refl
    turned (Some y) = refl

filter-map : {X Y : Type 0} (f : X → Y) (p : Y → Bool) (xs : List X) → filter p (map f xs) ≡ map f (filter (λ x. p (f x)) xs)
filter-map f p [] = refl
filter-map f p (x ∷ xs) =
    elim (p (f x)) as (λ b. cond b (f x ∷ filter p (map f xs)) (filter p (map f xs)) ≡ map f (cond b (x ∷ filter (λ y. p (f y)) xs) (filter (λ y. p (f y)) xs))) [
      | true ↦ ap (λ ys. f x ∷ ys) (filter-map f p xs)
      | false ↦ filter-map f p xs
    ]

-- the names that these give
names_given : (ps : List Placed) → last_name (map given_by ps) ≡ option_map (λ card. card.from_name) (last_of (map (λ p. p.card) ps))
names_given ps = ap (option_map (λ given. given.1)) (last_of-map given_by ps) ∙ both (last_of ps) ∙ ap (option_map (λ card. card.from_name)) (sym (last_of-map (λ p. p.card) ps))
  where
    both : (o : Option Placed) → option_map (λ given. given.1) (option_map given_by o) ≡ option_map (λ card. card.from_name) (option_map (λ p. p.card) o)
    both None = refl
    both (Some p) = refl

pub last_name_is : (kept : Kept) (ps : List Placed) (addr : Bytes) → StandsFor kept ps
    → last_name (names_at kept.names addr) ≡ given_name (map (λ p. p.card) ps) addr
last_name_is kept ps addr stands =
    ap last_name (stands.names addr) ∙ names_given (filter (λ p. gives_name addr p.card) ps)
    ∙ ap (λ cards. option_map (λ card. card.from_name) (last_of cards)) (sym (filter-map (λ p. p.card) (gives_name addr) ps))
