-- Files that are borrowed, and the end of a file name.
use Rattle.std.proofs.Common.{◌≡◌, add-one, ℕ, ◌+◌, ◌-◌, List, [], ◌∷◌, ◌++◌, Option, Some, None, Bor, length, map, take, drop, refl, sym, ap, ◌∙◌}
use Rattle.std.specs.Prelude.{Bool, true, false, ◌||◌, IfNone, IfSome, bytes_eq, codes, cond, find, nat_eq, nat_lt, not, option_map, position, remove, slice_get}
use Rattle.std.specs.Char.{to_ascii_lowercase}
use Rattle.std.specs.List.{ends_with, list_any, position_or_len, prefix_len}
use Rattle.std.proofs.lemmas.Bool.{ltb-false}
use Rattle.std.proofs.lemmas.List.{drop-map, length-map, map-append, take-map}
use Rattle.std.proofs.lemmas.List.Folds.{find_at}
use Rattle.std.proofs.lemmas.Option.{slice_get-map, slice_get_past}
use Rattle.kit.specs.Letters.{lowered, same_name}
use Rattle.chat_card.specs.Parts.{Part}
use Rattle.chat_card.specs.Files.{is_app, is_update_file, other_files, update_file}

-- the last bytes of a name, without the case of letters
pub ends-lowered : (name : List ℕ) → same_name (codes ".xdc") (drop (length name - 4) name) ≡ ends_with nat_eq (lowered name) (codes ".xdc")
ends-lowered name =
    ap (bytes_eq (codes ".xdc")) (sym (drop-map to_ascii_lowercase (length name - 4) name))
    ∙ ap (λ n. bytes_eq (codes ".xdc") (drop (n - 4) (lowered name))) (sym (length-map name to_ascii_lowercase))

pub any-map : {A B : Type 0} (f : A → B) (test : B → Bool) (xs : List A) → list_any test (map f xs) ≡ list_any (λ x. test (f x)) xs
any-map f test [] = refl
any-map f test (x ∷ xs) = ap (λ b. test (f x) || b) (any-map f test xs)

prefix_len-map : {A B : Type 0} (f : A → B) (test : B → Bool) (xs : List A) → prefix_len test (map f xs) ≡ prefix_len (λ x. test (f x)) xs
prefix_len-map f test [] = refl
prefix_len-map f test (x ∷ xs) = ap (λ n. cond (test (f x)) (1 + n) 0) (prefix_len-map f test xs)

position-map : {A B : Type 0} (f : A → B) (test : B → Bool) (xs : List A) → position test (map f xs) ≡ position (λ x. test (f x)) xs
position-map f test xs = rw (prefix_len-map f (λ x. not (test x)) xs, length-map xs f) refl

-- ---- the file that is to be read for updates

pub found-none : {A : Type 0} (test : A → Bool) (xs : List A) → position test xs ≡ None → find test xs ≡ None
found-none test xs none = decided (nat_lt (position_or_len test xs) (length xs)) refl none
  where
    decided : (t : Bool) → nat_lt (position_or_len test xs) (length xs) ≡ t → cond t (Some (position_or_len test xs)) None ≡ None → find test xs ≡ None
    decided true is some = absurd cc
    decided false is some = find_at test xs ∙ slice_get_past xs (position_or_len test xs) (ltb-false (position_or_len test xs) (length xs) is)

pub found-index : {A : Type 0} (test : A → Bool) (xs : List A) (at : ℕ) → position test xs ≡ Some at → position_or_len test xs ≡ at
found-index test xs at = decided (nat_lt (position_or_len test xs) (length xs))
  where
    decided : (t : Bool) → cond t (Some (position_or_len test xs)) None ≡ Some at → position_or_len test xs ≡ at
    decided true some = cc
    decided false some = absurd cc

abbrev files_of : List (Bor Part) → List Part
files_of files = map (λ f. f.now) files

named-map : (files : List (Bor Part)) (r : Option ℕ) → r ≡ position (λ f. is_update_file f.now) files → position is_update_file (files_of files) ≡ r
named-map files r is = position-map (λ (f : Bor Part). f.now) is_update_file files ∙ sym is

pub index-none : (files : List (Bor Part)) (r : Option ℕ) → list_any (λ f. is_app f.now) files ≡ false → r ≡ position (λ f. is_update_file f.now) files
    → IfNone r (update_file (files_of files) ≡ None)
index-none files (Some at) no_app is = tt
index-none files None no_app is = rw (any-map (λ (f : Bor Part). f.now) is_app files, no_app) (found-none is_update_file (files_of files) (named-map files None is))

pub index-file : (files : List (Bor Part)) (r : Option ℕ) → list_any (λ f. is_app f.now) files ≡ false → r ≡ position (λ f. is_update_file f.now) files
    → IfSome r (λ at. update_file (files_of files) ≡ option_map (λ f. f.now) (slice_get files at))
index-file files None no_app is = tt
index-file files (Some at) no_app is =
    rw (any-map (λ (f : Bor Part). f.now) is_app files, no_app)
    (find_at is_update_file (files_of files)
    ∙ ap (slice_get (files_of files)) (found-index is_update_file (files_of files) at (named-map files (Some at) is))
    ∙ slice_get-map (λ (f : Bor Part). f.now) files at)

pub index-others : (files : List (Bor Part)) (r : Option ℕ) → r ≡ position (λ f. is_update_file f.now) files
    → IfSome r (λ at. other_files (files_of files) ≡ files_of (remove files at))
index-others files None is = tt
index-others files (Some at) is =
    let now : Bor Part → Part = λ f. f.now in
    ap (λ n. take n (files_of files) ++ drop (n + 1) (files_of files)) (found-index is_update_file (files_of files) at (named-map files (Some at) is))
    ∙ ap (λ (first : List Part). first ++ drop (at + 1) (files_of files)) (take-map now at files)
    ∙ ap (λ (rest : List Part). files_of (take at files) ++ rest) (drop-map now (at + 1) files)
    ∙ sym (map-append now (take at files) (drop (at + 1) files))
    ∙ ap (λ n. files_of (take at files ++ drop n files)) (add-one at)

pub index-app : (files : List (Bor Part)) → list_any (λ f. is_app f.now) files ≡ true → update_file (files_of files) ≡ None
index-app files app = rw (any-map (λ (f : Bor Part). f.now) is_app files, app) refl
