-- The order as it is kept.
use Rattle.std.specs.Prelude.{◌≡◌, ℕ, Bool, true, false, List, take, drop}
use Rattle.std.specs.List.{AllByRecursion}
use Rattle.std.specs.Ordering.{is_lt}
use Rattle.card_type.specs.Keys.{key_eq}
use Rattle.mailbox_model.specs.ChatList.{Dated, dated_cmp}

-- chats in order, and whether there is room for one more without memory
pub record Order : Type 0 where
  pub chats : List Dated
  pub has_room : Bool

-- whether the two have one key
abbrev pub same_key : Dated → Dated → Bool
same_key d e = key_eq d.0 e.0

-- those before the index come before a chat, and those from it on do not
pub record IsPlaceOf (d : Dated) (chats : List Dated) (i : ℕ) : Type 0 where
  pub before : AllByRecursion (λ e. is_lt (dated_cmp e d) ≡ true) (take i chats)
  pub after : AllByRecursion (λ e. is_lt (dated_cmp e d) ≡ false) (drop i chats)
