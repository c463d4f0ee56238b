-- Receipts: what a disposition notification says of a mail (RFC 3798, section 3.2).
use Rattle.std.specs.Prelude.{ℕ, Bool, false, ◌==◌, if◌then◌else◌, List, codes, slice_get, Option, None, option_map, unwrap_or}
use Rattle.std.specs.List.{before_first}
use Rattle.kit.specs.Cuts.{split_once}
use Rattle.kit.specs.Letters.{same_name}
use Rattle.kit.specs.White.{trim}
use Rattle.mail_headers.specs.Headers.{Head, field, header_of}
use Rattle.mail_headers.specs.Ids.{ids}

-- The type in the body of a Disposition field: what follows the mode and its ; (59), up to the modifiers, of which the
-- first has a / (47) before it and each further one a , (44) (section 3.2.6).
abbrev pub disposition_type : List ℕ → Option (List ℕ)
disposition_type body = option_map (λ p. trim (before_first (λ b. b == 44) (before_first (λ b. b == 47) p.1))) (split_once body 59)

-- whether the mail was displayed to the one who sends the notification (section 3.2.6.2)
abbrev pub is_displayed : Head → Bool
is_displayed head =
    unwrap_or (option_map (same_name (codes "displayed")) (disposition_type (field head (codes "Disposition")))) false

-- the id of the mail that the notification is of (section 3.2.3)
abbrev pub original_id : Head → Option (List ℕ)
original_id head = slice_get (ids (field head (codes "Original-Message-ID"))) 0

-- the id of the mail that was displayed, if the bytes say so
abbrev pub receipt : List ℕ → Option (List ℕ)
receipt bytes = let head = header_of bytes in if is_displayed head then original_id head else None
