-- Worked rows of the definitions, which compute.
use Rattle.std.proofs.Common.{◌≡◌, codes, Some, None, refl}
use Rattle.part_read.specs.Receipts.{receipt}

displayed : receipt (codes "Original-Message-ID: <o1@x.org>\nDisposition: manual-action/MDN-sent-automatically; displayed\n") ≡ Some (codes "o1@x.org")
displayed = refl

in_capitals : receipt (codes "DISPOSITION: a/b;\tDisplayed \noriginal-message-id: <o1@x.org>") ≡ Some (codes "o1@x.org")
in_capitals = refl

with_modifiers : receipt (codes "Original-Message-ID: <o1@x.org> <o2@x.org>\nDisposition: a; displayed /error,expired\n") ≡ Some (codes "o1@x.org")
with_modifiers = refl

with_modifiers_after_a_comma : receipt (codes "Original-Message-ID: <o1@x.org>\nDisposition: a; displayed, expired\n") ≡ Some (codes "o1@x.org")
with_modifiers_after_a_comma = refl

deleted : receipt (codes "Original-Message-ID: <o1@x.org>\nDisposition: manual-action/MDN-sent-manually; deleted\n") ≡ None
deleted = refl

no_mode : receipt (codes "Original-Message-ID: <o1@x.org>\nDisposition: displayed\n") ≡ None
no_mode = refl

more_after_the_type : receipt (codes "Original-Message-ID: <o1@x.org>\nDisposition: a; displayed; b\n") ≡ None
more_after_the_type = refl

first_disposition_of_two : receipt (codes "Original-Message-ID: <o1@x.org>\nDisposition: a; denied\nDisposition: a; displayed\n") ≡ None
first_disposition_of_two = refl

first_id_field_of_two : receipt (codes "Original-Message-ID: none\nOriginal-Message-ID: <o1@x.org>\nDisposition: a; displayed\n") ≡ None
first_id_field_of_two = refl

no_disposition : receipt (codes "Original-Message-ID: <o1@x.org>\n") ≡ None
no_disposition = refl

no_original : receipt (codes "Disposition: a; displayed\n") ≡ None
no_original = refl

after_the_header : receipt (codes "Original-Message-ID: <o1@x.org>\n\nDisposition: a; displayed\n") ≡ None
after_the_header = refl

nothing : receipt (codes "") ≡ None
nothing = refl
