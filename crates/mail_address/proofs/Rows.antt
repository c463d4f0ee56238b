-- Worked rows of the definitions, which compute.
use Rattle.std.proofs.Common.{◌≡◌, ℕ, true, List, [], ◌∷◌, codes, refl}
use Rattle.std.specs.Prelude.{flat_map}
use Rattle.std.specs.List.{list_all}
use Rattle.mail_address.specs.Written.{Mailbox, Alone, Named, Bare, InQuotes, Address, Single, Group, is_address, named_people, written}
use Rattle.std.specs.Str.{is_utf8, chars}
use Rattle.std.specs.Str.Lossy.{utf8_lossy, utf8_valid_len, utf8_error_len}
use Rattle.mail_address.specs.declared.person.Person.{Person}
use Rattle.mail_address.specs.People.{people}

abbrev person : List ℕ → List ℕ → Person
person addr name = record { addr = addr; name = name }

phrases_and_group : people (codes "Joe Q. Public <john.q@x.org>, A Group:Ed <ed@x.org>,joe@where.test;, (c(n)) mary @ x.net")
    ≡ person (codes "john.q@x.org") (codes "Joe Q. Public") ∷ person (codes "ed@x.org") (codes "Ed")
    ∷ person (codes "joe@where.test") [] ∷ person (codes "mary@x.net") [] ∷ []
unfolding utf8_lossy utf8_valid_len utf8_error_len is_utf8 chars lib.Utf8.encode
phrases_and_group = refl

route_and_nobody : people (codes "<@a.org,@b.org:joe@x.org>, nobody") ≡ person (codes "joe@x.org") [] ∷ []
unfolding utf8_lossy utf8_valid_len utf8_error_len is_utf8 chars lib.Utf8.encode
route_and_nobody = refl

comment_cuts_an_atom : people (codes "jo(x)e@x.org") ≡ []
unfolding utf8_lossy utf8_valid_len utf8_error_len is_utf8 chars lib.Utf8.encode
comment_cuts_an_atom = refl

comment_beside_a_dot : people (codes "joe(x).smith@x.org") ≡ person (codes "joe.smith@x.org") [] ∷ []
unfolding utf8_lossy utf8_valid_len utf8_error_len is_utf8 chars lib.Utf8.encode
comment_beside_a_dot = refl

comment_open : people (codes "a@b (c") ≡ person (codes "a@b") [] ∷ []
unfolding utf8_lossy utf8_valid_len utf8_error_len is_utf8 chars lib.Utf8.encode
comment_open = refl

quoted_name : people (codes "\"Joe \\\"Q\\\" Public\" <joe@x.org>") ≡ person (codes "joe@x.org") (codes "Joe \"Q\" Public") ∷ []
unfolding utf8_lossy utf8_valid_len utf8_error_len is_utf8 chars lib.Utf8.encode
quoted_name = refl

quoted_name_open : people (codes "\"Joe <joe@x.org>") ≡ []
unfolding utf8_lossy utf8_valid_len utf8_error_len is_utf8 chars lib.Utf8.encode
quoted_name_open = refl

quoted_local_part : people (codes "\"joe\"@x.org") ≡ []
unfolding utf8_lossy utf8_valid_len utf8_error_len is_utf8 chars lib.Utf8.encode
quoted_local_part = refl

quoted_local_part_in_angle : people (codes "Joe <\"joe\"@x.org>") ≡ []
unfolding utf8_lossy utf8_valid_len utf8_error_len is_utf8 chars lib.Utf8.encode
quoted_local_part_in_angle = refl

literal : people (codes "joe@[IPv6:::1], <@c:joe@[1,2]>") ≡ person (codes "joe@[ipv6:::1]") [] ∷ []
unfolding utf8_lossy utf8_valid_len utf8_error_len is_utf8 chars lib.Utf8.encode
literal = refl

literal_open : people (codes "joe@[::1") ≡ person (codes "joe@[::1") [] ∷ []
unfolding utf8_lossy utf8_valid_len utf8_error_len is_utf8 chars lib.Utf8.encode
literal_open = refl

address_before_a_group : people (codes "Bob <a@b>: c@d") ≡ person (codes "c@d") [] ∷ []
unfolding utf8_lossy utf8_valid_len utf8_error_len is_utf8 chars lib.Utf8.encode
address_before_a_group = refl

group_empty : people (codes "A Group:;") ≡ []
unfolding utf8_lossy utf8_valid_len utf8_error_len is_utf8 chars lib.Utf8.encode
group_empty = refl

group_name_is_no_address : people (codes "a@b:;") ≡ []
unfolding utf8_lossy utf8_valid_len utf8_error_len is_utf8 chars lib.Utf8.encode
group_name_is_no_address = refl

after_a_semicolon : people (codes "A: a@b; c@d, e@f") ≡ person (codes "a@b") [] ∷ person (codes "c@d") [] ∷ person (codes "e@f") [] ∷ []
unfolding utf8_lossy utf8_valid_len utf8_error_len is_utf8 chars lib.Utf8.encode
after_a_semicolon = refl

comma_in_angle : people (codes "<a@b,c@d>") ≡ []
unfolding utf8_lossy utf8_valid_len utf8_error_len is_utf8 chars lib.Utf8.encode
comma_in_angle = refl

angle_open : people (codes "Joe <a@b") ≡ person (codes "a@b") (codes "Joe") ∷ []
unfolding utf8_lossy utf8_valid_len utf8_error_len is_utf8 chars lib.Utf8.encode
angle_open = refl

angle_twice : people (codes "Joe <a@b> x <c@d> y") ≡ person (codes "a@b") (codes "Joe") ∷ []
unfolding utf8_lossy utf8_valid_len utf8_error_len is_utf8 chars lib.Utf8.encode
angle_twice = refl

close_alone : people (codes "a> @b") ≡ person (codes "a@b") [] ∷ []
unfolding utf8_lossy utf8_valid_len utf8_error_len is_utf8 chars lib.Utf8.encode
close_alone = refl

two_words : people (codes "a b@c") ≡ []
unfolding utf8_lossy utf8_valid_len utf8_error_len is_utf8 chars lib.Utf8.encode
two_words = refl

capitals : people (codes "JOE@X.ORG") ≡ person (codes "joe@x.org") [] ∷ []
unfolding utf8_lossy utf8_valid_len utf8_error_len is_utf8 chars lib.Utf8.encode
capitals = refl

encoded_name : people (codes "=?utf-8?Q?J=6Fe?= =?utf-8?Q?_M?= <a@b>") ≡ person (codes "a@b") (codes "Joe M") ∷ []
unfolding utf8_lossy utf8_valid_len utf8_error_len is_utf8 chars lib.Utf8.encode
encoded_name = refl

colon_in_angle : people (codes "x <a:b:c@d>") ≡ person (codes "c@d") (codes "x") ∷ []
unfolding utf8_lossy utf8_valid_len utf8_error_len is_utf8 chars lib.Utf8.encode
colon_in_angle = refl

name_empty : people (codes "\"\" \"x\" <a@b>") ≡ person (codes "a@b") (codes " x") ∷ []
unfolding utf8_lossy utf8_valid_len utf8_error_len is_utf8 chars lib.Utf8.encode
name_empty = refl

nothing : people (codes "") ≡ []
unfolding utf8_lossy utf8_valid_len utf8_error_len is_utf8 chars lib.Utf8.encode
nothing = refl

-- a list of addresses, how it is written, and whom it names
abbrev ann : Mailbox
ann = Alone (record { local = codes "ann"; domain = codes "X.org" })

abbrev addresses : List Address
addresses =
    Single (Named (Bare (codes "Joe") ∷ Bare (codes "Q.") ∷ InQuotes (codes "\"Pub\", Lic") ∷ []) (record { local = codes "joe.q"; domain = codes "x.org" }))
    ∷ Group (Bare (codes "Us") ∷ []) (ann ∷ Named [] (record { local = codes "cid+1"; domain = codes "x.org" }) ∷ [])
    ∷ Group (InQuotes (codes "a@b") ∷ []) [] ∷ Single ann ∷ []

addresses_written : written addresses ≡ codes "Joe Q. \"\\\"Pub\\\", Lic\" <joe.q@x.org>, Us :ann@X.org, <cid+1@x.org>;, \"a@b\" :;, ann@X.org"
addresses_written = refl

addresses_of_the_law : list_all is_address addresses ≡ true
addresses_of_the_law = refl

addresses_name : flat_map named_people addresses
    ≡ person (codes "joe.q@x.org") (codes "Joe Q. \"Pub\", Lic") ∷ person (codes "ann@x.org") [] ∷ person (codes "cid+1@x.org") [] ∷ person (codes "ann@x.org") [] ∷ []
unfolding utf8_lossy utf8_valid_len utf8_error_len is_utf8 chars lib.Utf8.encode
addresses_name = refl
