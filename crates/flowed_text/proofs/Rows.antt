-- Worked rows of the definitions, which compute.
use Rattle.std.proofs.Common.{◌≡◌, true, false, [], codes, refl}
use Rattle.flowed_text.specs.Flowed.{quoted_line, unflow, user_text}

-- ---- flowed text

flowed : unflow (codes "Hello \nworld\n> a \n> b\n-- \nfoot") false ≡ codes "Hello world\n> a b\n-- \nfoot"
flowed = refl

flowed_delsp : unflow (codes "Hello \nworld\n> a \n> b\n-- \nfoot") true ≡ codes "Helloworld\n> ab\n-- \nfoot"
flowed_delsp = refl

three_lines : unflow (codes "a \nb \nc\nd") false ≡ codes "a b c\nd"
three_lines = refl

-- with DelSp one space goes, and the others stay
two_spaces : unflow (codes "a  \nb") true ≡ codes "a b"
two_spaces = refl

other_depth : unflow (codes "a \n> b \n>> c \n> d") false ≡ codes "a \n> b \n>> c \n> d"
other_depth = refl

-- a soft line that is not joined keeps its space with DelSp, too
other_depth_delsp : unflow (codes "> a \nb") true ≡ codes "> a \nb"
other_depth_delsp = refl

-- the depth is the number of marks side by side: the mark after a space is text
marks_apart : quoted_line (codes ">> > a") ≡ record { depth = 2; text = codes "> a" }
marks_apart = refl

marks_without_space : unflow (codes ">a \n>b") false ≡ codes "> a b"
marks_without_space = refl

stuffed : unflow (codes " From here\n  two\n > no mark") false ≡ codes "From here\n two\n> no mark"
stuffed = refl

-- stuffing goes before the lines are joined
stuffed_joined : unflow (codes "a \n b \n  c") false ≡ codes "a b  c"
stuffed_joined = refl

soft_at_end : unflow (codes "a ") true ≡ codes "a "
soft_at_end = refl

signature_not_joined : unflow (codes "a \n-- \nb") true ≡ codes "a \n-- \nb"
signature_not_joined = refl

signature_at_a_depth : unflow (codes "> a \n> -- \n> b \n> c") false ≡ codes "> a \n> -- \n> b c"
signature_at_a_depth = refl

-- the test is on the text after the stuffing
signature_stuffed : unflow (codes " -- \nb") false ≡ codes "-- \nb"
signature_stuffed = refl

two_dashes : unflow (codes "--\n-- a \nb") false ≡ codes "--\n-- a b"
two_dashes = refl

empty : unflow [] false ≡ []
empty = refl

final_break : unflow (codes "a\n") false ≡ codes "a"
final_break = refl

empty_lines : unflow (codes "\na \n\nb\n\n") false ≡ codes "\na \nb\n"
empty_lines = refl

ends_by_crlf : unflow (codes "a \r\nb\r\nc\r\n") false ≡ codes "a b\nc"
ends_by_crlf = refl

-- a CR that no LF follows is of the line
cr_alone : unflow (codes "a \rb \r") false ≡ codes "a \rb \r"
cr_alone = refl

-- a line of marks alone is written with the space after them, and so is one with a space there
only_marks : unflow (codes ">\n> \n>>\na") false ≡ codes "> \n> \n>> \na"
only_marks = refl

-- the space after the mark is stuffing, so this line is not soft; the second space makes the next one soft
space_after_mark : unflow (codes "> \n>  \n> a") false ≡ codes "> \n>  a"
space_after_mark = refl

-- ---- the text above a signature

above : user_text (codes "Hello world\n> a b\n-- \nfoot") ≡ codes "Hello world\n> a b"
above = refl

above_first : user_text (codes "a\n-- \nb\n-- \nc") ≡ codes "a"
above_first = refl

above_none : user_text (codes "a \r\n> -- \n --\n-- b\n --  \n--\n") ≡ codes "a \n> -- \n --\n-- b\n --  \n--"
above_none = refl

above_at_once : user_text (codes "-- \nfoot") ≡ []
above_at_once = refl

above_crlf : user_text (codes "a\r\n-- \r\nb") ≡ codes "a"
above_crlf = refl

-- a CR at the end without its LF is of the line
above_cr : user_text (codes "a\n-- \r") ≡ codes "a\n-- \r"
above_cr = refl

above_empty : user_text [] ≡ []
above_empty = refl

above_empty_lines : user_text (codes "\n\n-- \n") ≡ codes "\n"
above_empty_lines = refl
