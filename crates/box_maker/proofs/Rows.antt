-- Worked rows of the definitions, which compute. What is drawn was drawn by another program.
use Rattle.std.proofs.Common.{◌≡◌, List, ℕ, ◌++◌, codes, refl}
use Rattle.rand_core.specs.Pcg32Seed.{pcg32_seed}
use Rattle.rand_core.specs.Steps.{u32_at, word_bytes}
use Rattle.rand_pcg.specs.Lcg.{state_after}
use Rattle.std.specs.Fmt.{digits}
use Rattle.box_maker.specs.declared.draws.Draws.{Draws}
use Rattle.box_maker.specs.declared.form.Form.TheVariants.{Group, Reply, Edit, Deletion, Timer, Addition, Note}
use Rattle.box_maker.specs.Boxes.{trial_box}
use Rattle.box_maker.specs.Draws.{after, draw, drawn, seeded}
use Rattle.box_maker.specs.Mails.{added_line, chat_line, date_line, form_lines, from_lines, group_lines, id_line, mail, sender, subject_line, text_lines, timer_line, to_line, two_digits}

-- mail 1 of 2,000 by the number 7
abbrev draws_1 : Draws
draws_1 = record { sender = 1; form = Deletion; target = 286; group = 4; day = 1; hour = 21; minute = 8 }

drawn_1 : drawn 2000 (seeded 7) ≡ draws_1
unfolding drawn draw after seeded state_after pcg32_seed word_bytes u32_at
drawn_1 = refl

-- mail 17 of them
abbrev draws_17 : Draws
draws_17 = record { sender = 7; form = Addition; target = 875; group = 4; day = 2; hour = 21; minute = 45 }

drawn_17 : drawn 2000 (after 112 (seeded 7)) ≡ draws_17
unfolding drawn draw after seeded state_after pcg32_seed word_bytes u32_at
drawn_17 = refl

abbrev me : List ℕ
me = codes "me@x.org"

box_of_1 : trial_box 7 1 me
    ≡ codes "From -\nFrom: p1@box.example\nTo: me@x.org, p1@box.example\nDate: 1 Jan 2024 21:08:00 +0000\n"
    ++ codes "Message-ID: <t1@box.example>\nChat-Version: 1.0\nChat-Delete: <t1@box.example>\n\ntext 1\n\n"
unfolding trial_box mail added_line chat_line date_line form_lines from_lines group_lines id_line sender subject_line text_lines timer_line to_line two_digits drawn draw after seeded state_after pcg32_seed word_bytes u32_at digits
box_of_1 = refl

mail_17 : mail me 17 draws_17
    ≡ codes "From -\nFrom: p7@box.example\nTo: me@x.org, p1@box.example, p2@box.example, p3@box.example\n"
    ++ codes "Date: 2 Jan 2024 21:45:00 +0000\nMessage-ID: <t17@box.example>\nChat-Version: 1.0\nChat-Group-ID: trialgroup04\n"
    ++ codes "Chat-Group-Name: Group 4\nChat-Group-Member-Added: p4@box.example\n\ntext 17\n\n"
unfolding mail added_line chat_line date_line form_lines from_lines group_lines id_line sender text_lines to_line two_digits digits
mail_17 = refl

-- mail 18, from oneself
mail_18 : mail me 18 (record { sender = 0; form = Reply; target = 307; group = 1; day = 1; hour = 6; minute = 58 })
    ≡ codes "From -\nFrom: me@x.org\nTo: me@x.org, p1@box.example, p2@box.example\nDate: 1 Jan 2024 06:58:00 +0000\n"
    ++ codes "Message-ID: <t18@box.example>\nIn-Reply-To: <t307@box.example>\n\ntext 18\n\n"
unfolding mail date_line form_lines from_lines id_line sender text_lines to_line two_digits digits
mail_18 = refl

lines_of_edit : form_lines Edit 3 draws_1 ≡ codes "Chat-Version: 1.0\nChat-Edit: <t286@box.example>\n"
unfolding form_lines chat_line id_line digits
lines_of_edit = refl

lines_of_timer : form_lines Timer 5 draws_1 ≡ codes "Chat-Version: 1.0\nEphemeral-Timer: 60\n"
unfolding form_lines chat_line timer_line
lines_of_timer = refl

lines_of_note : form_lines Note 4 draws_1 ≡ codes "Subject: Note 4\n"
unfolding form_lines subject_line digits
lines_of_note = refl

lines_of_group : form_lines Group 2 draws_1 ≡ codes "Chat-Version: 1.0\nChat-Group-ID: trialgroup04\nChat-Group-Name: Group 4\n"
unfolding form_lines chat_line group_lines digits
lines_of_group = refl
