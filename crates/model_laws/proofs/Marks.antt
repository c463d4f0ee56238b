-- The first mark counts.
use Rattle.std.proofs.Common.{◌≡◌, refl, ℕ, Bool, true, false, Option, Some, None, List, [], ◌∷◌, map}
use Rattle.std.specs.Prelude.{if◌then◌else◌}
use Rattle.std.specs.Option.{option_or}
use Rattle.mailbox_model.specs.declared.change.Change.TheVariants.{Seen, At}
use Rattle.mailbox_model.specs.Mailbox.{Mailbox, Entry, has_uid, marked_at, mark_entry, after_all}
use Rattle.mailbox_model.specs.Answers.{Question, answer}
use Rattle.mailbox_model.proofs.AnswerLaws.{same_answer}

mark_twice : (uid now later : ℕ) (e : Entry) → mark_entry uid later (mark_entry uid now e) ≡ mark_entry uid now e
mark_twice uid now later e = by (has_uid uid e) refl
  where
    first : (o : Option ℕ) → option_or (option_or o (Some now)) (Some later) ≡ option_or o (Some now)
    first None = refl
    first (Some s) = refl

    by : (b : Bool) → has_uid uid e ≡ b → mark_entry uid later (if b then record e { seen = marked_at now e.seen } else e) ≡ (if b then record e { seen = marked_at now e.seen } else e)
    by true h = rw h (λ i. record e { seen = first e.seen i })
    by false h = rw h refl

marked_twice : (uid now later : ℕ) (es : List Entry)
    → map (mark_entry uid later) (map (mark_entry uid now) es) ≡ map (mark_entry uid now) es
marked_twice uid now later [] = refl
marked_twice uid now later (e ∷ es) = λ i. mark_twice uid now later e i ∷ marked_twice uid now later es i

pub seen_once : (m : Mailbox) (uid moment : ℕ) (question : Question)
    → answer (after_all m (Seen uid ∷ At moment ∷ Seen uid ∷ [])) question ≡ answer (after_all m (Seen uid ∷ At moment ∷ [])) question
seen_once m uid moment question =
    let once = after_all m (Seen uid ∷ At moment ∷ []) in
    same_answer (after_all once (Seen uid ∷ [])) once refl refl (marked_twice uid m.now once.now m.entries) question
