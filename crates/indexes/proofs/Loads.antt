-- What the indexes of a mailbox may cost.
use Rattle.std.proofs.Common.{◌≡◌, ◌+◌, ◌≤◌, cond, Option, Some, None, List, [], ◌∷◌, length, arith}
use Rattle.std.specs.Prelude.{is_some, sum_by}
use Rattle.std.specs.List.{cons_option}
use Rattle.std.proofs.lemmas.List.Sums.{count_by-le-length, length-filter}
use Rattle.card_type.specs.Kinds.{is_content, kind_of}
use Rattle.mailbox_model.specs.Mailbox.{Mailbox, Entry}
use Rattle.mailbox_model.specs.Present.{Mail, contents, mail_of, present}
use Rattle.mailbox_model.proofs.CountLaws.{sum_by-present}
use Rattle.touched_chats.specs.Costs.{build_reads, row_reads}
use Rattle.touched_chats.proofs.Counts.{ones, sum_of_both}
use Rattle.indexes.specs.Costs.{kept_cards, load, pairs, times_named}

one_each : (e : Entry) → sum_by (λ (t : Mail). 1) (cons_option (mail_of e) []) ≤ cond (is_some (mail_of e)) 1 0
one_each e = by (mail_of e)
  where
    by : (o : Option Mail) → sum_by (λ (t : Mail). 1) (cons_option o []) ≤ cond (is_some o) 1 0
    by None = omega arith
    by (Some t) = omega (arith, ones (t ∷ []))

-- no more cards are present than are kept
pub few_present : (m : Mailbox) → length (present m) ≤ kept_cards m
few_present m = omega (arith, ones (present m), sum_by-present (λ t. 1) (λ e. cond (is_some (mail_of e)) 1 0) one_each m)

pub few_contents : (m : Mailbox) → length (contents m) ≤ length (present m)
few_contents m =
    omega (
      arith,
      length-filter (λ (t : Mail). is_content (kind_of t.placed.card)) (present m),
      count_by-le-length (λ (t : Mail). is_content (kind_of t.placed.card)) (present m),
    )

-- each content card is read, with those that name it
pub rows_read : (m : Mailbox) → sum_by (row_reads m) (contents m) ≡ length (contents m) + pairs m (contents m)
rows_read m =
    omega (arith, sum_of_both (λ (t : Mail). 1) (λ t. times_named m t.placed.card.id) (contents m), ones (contents m))

-- so building reads no more than the load
pub build_fits : (m : Mailbox) → build_reads m ≤ load m
build_fits m = omega (arith, rows_read m, few_present m, few_contents m)
