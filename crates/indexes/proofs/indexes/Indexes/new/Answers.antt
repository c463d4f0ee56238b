use Rattle.std.proofs.Common.{sym, ap, ◌∙◌}
use Rattle.std.specs.FinMap.{get, get-empty}
use Rattle.std.specs.Option.{option_map}
use Rattle.card_type.specs.Keys.{key_cmp}
use Rattle.chat_view.specs.Standing.{last_date}
use Rattle.indexes.specs.Kept.{date_at}
use Rattle.indexes.proofs.indexes.Indexes.new.Goals as goal

pub returns-clause-states : goal.returns-clause-states
returns-clause-states c m key = ap (λ states. get states key) c.new-4.ensures ∙ get-empty key_cmp key

pub returns-clause-order : goal.returns-clause-order
returns-clause-order c key =
    ap (λ order. date_at order key) c.new-5.ensures ∙ sym (ap (λ states. option_map last_date (get states key)) c.new-4.ensures ∙ ap (option_map last_date) (get-empty key_cmp key))
