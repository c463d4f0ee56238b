use Rattle.std.proofs.Common.{refl, sym, subst, None}
use Rattle.std.specs.FinMap as map_of
use Rattle.card_type.specs.Keys.{key_cmp}
use Rattle.chat_states.specs.States.{Has}
use Rattle.chat_states.proofs.Followed.{stand, told, weaker}
use Rattle.chat_states.proofs.OneCard.{few, found, one_list, own}
use Rattle.chat_states.proofs.laws.states_follow_their_family.Goals as goal

pub returns-clause-one_list : goal.returns-clause-one_list
returns-clause-one_list c = one_list

pub returns-clause-few : goal.returns-clause-few
returns-clause-few c = few

pub returns-clause-own : goal.returns-clause-own
returns-clause-own c = own

pub returns-clause-found : goal.returns-clause-found
returns-clause-found c = found

pub returns-clause-told : goal.returns-clause-told
returns-clause-told c = told

pub returns-clause-stand : goal.returns-clause-stand
returns-clause-stand c = stand

pub returns-clause-weaker : goal.returns-clause-weaker
returns-clause-weaker c me u v family states more are key = weaker me key (u key) (v key) (family key) (map_of.get states key) (more key) (are key)

pub returns-clause-empty : goal.returns-clause-empty
returns-clause-empty c me unsettled key =
    subst (Has me key (unsettled key) (λ id. None)) (sym (map_of.get-empty key_cmp key)) (λ id. refl)
