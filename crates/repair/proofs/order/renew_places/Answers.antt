use Rattle.std.proofs.Common.{◌≡◌, refl, sym, ap, ◌∙◌, subst, ◌++◌, ◌∷◌, [], length, true, false, arith}
use Rattle.std.specs.Prelude.{if◌then◌else◌, IfNone}
use Rattle.std.specs.FinMap as map_of
use Rattle.std.specs.Option.{option_map}
use Rattle.std.proofs.lemmas.List.{append_assoc, append-nil}
use Rattle.chat_states.specs.States.{has_key}
use Rattle.chat_view.specs.Standing.{last_date}
use Rattle.indexes.specs.Kept.{date_at}
use Rattle.repair.proofs.Places.{more_places}
use Rattle.repair.proofs.order.renew_places.Goals as goal

pub loop-key-init : goal.loop-key-init
loop-key-init c =
    record {
      all = ap (λ keys. keys ++ c.args.touched) (sym c.in_ok-keys.ensures.items);
      dates = λ key. ap (λ keys. if has_key keys key then option_map last_date (map_of.get c.args.chats.now key) else date_at c.args.order.now key) (sym c.in_ok-keys.ensures.items);
    }

pub loop-key-smaller : goal.loop-key-smaller
loop-key-smaller c = omega (arith, ap length c.in-Some.ensures.some)

pub loop-key-preserved : goal.loop-key-preserved
loop-key-preserved c =
    let pushed = c.in_ok-push.ensures.items in
    record {
      all =
          c.loop-key.invariant.all
          ∙ ap (λ rest. c.loop-key.keys.items ++ rest) c.in-Some.ensures.some
          ∙ sym (append_assoc c.loop-key.keys.items (c.in-Some.key ∷ []) c.pop.new.self)
          ∙ ap (λ keys. keys ++ c.pop.new.self) (sym pushed);
      dates = λ key.
          more_places c.loop-key.keys.items c.in-Some.key key (λ k. option_map last_date (map_of.get c.args.chats.now k)) (date_at c.loop-key.order key) (date_at c.renew_place.new.order key) (date_at c.args.order.now key)
          (c.in_ok-renew_place.ensures key) (c.loop-key.invariant.dates key)
          ∙ ap (λ keys. if has_key keys key then option_map last_date (map_of.get c.args.chats.now key) else date_at c.args.order.now key) (sym pushed);
    }

pub returns-clause-keys : goal.returns-clause-keys
returns-clause-keys c =
    sym (c.loop-key.invariant.all ∙ ap (λ rest. c.loop-key.keys.items ++ rest) (subst (λ o. IfNone o (c.loop-key.touched ≡ [])) c.in_default.is c.pop.ensures.none) ∙ append-nil c.loop-key.keys.items)

pub returns-clause-order : goal.returns-clause-order
returns-clause-order c start dated same key =
    let all = c.loop-key.invariant.all ∙ ap (λ rest. c.loop-key.keys.items ++ rest) (subst (λ o. IfNone o (c.loop-key.touched ≡ [])) c.in_default.is c.pop.ensures.none) ∙ append-nil c.loop-key.keys.items in
    c.loop-key.invariant.dates key
    ∙ ap (λ keys. if has_key keys key then option_map last_date (map_of.get c.args.chats.now key) else date_at c.args.order.now key) (sym all)
    ∙ elim (has_key c.args.touched key) as (λ b. has_key c.args.touched key ≡ b → (if b then option_map last_date (map_of.get c.args.chats.now key) else date_at c.args.order.now key) ≡ option_map last_date (map_of.get c.args.chats.now key)) [
      | true ↦ λ e. refl
      | false ↦ λ e. dated key ∙ ap (option_map last_date) (sym (same key e))
    ] refl
