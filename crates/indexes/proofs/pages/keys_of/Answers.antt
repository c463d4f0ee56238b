use Rattle.std.proofs.Common.{sym, ap, ◌∙◌, [], ◌∷◌, ◌++◌, map}
use Rattle.std.specs.FinMap as map_of
use Rattle.std.specs.Map.Iter.{deref_pair}
use Rattle.std.proofs.lemmas.List.{map-append}
use Rattle.std.proofs.lemmas.Map.Iter.{iter_end}
use Rattle.indexes.proofs.pages.keys_of.Goals as goal

pub loop-key-init : goal.loop-key-init
loop-key-init c = c.new-keys.ensures.items

pub loop-key-preserved : goal.loop-key-preserved
loop-key-preserved c =
    c.in_ok-push.ensures.items
    ∙ (λ i. c.loop-key.invariant i ++ c.in_ok-copy.ensures i ∷ [])
    ∙ sym (map-append (λ entry. entry.0) (map deref_pair c.loop-key.yielded) (deref_pair (c.in-Some.key, c.in-Some.field-0-1) ∷ []))
    ∙ ap (map (λ entry. entry.0)) (sym (map-append deref_pair c.loop-key.yielded ((c.in-Some.key, c.in-Some.field-0-1) ∷ [])))

pub returns : goal.returns
returns c =
    c.loop-key.invariant
    ∙ ap (map (λ entry. entry.0)) (iter_end deref_pair (map_of.entries c.args.chats.now) c.loop-key.yielded c.into_iter-key-iterator.result c.loop-key.key-iterator c.next.new.self c.next.result (c.into_iter-key-iterator.ensures.into_iter_gives ∙ c.iter-key-items.ensures.rest) c.loop-key.yielded_by c.in-None.is c.next.ensures.steps).0
