-- What changes bring, and which cards the mailbox has after them.
use Rattle.std.proofs.Common.{◌≡◌, refl, sym, ap, ◌∙◌, subst, false, None, Ok, List, [], ◌∷◌, ◌++◌, map, append_assoc}
use Rattle.std.specs.Prelude.{IfOk}
use Rattle.std.specs.List.{AllByRecursion, IsDistinct}
use Rattle.std.specs.List.Sorted.{IsPermutation}
use Rattle.std.proofs.lemmas.List.{append-nil}
use Rattle.std.proofs.lemmas.List.Elements.{filter_map-append}
use Rattle.std.proofs.lemmas.List.Sorted.{IsPermutation-map}
use Rattle.card_type.specs.declared.card.Card.{Card}
use Rattle.mailbox_model.specs.declared.change.Change.{Change}
use Rattle.mailbox_model.specs.declared.change.Change.TheVariants.{Arrive, ArriveFault, Expunge, Seen, At}
use Rattle.mailbox_model.specs.Lists.{Bytes}
use Rattle.mailbox_model.specs.Mailbox.{Mailbox, Entry, new_entry, empty_mailbox, after, after_all}
use Rattle.mailbox_model.proofs.Elements.{All-append}
use Rattle.model_laws.specs.SameCards.{CardSeen, card_seen, cards_seen, share_id, same_card_id, IsDatedBy, AreDated, HaveSameCards, brought, BringDated, BringSameCards}

abbrev unseen : Card → CardSeen
unseen card = record { card = card; seen = None }

seen_after : (m : Mailbox) (changes : List Change) → BringDated m.now changes
    → cards_seen (after_all m changes) ≡ cards_seen m ++ map unseen (brought changes)
seen_after m [] b = sym (append-nil (cards_seen m))
seen_after m (Arrive card ∷ changes) b =
    seen_after (after m (Arrive card)) changes b.1
    ∙ ap (λ ts. ts ++ map unseen (brought changes)) (filter_map-append (λ (e : Entry). card_seen e.seen e.read) m.entries (new_entry m (Ok card) ∷ []))
    ∙ append_assoc (cards_seen m) (unseen card ∷ []) (map unseen (brought changes))
seen_after m (ArriveFault fault ∷ changes) b = absurd b
seen_after m (Expunge uid ∷ changes) b = absurd b
seen_after m (Seen uid ∷ changes) b = absurd b
seen_after m (At moment ∷ changes) b = seen_after (after m (At moment)) changes b

dated_after : (m : Mailbox) (changes : List Change) → AreDated m → BringDated m.now changes → AreDated (after_all m changes)
dated_after m [] a b = a
dated_after m (Arrive card ∷ changes) a b =
    dated_after (after m (Arrive card)) changes (All-append (λ entry. IfOk entry.read (IsDatedBy entry.arrival)) m.entries (new_entry m (Ok card) ∷ []) a (b.0, tt)) b.1
dated_after m (ArriveFault fault ∷ changes) a b = absurd b
dated_after m (Expunge uid ∷ changes) a b = absurd b
dated_after m (Seen uid ∷ changes) a b = absurd b
dated_after m (At moment ∷ changes) a b = dated_after (after m (At moment)) changes a b

me_after : (m : Mailbox) (changes : List Change) → BringDated m.now changes → (after_all m changes).me ≡ m.me
me_after m [] b = refl
me_after m (Arrive card ∷ changes) b = me_after (after m (Arrive card)) changes b.1
me_after m (ArriveFault fault ∷ changes) b = absurd b
me_after m (Expunge uid ∷ changes) b = absurd b
me_after m (Seen uid ∷ changes) b = absurd b
me_after m (At moment ∷ changes) b = me_after (after m (At moment)) changes b

distinct_unseen : (cards : List Card) → IsDistinct share_id cards → IsDistinct same_card_id (map unseen cards)
unfolding IsDistinct
distinct_unseen [] d = tt
distinct_unseen (c ∷ cs) d = (others cs d.0, distinct_unseen cs d.1)
  where
    others : (ds : List Card) → AllByRecursion (λ e. share_id c e ≡ false) ds
        → AllByRecursion (λ t. same_card_id (unseen c) t ≡ false) (map unseen ds)
    others [] a = tt
    others (e ∷ ds) a = (a.0, others ds a.1)

pub bring_same : (me : Bytes) (first second : List Change) → BringSameCards me first second
    → HaveSameCards (after_all (empty_mailbox me) first) (after_all (empty_mailbox me) second)
bring_same me first second b =
    let empty = empty_mailbox me in
    let one = seen_after empty first b.first_dated in
    let other = seen_after empty second b.second_dated in
    record {
      me = me_after empty first b.first_dated ∙ sym (me_after empty second b.second_dated);
      now = b.moment;
      cards = subst (λ ts. IsPermutation ts (cards_seen (after_all empty second))) (sym one) (subst (IsPermutation (map unseen (brought first))) (sym other) (IsPermutation-map unseen (brought first) (brought second) b.cards));
      ids = subst (IsDistinct same_card_id) (sym one) (distinct_unseen (brought first) b.ids);
      first = dated_after empty first tt b.first_dated;
      second = dated_after empty second tt b.second_dated;
    }
