-- The fields of a mailbox stand for it after each change.
use Rattle.std.proofs.Common.{◌≡◌, refl, sym, ap, ◌∙◌, ℕ, ◌+◌, ◌-◌, ◌<◌, ◌≤◌, ◌==◌, false, not, cond, nat_eq, Option, Some, None, Result, Ok, Err, List, [], ◌∷◌, ◌++◌, map, vec_len, vec_capacity, Vec, Global, arith}
use Rattle.std.specs.Prelude.{filter, option_map}
use Rattle.std.specs.List.{list_any}
use Rattle.std.specs.Result.{result_ok}
use Rattle.std.specs.Ordering.{nat_cmp, eq_by_cmp}
use Rattle.kit.specs.Options.{◌>>=◌}
use Rattle.std.specs.FinMap as fin
use Rattle.std.proofs.lemmas.Cmp.{nat_cmp_total}
use Rattle.std.proofs.lemmas.Bool.Decides.{nat_tests}
use Rattle.std.proofs.lemmas.List.Sums.{sum_by_push}
use Rattle.card_type.specs.declared.card.Card.{Card}
use Rattle.card_type.specs.declared.spot.Spot.{Spot}
use Rattle.card_type.specs.Records.{weight}
use Rattle.mailbox_model.specs.declared.change.Fault.{Fault}
use Rattle.mailbox_model.specs.declared.change.Change.TheVariants.{Expunge, Seen}
use Rattle.mailbox_model.specs.declared.item.Item.{Item}
use Rattle.mailbox_model.specs.Lists.{Bytes}
use Rattle.mailbox_model.specs.Mailbox.{Mailbox, Entry, item_of, entry_at, item_at, after, weight_read, max_total_weight, end_of_uids, RiseBelow, IsMailbox}
use Rattle.mailbox_model.specs.Present.{effective_date, placed_by, spot}
use Rattle.mailbox_model.proofs.RuleLaws.{change_keeps, empty_keeps}
use Rattle.box_state.specs.declared.ready.Ready.{Ready}
use Rattle.box_state.specs.declared.ready.Ready.TheVariants.{Unready, ForCard}
use Rattle.box_state.specs.declared.mailbox.Mailbox.TheInside.{Inside}
use Rattle.box_state.specs.Stores.{Store}
use Rattle.box_state.specs.Spots.{SpotTable, spot_at, copies_at, copies_with, copies_but, ties}
use Rattle.box_state.specs.Entries.{entry_with}
use Rattle.box_state.specs.Kept.{with_entry}
use Rattle.box_state.specs.Inside.{mailbox_in, HasRoomFor, IsKept}
use Rattle.box_state.proofs.Entries.{entries_put, put_below, rise_put, not_there, none_put, entries_left, weights_left, all_left, none_marked, entries_marked, weights_marked, mark_item}
use Rattle.box_state.proofs.Places.{spot_absent, copies_apart, spots_put, spots_same, spots_left, spots_marked}
use Rattle.box_state.proofs.Changed.{Keeps}

-- the order of numbers tells alike those that are equal
alike : (x y : ℕ) → eq_by_cmp nat_cmp x y ≡ nat_eq y x
alike x y = grind (arith, nat_tests)

no_entry : (o : Option Entry) → option_map item_of o ≡ None → o ≡ None
no_entry None h = refl
no_entry (Some e) h = cc

-- what was read weighs as its card, or nothing
pub read_weight : (read : Result Card Fault) (card : Card) → result_ok read ≡ Some card → weight_read read ≡ weight card
read_weight (Ok other) card h = let same : other ≡ card = cc in ap weight same
read_weight (Err fault) card h = cc

pub fault_weight : (read : Result Card Fault) → result_ok read ≡ None → weight_read read ≡ 0
fault_weight (Ok card) h = cc
fault_weight (Err fault) h = refl

module _ (a : Inside) (k : IsKept a) where
  abbrev m : Mailbox
  m = mailbox_in a

  -- ---- an entry more

  pub fault_put : (items : Vec Item Global) (item : Item) (fault : Fault) → let e = entry_with item (Err fault) in
      IsMailbox (with_entry m e) → item_of e ≡ item → items.items ≡ a.items.items ++ item ∷ []
      → Keeps (record a { items = items; ready = Unready }) (m.entries ++ e ∷ [])
  fault_put items item fault rules is pushed =
      let e = entry_with item (Err fault) in
      let a_below = put_below m.next_uid m.entries e rules.uids in
      record {
        rules = rules;
        entries = rw (pushed, sym is) (entries_put m a.items.items (λ uid. fin.get a.cards.cards uid) (λ uid. fin.get a.cards.cards uid) e a_below k.entries (none_put m a.items.items (λ uid. fin.get a.cards.cards uid) e.uid a_below k.entries));
        weight = omega (arith, k.weight, sum_by_push (λ x. weight_read x.read) m.entries e);
        spots = spots_same m a.spots e fault a_below refl k.spots;
        room = tt;
      }

  pub card_put : (items : Vec Item Global) (cards : Store) (weighs : ℕ) (spots : SpotTable) (item : Item) (card : Card) → let e = entry_with item (Ok card) in
      IsMailbox (with_entry m e) → item_of e ≡ item → items.items ≡ a.items.items ++ item ∷ []
      → cards.cards ≡ fin.insert a.cards.cards item.uid card → weighs ≡ a.weight + weight card
      → ((uid : ℕ) → spot_at spots uid ≡ cond (nat_eq item.uid uid) (Some (spot (placed_by e card))) (spot_at a.spots uid))
      → ((id : Bytes) → copies_at spots id ≡ copies_with (spot (placed_by e card)) id (copies_at a.spots id))
      → Keeps (record a { items = items; cards = cards; weight = weighs; spots = spots; ready = Unready }) (m.entries ++ e ∷ [])
  card_put items cards weighs spots item card rules is pushed inserted sum by_uid by_id =
      let e = entry_with item (Ok card) in
      let a_below = put_below m.next_uid m.entries e rules.uids in
      record {
        rules = rules;
        entries = rw (pushed, sym is) (entries_put m a.items.items (λ uid. fin.get a.cards.cards uid) (λ uid. fin.get cards.cards uid) e a_below k.entries (λ uid. ap (λ c. fin.get c uid) inserted ∙ fin.get-insert nat_cmp_total a.cards.cards item.uid card uid ∙ ap (λ b. cond b (Some card) (fin.get a.cards.cards uid)) (alike uid item.uid)));
        weight = omega (arith, sum, k.weight, sum_by_push (λ x. weight_read x.read) m.entries e);
        spots = spots_put m a.spots spots e card (rise_put 1 m.next_uid m.entries e rules.uids) a_below refl k.spots by_uid by_id;
        room = tt;
      }

  -- nothing is kept under the uid of an entry that follows the others
  module _ (e : Entry) (rules : IsMailbox (with_entry m e)) where
    pub no_card : fin.get a.cards.cards e.uid ≡ None
    no_card =
        k.entries.cards e.uid
        ∙ ap (λ o. o >>= λ x. result_ok x.read) (not_there e.uid m.entries (put_below m.next_uid m.entries e rules.uids))

    pub no_spot : spot_at a.spots e.uid ≡ None
    no_spot = spot_absent m a.spots e.uid (put_below m.next_uid m.entries e rules.uids) k.spots

    pub no_copy : (date : ℕ) (id : Bytes) → list_any (ties (date, e.uid)) (copies_at a.spots id) ≡ false
    no_copy date id = copies_apart m a.spots date e.uid id (rise_put 1 m.next_uid m.entries e rules.uids) k.spots

  -- ---- an entry less

  pub uid_left : (items : Vec Item Global) (cards : Store) (weighs : ℕ) (spots : SpotTable) (uid : ℕ) (e : Entry) → entry_at m uid ≡ Some e
      → items.items ≡ filter (λ item. not (item.uid == uid)) a.items.items → cards.cards ≡ fin.remove a.cards.cards uid
      → weighs + weight_read e.read ≡ a.weight
      → ((q : ℕ) → spot_at spots q ≡ cond (nat_eq uid q) None (spot_at a.spots q))
      → ((id : Bytes) → copies_at spots id ≡ copies_but (spot_at a.spots uid) id (copies_at a.spots id))
      → Keeps (record a { items = items; cards = cards; weight = weighs; spots = spots; ready = Unready }) (after m (Expunge uid)).entries
  uid_left items cards weighs spots uid e found left removed sum by_uid by_id = record {
    rules = change_keeps m (Expunge uid) k.rules tt refl;
    entries = rw left (entries_left m a.items.items (λ q. fin.get a.cards.cards q) (λ q. fin.get cards.cards q) uid k.entries (λ q. ap (λ c. fin.get c q) removed ∙ fin.get-remove nat_cmp_total a.cards.cards uid q ∙ ap (λ b. cond b None (fin.get a.cards.cards q)) (alike q uid)));
    weight = omega (arith, sum, k.weight, weights_left uid 1 m.next_uid m.entries e k.rules.uids found);
    spots = spots_left m a.spots spots uid k.rules.uids k.spots by_uid by_id;
    room = tt;
  }

  -- what the card of an entry weighs is a part of the whole
  pub weight_within : (uid : ℕ) (e : Entry) → entry_at m uid ≡ Some e → weight_read e.read ≤ a.weight
  weight_within uid e found = omega (arith, k.weight, weights_left uid 1 m.next_uid m.entries e k.rules.uids found)

  pub weight_small : (uid : ℕ) (e : Entry) → entry_at m uid ≡ Some e → weight_read e.read ≤ max_total_weight
  weight_small uid e found = omega (arith, k.rules.weight_fits, weights_left uid 1 m.next_uid m.entries e k.rules.uids found)

  -- the card of an entry is the kept one
  pub card_is : (uid : ℕ) (e : Entry) → entry_at m uid ≡ Some e → fin.get a.cards.cards uid ≡ result_ok e.read
  card_is uid e found = k.entries.cards uid ∙ ap (λ o. o >>= λ x. result_ok x.read) found

  -- no item has the uid
  pub nothing_left : (uid : ℕ) → item_at m uid ≡ None → m ≡ after m (Expunge uid)
  nothing_left uid none = ap (λ es. record m { entries = es }) (sym (all_left uid m.entries (no_entry (entry_at m uid) none)))

  pub nothing_marked : (uid : ℕ) → item_at m uid ≡ None → m ≡ after m (Seen uid)
  nothing_marked uid none = ap (λ es. record m { entries = es }) (sym (none_marked uid m.now m.entries (no_entry (entry_at m uid) none)))

  -- ---- a seen mark

  pub uid_marked : (items : Vec Item Global) (uid : ℕ) → items.items ≡ map (mark_item uid m.now) a.items.items
      → Keeps (record a { items = items; ready = Unready }) (after m (Seen uid)).entries
  uid_marked items uid marked = record {
    rules = change_keeps m (Seen uid) k.rules tt refl;
    entries = rw marked (entries_marked m a.items.items (λ q. fin.get a.cards.cards q) uid k.entries);
    weight = k.weight ∙ sym (weights_marked uid m.now m.entries);
    spots = spots_marked m a.spots uid k.spots;
    room = tt;
  }

  -- ---- a change of the plain fields, or of the room

  pub fields_moved : (moment next_uid : ℕ) (ready : Ready) → IsMailbox (record m { now = moment; next_uid = next_uid })
      → HasRoomFor ready (vec_capacity a.items - vec_len a.items) a.cards a.spots
      → Keeps (record a { moment = moment; next_uid = next_uid; ready = ready }) m.entries
  fields_moved moment next_uid ready rules room = record {
    rules = rules;
    entries = record { items = k.entries.items; cards = k.entries.cards };
    weight = k.weight;
    spots = record { spots = k.spots.spots; copies = k.spots.copies };
    room = room;
  }

  pub room_made : (items : Vec Item Global) (cards : Store) (spots : SpotTable) (ready : Ready) → items.items ≡ a.items.items → cards.cards ≡ a.cards.cards
      → ((uid : ℕ) → spot_at spots uid ≡ spot_at a.spots uid) → ((id : Bytes) → copies_at spots id ≡ copies_at a.spots id)
      → HasRoomFor ready (vec_capacity items - vec_len items) cards spots
      → Keeps (record a { items = items; cards = cards; spots = spots; ready = ready }) m.entries
  room_made items cards spots ready same_items same_cards same_spots same_copies room = record {
    rules = k.rules;
    entries = record {
      items = k.entries.items ∙ sym same_items;
      cards = λ uid. ap (λ c. fin.get c uid) same_cards ∙ k.entries.cards uid;
    };
    weight = k.weight;
    spots = record { spots = λ uid. same_spots uid ∙ k.spots.spots uid; copies = λ id. same_copies id ∙ k.spots.copies id };
    room = room;
  }

-- what follows the entries of a mailbox weighs less than a number of 64 bits holds
pub light : (m : Mailbox) (e : Entry) → IsMailbox (with_entry m e) → weight_read e.read ≤ max_total_weight
light m e rules = omega (arith, rules.weight_fits, sum_by_push (λ x. weight_read x.read) m.entries e)

-- the spot of a card with a copy of its id
pub is_spot : (item : Item) (card : Card) (id : Bytes) (made : Spot) → made ≡ record { date = effective_date card.date item.arrival; id = id; uid = item.uid }
    → ForCard id ≡ ForCard card.id → made ≡ spot (placed_by (entry_with item (Ok card)) card)
is_spot item card id made is ready =
    let same : id ≡ card.id = cc in
    is ∙ ap (λ i. record { date = effective_date card.date item.arrival; id = i; uid = item.uid }) same

-- ---- the empty mailbox, and a uid that is given

pub begun : (me : Bytes) (items : Vec Item Global) (cards : Store) (spots : SpotTable) → items.items ≡ [] → cards.cards ≡ fin.empty
    → ((uid : ℕ) → spot_at spots uid ≡ None) → ((id : Bytes) → copies_at spots id ≡ [])
    → Keeps (record { me = me; moment = 0; next_uid = 1; items = items; cards = cards; weight = 0; spots = spots; ready = Unready }) []
begun me items cards spots no_items no_cards no_spots no_copies = record {
  rules = empty_keeps me;
  entries = record { items = sym no_items; cards = λ uid. ap (λ c. fin.get c uid) no_cards ∙ fin.get-empty nat_cmp uid };
  weight = refl;
  spots = record { spots = no_spots; copies = no_copies };
  room = tt;
}

rise_more : (low next more : ℕ) (entries : List Entry) → next ≤ more → RiseBelow low entries next → RiseBelow low entries more
rise_more low next more [] h r = (let k : low ≤ next = r in omega arith)
rise_more low next more (e ∷ es) h r = (r.0, rise_more (e.uid + 1) next more es h r.1)

pub uid_given : (m : Mailbox) → IsMailbox m → m.next_uid < end_of_uids → IsMailbox (record m { next_uid = m.next_uid + 1 })
uid_given m k room = record {
  moment = k.moment;
  uids = rise_more 1 m.next_uid (m.next_uid + 1) m.entries (omega arith) k.uids;
  next = omega arith;
  each = k.each;
  count_fits = k.count_fits;
  weight_fits = k.weight_fits;
}
