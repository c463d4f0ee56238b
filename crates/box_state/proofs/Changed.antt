-- The fields of a mailbox stand for it.
use Rattle.std.proofs.Common.{◌≡◌, sym, ap, subst, ◌-◌, List}
use Rattle.std.specs.Prelude.{vec_len, vec_capacity}
use Rattle.std.specs.FinMap as fin
use Rattle.mailbox_model.specs.Mailbox.{Mailbox, Entry, weights, IsMailbox}
use Rattle.box_state.specs.declared.mailbox.Mailbox.TheInside.{Inside}
use Rattle.box_state.specs.Inside.{mailbox_in, AreEntries, AreSpots, HasRoomFor, IsKept}
use Rattle.box_state.proofs.Entries.{rebuilt}

-- the mailbox of the plain fields and of these entries
abbrev pub mailbox_with : Inside → List Entry → Mailbox
mailbox_with a entries = record { me = a.me; now = a.moment; next_uid = a.next_uid; entries = entries }

-- the fields keep these entries
pub record Keeps (a : Inside) (es : List Entry) : Type 0 where
  pub rules : IsMailbox (mailbox_with a es)
  pub entries : AreEntries (mailbox_with a es) a.items.items (λ uid. fin.get a.cards.cards uid)
  pub weight : a.weight ≡ weights es
  pub spots : AreSpots (mailbox_with a es) a.spots
  pub room : HasRoomFor a.ready (vec_capacity a.items - vec_len a.items) a.cards a.spots

pub keeps : (a : Inside) → IsKept a → Keeps a (mailbox_in a).entries
keeps a k = record { rules = k.rules; entries = k.entries; weight = k.weight; spots = k.spots; room = k.room }

same_entries : (a : Inside) (entries : List Entry) → Keeps a entries → (mailbox_in a).entries ≡ entries
same_entries a entries k = rebuilt (mailbox_with a entries) a.items.items (λ uid. fin.get a.cards.cards uid) k.rules.uids k.entries

pub kept_as : (a : Inside) (entries : List Entry) → Keeps a entries → IsKept a
kept_as a entries k =
    let own = subst (λ es. Keeps a es) (sym (same_entries a entries k)) k in
    record { rules = own.rules; entries = own.entries; weight = own.weight; spots = own.spots; room = own.room }

pub mailbox_as : (a : Inside) (entries : List Entry) → Keeps a entries → mailbox_in a ≡ mailbox_with a entries
mailbox_as a entries k = ap (mailbox_with a) (same_entries a entries k)
