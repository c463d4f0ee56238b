-- What the calls since a sync may leave keeps the disk model.
use Rattle.std.proofs.Common.{◌≡◌, ◌≢◌, ℕ, ◌<◌, ◌≤◌, List, [], ◌∷◌, length, slice_get, refl, ◌∙◌, ap, arith}
use Rattle.outside.specs.declared.shelf.Place.{Place}
use Rattle.outside.specs.declared.shelf.Place.TheVariants.{A, B, T}
use Rattle.outside.specs.Places.{Places, content, Changes, OthersStay}
use Rattle.outside.specs.Unsynced.{Unsynced, Write, Cut, Leaves, IsUnwritten, IsUncut, least_size, greatest_size, KeepsModel}
use Rattle.outside.proofs.Bytewise.{torn_get, front_get, uncut_get, same_within}

others_stay : (synced : List ℕ) (calls : List Unsynced) (c : List ℕ) (i : ℕ) → Leaves synced calls c → i < length c → IsUnwritten i calls → slice_get c i ≡ slice_get synced i
others_stay synced [] c i is lt unwritten = ap (λ (l : List ℕ). slice_get l i) is
others_stay synced (Write at n ∷ calls) c i (d, left, torn) lt (outside, unwritten) =
    let same = torn_get at n d c i torn outside in
    same ∙ others_stay synced calls d i left (same_within c d i same lt) unwritten
others_stay synced (Cut n ∷ calls) c i (d, left, cut) lt unwritten =
    front_get n d c i cut lt ∙ others_stay synced calls d i left (omega (arith, lt, cut.no_longer)) unwritten

pub uncut_stay : (synced : List ℕ) (calls : List Unsynced) (c : List ℕ) (i : ℕ) → Leaves synced calls c → IsUnwritten i calls → IsUncut i calls → slice_get c i ≡ slice_get synced i
uncut_stay synced [] c i is unwritten uncut = ap (λ (l : List ℕ). slice_get l i) is
uncut_stay synced (Write at n ∷ calls) c i (d, left, torn) (outside, unwritten) uncut =
    torn_get at n d c i torn outside ∙ uncut_stay synced calls d i left unwritten uncut
uncut_stay synced (Cut n ∷ calls) c i (d, left, cut) unwritten (before, uncut) =
    uncut_get n d c i cut before ∙ uncut_stay synced calls d i left unwritten uncut

no_shorter : (synced : List ℕ) (calls : List Unsynced) (c : List ℕ) → Leaves synced calls c → least_size (length synced) calls ≤ length c
no_shorter synced [] c is = omega (arith, ap length is)
no_shorter synced (Write at n ∷ calls) c (d, left, torn) = omega (arith, no_shorter synced calls d left, torn.no_shorter)
no_shorter synced (Cut n ∷ calls) c (d, left, cut) = omega (arith, no_shorter synced calls d left, cut.no_shorter)

no_longer : (synced : List ℕ) (calls : List Unsynced) (c : List ℕ) → Leaves synced calls c → length c ≤ greatest_size (length synced) calls
no_longer synced [] c is = omega (arith, ap length is)
no_longer synced (Write at n ∷ calls) c (d, left, torn) = omega (arith, no_longer synced calls d left, torn.no_longer)
no_longer synced (Cut n ∷ calls) c (d, left, cut) = omega (arith, no_longer synced calls d left, cut.no_longer)

pub keeps_model : (synced : List ℕ) (calls : List Unsynced) (c : List ℕ) → Leaves synced calls c → KeepsModel synced calls c
keeps_model synced calls c left = record {
  others_stay = λ i lt unwritten. others_stay synced calls c i left lt unwritten;
  no_shorter = no_shorter synced calls c left;
  no_longer = no_longer synced calls c left;
}

-- what happens to the content of the place that is called
pub changed_at : (place : Place) (change : List ℕ → List ℕ → Type 0) (d c : Places) → Changes place change d c → change (content d place) (content c place)
changed_at A change d c h = h.0
changed_at B change d c h = h.1
changed_at T change d c h = h.2

-- and to that of another one
pub other_at : (called place : Place) (d c : Places) → place ≢ called → OthersStay called d c → content c place ≡ content d place
other_at A A d c other h = absurd (other refl)
other_at A B d c other h = h.0
other_at A T d c other h = h.1
other_at B A d c other h = h.0
other_at B B d c other h = absurd (other refl)
other_at B T d c other h = h.1
other_at T A d c other h = h.0
other_at T B d c other h = h.1
other_at T T d c other h = absurd (other refl)
