-- Changes and groups that are made one after the other.
use Rattle.std.proofs.Common.{◌≡◌, ℕ, zero, suc, ◌<◌, List, [], ◌∷◌, ◌++◌, length, take, drop, get_or, map, Bool, cond, Result, Ok, Err, inl, inr, refl, sym, ◌∙◌, ap, subst, arith, map-id}
use Rattle.std.proofs.lemmas.List.{map-append}
use Rattle.std.specs.List.{AllByRecursion}
use Rattle.std.proofs.lemmas.Bool.{cases_Bool}
use Rattle.mailbox_model.specs.declared.change.Change.{Change}
use Rattle.mailbox_model.specs.Mailbox.{Mailbox, after, after_all, full, AreAllowed, IsMailbox}
use Rattle.card_record.specs.Reading.{◌>>=◌}
use Rattle.state_image.specs.Changes.{FitsChange}
use Rattle.state_image.proofs.ChangeLaws.{valid_change}
use Rattle.tail_journal.specs.Groups.{Applied}
use Rattle.tail_journal.specs.Read.{applied_of, Fails, FitsApplied}
use Rattle.tail_journal.specs.declared.group.Group.{Group}
use Rattle.state_store.specs.States.{State}
use Rattle.state_store.specs.Stands.{made, after_group, after_groups, changes_in, ComesBy}
use Rattle.outside.specs.declared.faults.StateFault.{StateFault}
use Rattle.tail_journal.proofs.Steps.{fails_first}

-- ---- one item of a list

split_at : {X : Type 0} (all : List X) (n : ℕ) (x : X) → n < length all → x ≡ get_or all n x → all ≡ take n all ++ x ∷ drop (suc n) all
split_at [] n x less is = absurd (omega (arith, less))
split_at (y ∷ ys) zero x less is = ap (λ z. z ∷ ys) (sym is)
split_at (y ∷ ys) (suc n) x less is = ap (λ zs. y ∷ zs) (split_at ys n x (omega (arith, less)) is)

-- the next item that a loop takes, after those that it has taken
pub next_of : {X : Type 0} (all taken : List X) (x : X) → taken ≡ take (length taken) all → length taken < length all → x ≡ get_or all (length taken) x → all ≡ taken ++ x ∷ drop (suc (length taken)) all
next_of all taken x so_far less is = split_at all (length taken) x less is ∙ ap (λ xs. xs ++ x ∷ drop (suc (length taken)) all) (sym so_far)

pub all_at : {X : Type 0} (P : X → Type 0) (xs : List X) (x : X) (ys : List X) → AllByRecursion P (xs ++ x ∷ ys) → P x
all_at P [] x ys all = all.0
all_at P (z ∷ zs) x ys all = all_at P zs x ys all.1

-- ---- changes

-- changes, and then others
pub made_all : (m : Mailbox) (xs ys : List (ℕ × Change)) → made m (xs ++ ys) ≡ (made m xs >>= λ n. made n ys)
made_all m [] ys = refl
made_all m (x ∷ xs) ys = elim (cases_Bool (full m x.1)) [
  | inl lacks ↦
      ap (λ (b : Bool). cond b (Err x.0) (made (after m x.1) (xs ++ ys))) lacks
      ∙ sym (ap (λ (b : Bool). cond b (Err x.0) (made (after m x.1) xs) >>= λ n. made n ys) lacks)
  | inr has ↦
      ap (λ (b : Bool). cond b (Err x.0) (made (after m x.1) (xs ++ ys))) has ∙ made_all (after m x.1) xs ys
      ∙ sym (ap (λ (b : Bool). cond b (Err x.0) (made (after m x.1) xs) >>= λ n. made n ys) has)
]

-- Some changes are made, and this is the next of all.
module _ (start now : Mailbox) (all done : List (ℕ × Change)) (x : ℕ × Change) (so_far : made start done ≡ Ok now) where
  pub made_next : (next : Mailbox) → made now (x ∷ []) ≡ Ok next → made start (done ++ x ∷ []) ≡ Ok next
  made_next next is = made_all start done (x ∷ []) ∙ ap (λ (r : Result Mailbox ℕ). r >>= λ n. made n (x ∷ [])) so_far ∙ is

  pub made_no_more : (more : List (ℕ × Change)) → all ≡ done ++ x ∷ more → (why : StateFault) → Fails why (made now (x ∷ [])) → Fails why (made start all)
  made_no_more more is why fails =
      let here : made start all ≡ made now (x ∷ more) = ap (made start) is ∙ made_all start done (x ∷ more) ∙ ap (λ (r : Result Mailbox ℕ). r >>= λ n. made n (x ∷ more)) so_far in
      let all_fail = fails_first why (made now (x ∷ [])) (λ n. made n more) fails in
      subst (λ (r : Result Mailbox ℕ). Fails why r) (sym (here ∙ made_all now (x ∷ []) more)) all_fail

-- ---- groups

pub groups_all : (s : State) (xs ys : List Applied) → after_groups s (xs ++ ys) ≡ (after_groups s xs >>= λ t. after_groups t ys)
groups_all s [] ys = refl
groups_all s (x ∷ xs) ys = on_each (after_group s x) (λ t. groups_all t xs ys)
  where
    on_each : (r : Result State ℕ) → ((t : State) → after_groups t (xs ++ ys) ≡ (after_groups t xs >>= λ u. after_groups u ys))
        → (r >>= λ t. after_groups t (xs ++ ys)) ≡ ((r >>= λ t. after_groups t xs) >>= λ t. after_groups t ys)
    on_each (Ok t) all = all t
    on_each (Err at) all = refl

module _ (start now : State) (all done : List Applied) (x : Applied) (so_far : after_groups start done ≡ Ok now) where
  one_more : after_groups now (x ∷ []) ≡ (made now.mailbox x.changes >>= λ m. Ok (record { mailbox = m; position = x.position }))
  one_more = on_each (made now.mailbox x.changes)
    where
      on_each : (r : Result Mailbox ℕ) → ((r >>= λ m. Ok (record { mailbox = m; position = x.position })) >>= λ (t : State). Ok t) ≡ (r >>= λ m. Ok (record { mailbox = m; position = x.position }))
      on_each (Ok m) = refl
      on_each (Err at) = refl

  pub groups_next : (m : Mailbox) → made now.mailbox x.changes ≡ Ok m → after_groups start (done ++ x ∷ []) ≡ Ok (record { mailbox = m; position = x.position })
  groups_next m is =
      groups_all start done (x ∷ []) ∙ ap (λ (r : Result State ℕ). r >>= λ t. after_groups t (x ∷ [])) so_far
      ∙ one_more ∙ ap (λ (r : Result Mailbox ℕ). r >>= λ m. Ok (record { mailbox = m; position = x.position })) is

  pub groups_no_more : (more : List Applied) → all ≡ done ++ x ∷ more → (why : StateFault) → Fails why (made now.mailbox x.changes) → Fails why (after_groups start all)
  groups_no_more more is why fails =
      let here : after_groups start all ≡ after_groups now (x ∷ more) = ap (after_groups start) is ∙ groups_all start done (x ∷ more) ∙ ap (λ (r : Result State ℕ). r >>= λ t. after_groups t (x ∷ more)) so_far in
      let group_fails = fails_first why (made now.mailbox x.changes) (λ m. Ok (record { mailbox = m; position = x.position })) fails in
      let all_fail = fails_first why (after_group now x) (λ t. after_groups t more) group_fails in
      subst (λ (r : Result State ℕ). Fails why r) (sym here) all_fail

-- ---- groups as they are read

-- the next group, after those that a loop has taken
pub next_group : (items taken : List Group) (group : Group) → map (λ x. x) taken ≡ take (length taken) items → (length taken < length items) × (group ≡ get_or items (length taken) group)
    → map applied_of items ≡ map applied_of taken ++ applied_of group ∷ map applied_of (drop (suc (length taken)) items)
next_group items taken group so_far turn =
    ap (map applied_of) (next_of items taken group (sym (map-id taken) ∙ so_far) turn.0 turn.1)
    ∙ map-append applied_of taken (group ∷ drop (suc (length taken)) items)

pub group_fits : (items taken : List Group) (group : Group) → map (λ x. x) taken ≡ take (length taken) items → (length taken < length items) × (group ≡ get_or items (length taken) group)
    → AllByRecursion FitsApplied (map applied_of items) → FitsApplied (applied_of group)
group_fits items taken group so_far turn fit =
    all_at FitsApplied (map applied_of taken) (applied_of group) (map applied_of (drop (suc (length taken)) items))
    (subst (AllByRecursion FitsApplied) (next_group items taken group so_far turn) fit)

-- ---- what is made is allowed

allowed_on : (m : Mailbox) (xs ys : List Change) → AreAllowed m xs → AreAllowed (after_all m xs) ys → AreAllowed m (xs ++ ys)
allowed_on m [] ys first then = then
allowed_on m (x ∷ xs) ys first then = (first.0, first.1, allowed_on (after m x) xs ys first.2 then)

after_both : (m : Mailbox) (xs ys : List Change) → after_all m (xs ++ ys) ≡ after_all (after_all m xs) ys
after_both m [] ys = refl
after_both m (x ∷ xs) ys = after_both (after m x) xs ys

-- of two mailboxes, by changes
abbrev Leads : Mailbox → List Change → Mailbox → Type 0
Leads m changes n = AreAllowed m changes × (n ≡ after_all m changes)

made_leads : (m n : Mailbox) (xs : List (ℕ × Change)) → AllByRecursion (λ x. FitsChange x.1) xs → made m xs ≡ Ok n → Leads m (map (λ x. x.1) xs) n
made_leads m n [] fits is = let same : m ≡ n = cc in (tt, sym same)
made_leads m n (x ∷ xs) fits is = elim (cases_Bool (full m x.1)) [
  | inl lacks ↦ let none : Err x.0 ≡ Ok n = sym (ap (λ (b : Bool). cond b (Err x.0) (made (after m x.1) xs)) lacks) ∙ is in absurd (cc)
  | inr has ↦
      let rest = made_leads (after m x.1) n xs fits.1 (sym (ap (λ (b : Bool). cond b (Err x.0) (made (after m x.1) xs)) has) ∙ is) in
      ((valid_change x.1 fits.0, has, rest.0), rest.1)
]

groups_lead : (s t : State) (groups : List Applied) → AllByRecursion FitsApplied groups → after_groups s groups ≡ Ok t → Leads s.mailbox (changes_in groups) t.mailbox
groups_lead s t [] fit is = let same : s ≡ t = cc in (tt, ap (λ (x : State). x.mailbox) (sym same))
groups_lead s t (group ∷ more) fit is = by (made s.mailbox group.changes) refl is (λ next. groups_lead next t more fit.1)
  where
    held : List Change
    held = map (λ x. x.1) group.changes

    by : (r : Result Mailbox ℕ) → made s.mailbox group.changes ≡ r
        → ((r >>= λ m. Ok (record { mailbox = m; position = group.position })) >>= λ (next : State). after_groups next more) ≡ Ok t
        → ((next : State) → after_groups next more ≡ Ok t → Leads next.mailbox (changes_in more) t.mailbox)
        → Leads s.mailbox (held ++ changes_in more) t.mailbox
    by (Err at) e is others = absurd (cc)
    by (Ok m) e is others =
        let first = made_leads s.mailbox m group.changes fit.0.changes e in
        let rest = others (record { mailbox = m; position = group.position }) is in (
          allowed_on s.mailbox held (changes_in more) first.0 (subst (λ (n : Mailbox). AreAllowed n (changes_in more)) first.1 rest.0),
          rest.1 ∙ ap (λ (n : Mailbox). after_all n (changes_in more)) first.1 ∙ sym (after_both s.mailbox held (changes_in more)),
        )

pub comes_by : (begun s t : State) (groups : List Applied) → s ≡ begun → IsMailbox s.mailbox → AllByRecursion FitsApplied groups → after_groups s groups ≡ Ok t
    → ComesBy begun.mailbox (changes_in groups) t.mailbox
comes_by begun s t groups same rules fit is =
    let leads = groups_lead s t groups fit is in
    subst (λ (x : State). ComesBy x.mailbox (changes_in groups) t.mailbox) same (record { rules = rules; allowed = leads.0; is = leads.1 })
