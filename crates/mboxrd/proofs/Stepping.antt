-- What each kind of byte does in each state.
use Rattle.std.proofs.Common.{◌≡◌, ◌≢◌, ℕ, zero, suc, ◌+◌, ◌<◌, codes, true, false, ◌&&◌, List, [], ◌∷◌, ◌++◌, length, take, subst, refl, sym, ap, ◌∙◌, append_assoc, arith}
use Rattle.std.proofs.lemmas.Bool.{and_parts, and_right, eq-eqb, ne_eqb, eqb-true, eqb-false, cond_both}
use Rattle.std.proofs.lemmas.List.{take_all}
use Rattle.std.specs.Prelude.{slice_index, ◌==◌, Option, Some, None}
use Rattle.memchr.specs.Find.{IsFirstByte, Nowhere, Passes, is_byte}
use Rattle.kit.specs.Lines.{put_before, raw_lines}
use Rattle.mboxrd.specs.Mails.{is_empty_line, begins_with_from, unquoted}
use Rattle.mboxrd.specs.Remaining.{Remaining, push, remaining, head_line, from_text}
use Rattle.mboxrd.specs.LineStates.{state_after, remaining_from, StepsTo, EndsWith, IsLineState, remaining_in, separator_may_follow, withheld_line}
use Rattle.mboxrd.specs.declared.line_state.Preceding.{Preceding}
use Rattle.mboxrd.specs.declared.line_state.Preceding.TheVariants.{Text, Nothing, EmptyLf, EmptyCrLf}
use Rattle.mboxrd.specs.declared.line_state.LineState.{LineState}
use Rattle.mboxrd.specs.declared.line_state.LineState.TheVariants.{Separator, Start, From, Quote, Cr, Inside}
use Rattle.mboxrd.proofs.GluedLines.{put_lf, put_glue, glue_glue, glue_from, settles, ends, not_empty, not_empty_cr, unquoted_other, unquoted_quote, unquoted_quotes, no_from}

pub start_lf : (c : Preceding) (ls : List (List ℕ)) → remaining_in (Start c) (put_before 10 ls) ≡ push (withheld_line c) (remaining_in (Start EmptyLf) ls)
start_lf Text ls = rw (put_lf ls) refl
start_lf Nothing ls = rw (put_lf ls) refl
start_lf EmptyLf ls = rw (put_lf ls) refl
start_lf EmptyCrLf ls = rw (put_lf ls) refl

pub start_cr : (c : Preceding) (ls : List (List ℕ)) → remaining_in (Start c) (put_before 13 ls) ≡ push (withheld_line c) (remaining_in Cr ls)
start_cr c ls = rw (put_glue 13 ls (λ e. absurd (omega arith)), and_right (separator_may_follow c) false refl) refl

pub start_quote : (c : Preceding) (ls : List (List ℕ)) → remaining_in (Start c) (put_before 62 ls) ≡ push (withheld_line c) (remaining_in (Quote 0) ls)
start_quote c ls = rw (put_glue 62 ls (λ e. absurd (omega arith)), and_right (separator_may_follow c) false refl) refl

pub start_from : (c : Preceding) (ls : List (List ℕ)) → separator_may_follow c ≡ true → remaining_in (Start c) (put_before 70 ls) ≡ remaining_in (From c 1) ls
start_from c ls may = rw (put_glue 70 ls (λ e. absurd (omega arith)), may) refl

pub start_other : (c : Preceding) (b : ℕ) (ls : List (List ℕ)) → b ≢ 10 → b ≢ 13 → b ≢ 62 → (separator_may_follow c ≡ true → b ≢ 70)
    → remaining_in (Start c) (put_before b ls) ≡ push (withheld_line c ++ (b ∷ [])) (remaining_in Inside ls)
start_other c b ls x y z from =
    rw (put_glue b ls x)
    (settles (separator_may_follow c) (withheld_line c) (b ∷ []) ls (record {
      separates = λ t. elim (separator_may_follow c) as (λ v. (v ≡ true → b ≢ 70) → (v && begins_with_from (b ∷ t)) ≡ false) [ true ↦ λ f. no_from 0 b t (omega arith) (f refl) | false ↦ λ f. refl ] from;
      filled = λ t. not_empty b t x y;
      kept = λ t. unquoted_other b t z;
    }))

pub from_next : (c : Preceding) (k b : ℕ) (ls : List (List ℕ)) → 0 < k → k < 4 → b ≡ slice_index from_text k
    → remaining_in (From c k) (put_before b ls) ≡ remaining_in (From c (k + 1)) ls
from_next c zero b ls low lt is = absurd (omega arith)
from_next c (suc zero) b ls low lt is = ap (λ x. remaining_in (From c 1) (put_before x ls)) is ∙ ap (remaining_in (From c 1)) (put_glue 114 ls (λ e. absurd (omega arith)))
from_next c (suc (suc zero)) b ls low lt is = ap (λ x. remaining_in (From c 2) (put_before x ls)) is ∙ ap (remaining_in (From c 2)) (put_glue 111 ls (λ e. absurd (omega arith)))
from_next c (suc (suc (suc zero))) b ls low lt is = ap (λ x. remaining_in (From c 3) (put_before x ls)) is ∙ ap (remaining_in (From c 3)) (put_glue 109 ls (λ e. absurd (omega arith)))
from_next c (suc (suc (suc (suc k)))) b ls low lt is = absurd (omega arith)

pub from_cut : (c : Preceding) (bs : List ℕ) → remaining_in (From c 4) (raw_lines (32 ∷ bs)) ≡ record { mail = []; rest = raw_lines (from_text ++ bs) }
from_cut c bs =
    let cut_there : List (List ℕ) → Remaining = λ r. record { mail = []; rest = r } in
    ap (remaining_in (From c 4)) (put_glue 32 (raw_lines bs) (λ e. absurd (omega arith))) ∙ ap cut_there (sym (glue_from (raw_lines bs)))

-- the first bytes of `From `, and another byte
from_filled : (k b : ℕ) (t : List ℕ) → 0 < k → is_empty_line (take k from_text ++ (b ∷ t)) ≡ false
from_filled zero b t low = absurd (omega arith)
from_filled (suc k) b t low = not_empty 70 (take k (codes "rom ") ++ (b ∷ t)) (λ e. absurd (omega arith)) (λ e. absurd (omega arith))

from_kept : (k b : ℕ) (t : List ℕ) → 0 < k → unquoted (take k from_text ++ (b ∷ t)) ≡ take k from_text ++ (b ∷ t)
from_kept zero b t low = absurd (omega arith)
from_kept (suc k) b t low = unquoted_other 70 (take k (codes "rom ") ++ (b ∷ t)) (λ e. absurd (omega arith))

pub from_lf : (c : Preceding) (k : ℕ) (ls : List (List ℕ)) → 0 < k → k < 5
    → remaining_in (From c k) (put_before 10 ls) ≡ push (withheld_line c ++ (take k from_text ++ (10 ∷ []))) (remaining_in (Start Text) ls)
from_lf c k ls low lt =
    rw (put_lf ls) (ends true (withheld_line c) (take k from_text ++ (10 ∷ [])) ls (no_from k 10 [] lt (lf_not k lt)) (from_filled k 10 [] low) (from_kept k 10 [] low))
  where
    lf_not : (k : ℕ) → k < 5 → 10 ≢ slice_index from_text k
    lf_not zero lt e = absurd (omega arith)
    lf_not (suc zero) lt e = absurd (omega arith)
    lf_not (suc (suc zero)) lt e = absurd (omega arith)
    lf_not (suc (suc (suc zero))) lt e = absurd (omega arith)
    lf_not (suc (suc (suc (suc zero)))) lt e = absurd (omega arith)
    lf_not (suc (suc (suc (suc (suc k))))) lt e = absurd (omega arith)

pub from_other : (c : Preceding) (k b : ℕ) (ls : List (List ℕ)) → 0 < k → k < 5 → b ≢ 10 → b ≢ slice_index from_text k
    → remaining_in (From c k) (put_before b ls) ≡ push (withheld_line c ++ (take k from_text ++ (b ∷ []))) (remaining_in Inside ls)
from_other c k b ls low lt ne is =
    ap (remaining_in (From c k)) (put_glue b ls ne) ∙ ap (remaining true (withheld_line c)) (glue_glue (take k from_text) (b ∷ []) ls) ∙
    (settles true (withheld_line c) (take k from_text ++ (b ∷ [])) ls (record {
      separates = λ t. rw (append_assoc (take k from_text) (b ∷ []) t) (no_from k b t lt is);
      filled = λ t. rw (append_assoc (take k from_text) (b ∷ []) t) (from_filled k b t low);
      kept = λ t. rw (append_assoc (take k from_text) (b ∷ []) t) (from_kept k b t low);
    }))

quote_filled : (t : List ℕ) → is_empty_line (62 ∷ t) ≡ false
quote_filled t = not_empty 62 t (λ e. absurd (omega arith)) (λ e. absurd (omega arith))

pub quote_quote : (ls : List (List ℕ)) → remaining_in (Quote 0) (put_before 62 ls) ≡ push (62 ∷ []) (remaining_in (Quote 0) ls)
quote_quote ls =
    let t = head_line ls in
    rw (
      put_glue 62 ls (λ e. absurd (omega arith)),
      not_empty 62 (62 ∷ t) (λ e. absurd (omega arith)) (λ e. absurd (omega arith)),
      not_empty 62 t (λ e. absurd (omega arith)) (λ e. absurd (omega arith)),
      unquoted_quotes t,
    ) refl

pub quote_next : (k b : ℕ) (ls : List (List ℕ)) → k < 4 → b ≡ slice_index from_text k
    → remaining_in (Quote k) (put_before b ls) ≡ remaining_in (Quote (k + 1)) ls
quote_next zero b ls lt is = ap (λ x. remaining_in (Quote 0) (put_before x ls)) is ∙ ap (remaining_in (Quote 0)) (put_glue 70 ls (λ e. absurd (omega arith)))
quote_next (suc zero) b ls lt is = ap (λ x. remaining_in (Quote 1) (put_before x ls)) is ∙ ap (remaining_in (Quote 1)) (put_glue 114 ls (λ e. absurd (omega arith)))
quote_next (suc (suc zero)) b ls lt is = ap (λ x. remaining_in (Quote 2) (put_before x ls)) is ∙ ap (remaining_in (Quote 2)) (put_glue 111 ls (λ e. absurd (omega arith)))
quote_next (suc (suc (suc zero))) b ls lt is = ap (λ x. remaining_in (Quote 3) (put_before x ls)) is ∙ ap (remaining_in (Quote 3)) (put_glue 109 ls (λ e. absurd (omega arith)))
quote_next (suc (suc (suc (suc k)))) b ls lt is = absurd (omega arith)

pub quote_done : (ls : List (List ℕ)) → remaining_in (Quote 4) (put_before 32 ls) ≡ push from_text (remaining_in Inside ls)
quote_done ls =
    ap (remaining_in (Quote 4)) (put_glue 32 ls (λ e. absurd (omega arith)))
    ∙ rw (quote_filled (from_text ++ head_line ls)) refl

-- `>`, the first bytes of `From `, and another byte
quote_kept : (k b : ℕ) (t : List ℕ) → k < 5 → b ≢ slice_index from_text k → (k ≡ 0 → b ≢ 62)
    → unquoted (62 ∷ (take k from_text ++ (b ∷ t))) ≡ 62 ∷ (take k from_text ++ (b ∷ t))
quote_kept zero b t lt ne z = rw (unquoted_quote (b ∷ t), ne_eqb b 62 (z refl), no_from 0 b t lt ne) refl
quote_kept (suc k) b t lt ne z = rw (unquoted_quote (take (suc k) from_text ++ (b ∷ t)), no_from (suc k) b t lt ne) refl

pub quote_lf : (k : ℕ) (ls : List (List ℕ)) → k < 5 → 10 ≢ slice_index from_text k
    → remaining_in (Quote k) (put_before 10 ls) ≡ push (62 ∷ (take k from_text ++ (10 ∷ []))) (remaining_in (Start Text) ls)
quote_lf k ls lt ne =
    rw (put_lf ls) (ends false [] (62 ∷ (take k from_text ++ (10 ∷ []))) ls refl (quote_filled (take k from_text ++ (10 ∷ []))) (quote_kept k 10 [] lt ne (λ z e. absurd (omega arith))))

pub quote_other : (k b : ℕ) (ls : List (List ℕ)) → k < 5 → b ≢ 10 → b ≢ slice_index from_text k → (k ≡ 0 → b ≢ 62)
    → remaining_in (Quote k) (put_before b ls) ≡ push (62 ∷ (take k from_text ++ (b ∷ []))) (remaining_in Inside ls)
quote_other k b ls lt ne is z =
    ap (remaining_in (Quote k)) (put_glue b ls ne) ∙ ap (remaining false []) (glue_glue (62 ∷ take k from_text) (b ∷ []) ls) ∙
    (settles false [] (62 ∷ (take k from_text ++ (b ∷ []))) ls (record {
      separates = λ t. refl;
      filled = λ t. quote_filled ((take k from_text ++ (b ∷ [])) ++ t);
      kept = λ t. rw (append_assoc (take k from_text) (b ∷ []) t) (quote_kept k b t lt is z);
    }))

pub cr_lf : (ls : List (List ℕ)) → remaining_in Cr (put_before 10 ls) ≡ remaining_in (Start EmptyCrLf) ls
cr_lf ls = rw (put_lf ls) refl

pub cr_other : (b : ℕ) (ls : List (List ℕ)) → b ≢ 10 → remaining_in Cr (put_before b ls) ≡ push (13 ∷ b ∷ []) (remaining_in Inside ls)
cr_other b ls ne =
    rw (put_glue b ls ne)
    (settles false [] (13 ∷ b ∷ []) ls (record { separates = λ t. refl; filled = λ t. not_empty_cr b t ne; kept = λ t. unquoted_other 13 (b ∷ t) (λ e. absurd (omega arith)) }))

pub inside_lf : (ls : List (List ℕ)) → remaining_in Inside (put_before 10 ls) ≡ push (10 ∷ []) (remaining_in (Start Text) ls)
inside_lf ls = rw (put_lf ls) refl

pub inside_other : (b : ℕ) (ls : List (List ℕ)) → b ≢ 10 → remaining_in Inside (put_before b ls) ≡ push (b ∷ []) (remaining_in Inside ls)
inside_other b ls ne = rw (put_glue b ls ne) refl

pub separator_lf : (ls : List (List ℕ)) → remaining_in Separator (put_before 10 ls) ≡ remaining_in (Start Text) ls
separator_lf ls = rw (put_lf ls) refl

pub separator_other : (b : ℕ) (ls : List (List ℕ)) → b ≢ 10 → remaining_in Separator (put_before b ls) ≡ remaining_in Separator ls
separator_other b ls ne = rw (put_glue b ls ne) refl

-- The forms in which the functions use these.
from_stays : (c : Preceding) (k b : ℕ) (ls : List (List ℕ)) → 0 < k → k < 5 → b ≢ slice_index from_text k
    → remaining_in (From c k) (put_before b ls) ≡ push (withheld_line c ++ (take k from_text ++ (b ∷ []))) (remaining_in (state_after b) ls)
from_stays c k b ls low lt is =
    let P : ℕ → Type 0 = λ x. remaining_in (From c k) (put_before x ls) ≡ push (withheld_line c ++ (take k from_text ++ (x ∷ []))) (remaining_in (Start Text) ls) in
    cond_both (b == 10) (Start Text) Inside (λ (s : LineState). remaining_in (From c k) (put_before b ls) ≡ push (withheld_line c ++ (take k from_text ++ (b ∷ []))) (remaining_in s ls))
    (λ e. subst P (sym (eqb-true b 10 e)) (from_lf c k ls low lt))
    (λ e. from_other c k b ls low lt (eqb-false b 10 e) is)

quote_stays : (k b : ℕ) (ls : List (List ℕ)) → k < 5 → b ≢ slice_index from_text k → (k ≡ 0 → b ≢ 62)
    → remaining_in (Quote k) (put_before b ls) ≡ push (62 ∷ (take k from_text ++ (b ∷ []))) (remaining_in (state_after b) ls)
quote_stays k b ls lt is z =
    let P : ℕ → Type 0 = λ x. x ≢ slice_index from_text k → remaining_in (Quote k) (put_before x ls) ≡ push (62 ∷ (take k from_text ++ (x ∷ []))) (remaining_in (Start Text) ls) in
    cond_both (b == 10) (Start Text) Inside (λ (s : LineState). remaining_in (Quote k) (put_before b ls) ≡ push (62 ∷ (take k from_text ++ (b ∷ []))) (remaining_in s ls))
    (λ e. subst P (sym (eqb-true b 10 e)) (quote_lf k ls lt) is)
    (λ e. quote_other k b ls lt (eqb-false b 10 e) is z)

after_is_line_state : (b : ℕ) → IsLineState (state_after b)
after_is_line_state b = cond_both (b == 10) (Start Text) Inside IsLineState (λ e. tt) (λ e. tt)

at : (state : LineState) (b c : ℕ) (added : List ℕ) (next : LineState) → b ≡ c → IsLineState next
    → ((ls : List (List ℕ)) → remaining_in state (put_before c ls) ≡ push added (remaining_in next ls)) → StepsTo state (b ∷ []) added (Some next)
unfolding remaining_from
at state b c added next is fine f = (fine, λ bs. ap (λ x. remaining_in state (put_before x (raw_lines bs))) is ∙ f (raw_lines bs))

pub steps_may : (c : Preceding) (b : ℕ) → (b == 70 && separator_may_follow c) ≡ true → StepsTo (Start c) (b ∷ []) [] (Some (From c 1))
steps_may c b h =
    let parts = and_parts (b == 70) (separator_may_follow c) h in
    at (Start c) b 70 [] (From c 1) (eqb-true b 70 parts.0) (omega arith, omega arith, parts.1) (λ ls. start_from c ls parts.1)

pub steps_start_lf : (c : Preceding) (b : ℕ) → b ≡ 10 → StepsTo (Start c) (b ∷ []) (withheld_line c) (Some (Start EmptyLf))
steps_start_lf c b is = at (Start c) b 10 (withheld_line c) (Start EmptyLf) is tt (start_lf c)

pub steps_start_cr : (c : Preceding) (b : ℕ) → b ≡ 13 → StepsTo (Start c) (b ∷ []) (withheld_line c) (Some Cr)
steps_start_cr c b is = at (Start c) b 13 (withheld_line c) Cr is tt (start_cr c)

pub steps_start_quote : (c : Preceding) (b : ℕ) → b ≡ 62 → StepsTo (Start c) (b ∷ []) (withheld_line c) (Some (Quote 0))
steps_start_quote c b is = at (Start c) b 62 (withheld_line c) (Quote 0) is (omega arith) (start_quote c)

pub steps_start_other : (c : Preceding) (b : ℕ) → b ≢ 10 → b ≢ 13 → b ≢ 62 → (b == 70 && separator_may_follow c) ≡ false → StepsTo (Start c) (b ∷ []) (withheld_line c ++ (b ∷ [])) (Some Inside)
steps_start_other c b x y z h = at (Start c) b b (withheld_line c ++ (b ∷ [])) Inside refl tt
    (λ ls. start_other c b ls x y z (λ m e. let both : (true && true) ≡ false = rw (eq-eqb b 70 e, m) at h in cc))

pub steps_from : (c : Preceding) (k b : ℕ) → IsLineState (From c k) → k ≢ 4 → b ≡ slice_index from_text k → StepsTo (From c k) (b ∷ []) [] (Some (From c (k + 1)))
unfolding remaining_from
steps_from c k b fine ne is = ((omega arith, omega arith, fine.2), λ bs. from_next c k b (raw_lines bs) fine.0 (omega arith) is)

pub steps_cut : (c : Preceding) (k b : ℕ) → k ≡ 4 → b ≡ slice_index from_text k → StepsTo (From c k) (b ∷ []) [] None
unfolding remaining_from
steps_cut c k b four is =
    let P : ℕ → Type 0 = λ x. (y : ℕ) → y ≡ slice_index from_text x → StepsTo (From c x) (y ∷ []) [] None in
    let Q : ℕ → Type 0 = λ y. StepsTo (From c 4) (y ∷ []) [] None in
    subst P (sym four) (λ y e. subst Q (sym e) (λ bs. from_cut c bs)) b is

pub steps_from_other : (c : Preceding) (k b : ℕ) → IsLineState (From c k) → b ≢ slice_index from_text k → StepsTo (From c k) (b ∷ []) (withheld_line c ++ (take k from_text ++ (b ∷ []))) (Some (state_after b))
steps_from_other c k b fine ne = at (From c k) b b (withheld_line c ++ (take k from_text ++ (b ∷ []))) (state_after b) refl (after_is_line_state b) (λ ls. from_stays c k b ls fine.0 fine.1 ne)

pub steps_quote : (k b : ℕ) → k < 5 → k ≢ 4 → b ≡ slice_index from_text k → StepsTo (Quote k) (b ∷ []) [] (Some (Quote (k + 1)))
unfolding remaining_from
steps_quote k b lt ne is = (omega arith, λ bs. quote_next k b (raw_lines bs) (omega arith) is)

pub steps_quote_done : (k b : ℕ) → k ≡ 4 → b ≡ slice_index from_text k → StepsTo (Quote k) (b ∷ []) from_text (Some Inside)
steps_quote_done k b four is =
    let P : ℕ → Type 0 = λ x. b ≡ slice_index from_text x → StepsTo (Quote x) (b ∷ []) from_text (Some Inside) in
    subst P (sym four) (λ e. at (Quote 4) b 32 from_text Inside e tt quote_done) is

pub steps_quotes : (k b : ℕ) → k ≡ 0 → b ≡ 62 → StepsTo (Quote k) (b ∷ []) (62 ∷ []) (Some (Quote 0))
steps_quotes k b none is =
    let P : ℕ → Type 0 = λ x. StepsTo (Quote x) (b ∷ []) (62 ∷ []) (Some (Quote 0)) in
    subst P (sym none) (at (Quote 0) b 62 (62 ∷ []) (Quote 0) is (omega arith) quote_quote)

pub steps_quote_other : (k b : ℕ) → k < 5 → b ≢ slice_index from_text k → (k ≡ 0 → b ≢ 62) → StepsTo (Quote k) (b ∷ []) (62 ∷ (take k from_text ++ (b ∷ []))) (Some (state_after b))
steps_quote_other k b lt ne z = at (Quote k) b b (62 ∷ (take k from_text ++ (b ∷ []))) (state_after b) refl (after_is_line_state b) (λ ls. quote_stays k b ls lt ne z)

pub steps_cr_lf : (b : ℕ) → b ≡ 10 → StepsTo Cr (b ∷ []) [] (Some (Start EmptyCrLf))
steps_cr_lf b is = at Cr b 10 [] (Start EmptyCrLf) is tt cr_lf

pub steps_cr_other : (b : ℕ) → b ≢ 10 → StepsTo Cr (b ∷ []) (13 ∷ b ∷ []) (Some Inside)
steps_cr_other b ne = at Cr b b (13 ∷ b ∷ []) Inside refl tt (λ ls. cr_other b ls ne)

-- bytes without LF, and the LF after them

inside_all : (l bs : List ℕ) → Nowhere (Passes (is_byte 10) l) 0 (length l) → remaining_from Inside (l ++ bs) ≡ push l (remaining_from Inside bs)
unfolding remaining_from
inside_all [] bs none = refl
inside_all (b ∷ l) bs none =
    inside_other b (raw_lines (l ++ bs)) (λ e. none 0 (omega arith) (omega arith) (eq-eqb b 10 e))
    ∙ ap (push (b ∷ [])) (inside_all l bs (λ k low high. none (suc k) (omega arith) (omega arith)))

inside_to : (l bs : List ℕ) (end : ℕ) → end < length l → Nowhere (Passes (is_byte 10) l) 0 end → slice_index l end ≡ 10
    → remaining_from Inside (take (suc end) l ++ bs) ≡ push (take (suc end) l) (remaining_from (Start Text) bs)
unfolding remaining_from
inside_to [] bs end lt none is = absurd (omega arith)
inside_to (b ∷ l) bs zero lt none is =
    let P : ℕ → Type 0 = λ x. remaining_in Inside (put_before x (raw_lines bs)) ≡ push (x ∷ []) (remaining_in (Start Text) (raw_lines bs)) in
    subst P (sym is) (inside_lf (raw_lines bs))
inside_to (b ∷ l) bs (suc end) lt none is =
    inside_other b (raw_lines (take (suc end) l ++ bs)) (λ e. none 0 (omega arith) (omega arith) (eq-eqb b 10 e))
    ∙ ap (push (b ∷ [])) (inside_to l bs end (omega arith) (λ k low high. none (suc k) (omega arith) (omega arith)) is)

separator_all : (l bs : List ℕ) → Nowhere (Passes (is_byte 10) l) 0 (length l) → remaining_from Separator (l ++ bs) ≡ remaining_from Separator bs
unfolding remaining_from
separator_all [] bs none = refl
separator_all (b ∷ l) bs none =
    separator_other b (raw_lines (l ++ bs)) (λ e. none 0 (omega arith) (omega arith) (eq-eqb b 10 e))
    ∙ separator_all l bs (λ k low high. none (suc k) (omega arith) (omega arith))

separator_to : (l bs : List ℕ) (end : ℕ) → end < length l → Nowhere (Passes (is_byte 10) l) 0 end → slice_index l end ≡ 10
    → remaining_from Separator (take (suc end) l ++ bs) ≡ remaining_from (Start Text) bs
unfolding remaining_from
separator_to [] bs end lt none is = absurd (omega arith)
separator_to (b ∷ l) bs zero lt none is =
    let P : ℕ → Type 0 = λ x. remaining_in Separator (put_before x (raw_lines bs)) ≡ remaining_in (Start Text) (raw_lines bs) in
    subst P (sym is) (separator_lf (raw_lines bs))
separator_to (b ∷ l) bs (suc end) lt none is =
    separator_other b (raw_lines (take (suc end) l ++ bs)) (λ e. none 0 (omega arith) (omega arith) (eq-eqb b 10 e))
    ∙ separator_to l bs end (omega arith) (λ k low high. none (suc k) (omega arith) (omega arith)) is

pub steps_inside : (l : List ℕ) (r : Option ℕ) → IsFirstByte (is_byte 10) l r → r ≡ None → StepsTo Inside l l (Some Inside)
steps_inside l r first is = let none = subst (IsFirstByte (is_byte 10) l) is first in (tt, λ bs. inside_all l bs none)

pub steps_inside_line : (l : List ℕ) (r : Option ℕ) (end : ℕ) → IsFirstByte (is_byte 10) l r → r ≡ Some end
    → StepsTo Inside (take (end + 1) l) (take (end + 1) l) (Some (Start Text))
steps_inside_line l r end first is =
    let at = subst (IsFirstByte (is_byte 10) l) is first in
    let e : suc end ≡ end + 1 = omega arith in (
      tt,
      λ bs. ap (λ k. remaining_from Inside (take k l ++ bs)) (sym e) ∙ inside_to l bs end at.0.high at.0.before (eqb-true (slice_index l end) 10 at.1)
          ∙ ap (λ k. push (take k l) (remaining_from (Start Text) bs)) e,
    )

pub steps_separator : (l : List ℕ) (r : Option ℕ) → IsFirstByte (is_byte 10) l r → r ≡ None → StepsTo Separator (take (length l) l) [] (Some Separator)
steps_separator l r first is =
    let none = subst (IsFirstByte (is_byte 10) l) is first in
    (tt, λ bs. ap (λ z. remaining_from Separator (z ++ bs)) (take_all (length l) l (omega arith)) ∙ separator_all l bs none)

pub steps_separator_line : (l : List ℕ) (r : Option ℕ) (end : ℕ) → IsFirstByte (is_byte 10) l r → r ≡ Some end
    → StepsTo Separator (take (end + 1) l) [] (Some (Start Text))
steps_separator_line l r end first is =
    let at = subst (IsFirstByte (is_byte 10) l) is first in
    let e : suc end ≡ end + 1 = omega arith in
    (tt, λ bs. ap (λ k. remaining_from Separator (take k l ++ bs)) (sym e) ∙ separator_to l bs end at.0.high at.0.before (eqb-true (slice_index l end) 10 at.1))

-- what is withheld at the end
pub from_end : (c : Preceding) (k : ℕ) → 0 < k → k < 5 → EndsWith (From c k) (withheld_line c ++ take k from_text)
unfolding remaining_from
from_end c zero low lt = absurd (omega arith)
from_end c (suc zero) low lt = refl
from_end c (suc (suc zero)) low lt = refl
from_end c (suc (suc (suc zero))) low lt = refl
from_end c (suc (suc (suc (suc zero)))) low lt = refl
from_end c (suc (suc (suc (suc (suc k))))) low lt = absurd (omega arith)

pub quote_end : (k : ℕ) → k < 5 → EndsWith (Quote k) (62 ∷ take k from_text)
unfolding remaining_from
quote_end zero lt = refl
quote_end (suc zero) lt = refl
quote_end (suc (suc zero)) lt = refl
quote_end (suc (suc (suc zero))) lt = refl
quote_end (suc (suc (suc (suc zero)))) lt = refl
quote_end (suc (suc (suc (suc (suc k))))) lt = absurd (omega arith)

pub separator_end : EndsWith Separator []
unfolding remaining_from
separator_end = refl

pub start_end : (c : Preceding) → EndsWith (Start c) []
unfolding remaining_from
start_end c = refl

pub inside_end : EndsWith Inside []
unfolding remaining_from
inside_end = refl

pub cr_end : EndsWith Cr (13 ∷ [])
unfolding remaining_from
cr_end = refl
