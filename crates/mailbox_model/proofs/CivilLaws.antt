-- `civil_date` gives the date that has the day number.
use Rattle.std.proofs.Common.{◌≡◌, ap, ℕ, zero, suc, ◌+◌, ◌-◌, ◌<◌, ◌≤◌, refl, inl, inr, arith, ℤ, pos}
use Rattle.std.proofs.lemmas.Bool.{cases_lt, cases_order}
use Rattle.std.proofs.lemmas.Bool.Decides.{leb_tells}
use Rattle.jiff_core.specs.declared.civil.date.Date.{Date}
use Rattle.jiff_core.specs.Calendar.{days_in_year, days_in_month, day_count, IsYear, IsCivilDate}
use Rattle.jiff_core.specs.Date.{epoch_day, IsYmd}
use Rattle.jiff_core.proofs.SignedLemmas.{signed_arith}
use Rattle.jiff_core.proofs.CalendarLemmas.{days_from_civil-day_count, day_count-epoch, day_count-end, day_count-next_year, day_count-later_year, day_count-year_is, day_count-next_month, day_count-lt_month, day_count-day, day_count_bounds, days_in_month_bounds, days_in_year_bounds}
use Rattle.jiff_core.proofs.DateLemmas.{civil}
use Rattle.mailbox_model.specs.Times.{span_and_rest, civil_date}

-- From the first span on, each has a day, and the next one starts where it ends.
pub record AreSpans (length_of start : ℕ → ℕ) (first : ℕ) : Type 0 where
  pub next : (k : ℕ) → first ≤ k → start (k + 1) ≡ start k + length_of k
  pub some : (k : ℕ) → first ≤ k → 1 ≤ length_of k

-- The day that comes so many days after the start of the first span is in the span `found.0`, with `found.1` days of it
-- before.
pub record LiesIn (length_of start : ℕ → ℕ) (first days : ℕ) (found : ℕ × ℕ) : Type 0 where
  pub same : start found.0 + found.1 ≡ start first + days
  pub within : found.1 < length_of found.0
  pub later : first ≤ found.0

span_and_rest_is : (length_of start : ℕ → ℕ) (more first days : ℕ) → days ≤ more → AreSpans length_of start first → LiesIn length_of start first days (span_and_rest more length_of first days)
unfolding span_and_rest
span_and_rest_is length_of start zero first days enough spans =
    record { same = refl; within = omega (arith, spans.some first (omega arith)); later = omega arith }
span_and_rest_is length_of start (suc more) first days enough spans =
    let here = spans.some first (omega arith) in
    elim (leb_tells (length_of first) days) [
      | inl (whole, le) ↦
          let on : AreSpans length_of start (first + 1) = record { next = λ k h. spans.next k (omega arith); some = λ k h. spans.some k (omega arith) } in
          let rest = span_and_rest_is length_of start more (first + 1) (days - length_of first) (omega arith) on in
          rw whole (record {
            same = omega (arith, rest.same, spans.next first (omega arith));
            within = rest.within;
            later = omega (arith, rest.later);
          })
      | inr (short, lt) ↦ rw short (record { same = refl; within = lt; later = omega arith })
    ]

are_years : AreSpans (λ y. days_in_year (pos y)) (λ y. day_count (pos y) 1 1) 1970
are_years = record {
  next = λ k h. day_count-next_year (pos k) (pos (k + 1)) (omega (arith, signed_arith)) (omega (arith, signed_arith));
  some = λ k h. omega (arith, days_in_year_bounds (pos k));
}

are_months : (y : ℕ) → AreSpans (days_in_month (pos y)) (λ m. day_count (pos y) m 1) 1
are_months y = record {
  next = λ m h. day_count-next_month (pos y) m h;
  some = λ m h. omega (arith, days_in_month_bounds (pos y) m);
}

day_count-epoch_day : (d : Date) (n : ℕ) → epoch_day d ≡ pos n → day_count d.year d.month d.day ≡ day_count (pos 1970) 1 1 + n
day_count-epoch_day d n day = omega (arith, signed_arith, days_from_civil-day_count d.year d.month d.day, day_count-epoch)

-- a year that begins no later than a date that the library has is one that it has too
year_in_range : (d : Date) (year : ℕ) → day_count (pos year) 1 1 ≤ day_count d.year d.month d.day → IsYear (pos year)
year_in_range d year began =
    elim (cases_lt 9999 year) [
      | inl late ↦
          let end = day_count-next_year (pos 9999) (pos 10000) (omega (arith, signed_arith)) refl in
          let after = day_count-later_year (pos 9999) (pos year) (omega (arith, signed_arith)) (omega (arith, signed_arith)) in
          absurd (omega (arith, day_count-end, day_count_bounds _ _ _ (civil d)))
      | inr le ↦ omega (arith, signed_arith)
    ]

-- the month and the day of a date that lies `left` days after the first of a month with more days than that
month_is : (y : ℤ) (m d month left : ℕ) → IsCivilDate y m d → 1 ≤ month → day_count y month 1 + left ≡ day_count y m d → left < days_in_month y month → (m ≡ month) × (d ≡ left + 1)
month_is y m d month left is first same within =
    elim (cases_order m month) [
      | inl e ↦
          let same_month = rw (← e) at same in
          (e, omega (arith, day_count-day y m 1 d (omega arith) is.2.0))
      | inr (inl lt) ↦ absurd (omega (arith, day_count-lt_month y m d month 1 is (omega arith) lt))
      | inr (inr gt) ↦
          let reached : IsCivilDate y month (left + 1) = (is.0, (omega arith, omega (arith, is.1)), (omega arith, omega arith)) in
          absurd (omega (arith, day_count-lt_month y month (left + 1) m d reached is.2.0 gt, day_count-day y month 1 (left + 1) (omega arith) (omega arith)))
    ]

-- the parts of a date that lies `left` days after the first of a year with more days than that
parts_are : (d : Date) (year left : ℕ) → day_count (pos year) 1 1 + left ≡ day_count d.year d.month d.day → left < days_in_year (pos year) → (d.year ≡ pos year) × (d.month ≡ (span_and_rest left (days_in_month (pos year)) 1 left).0) × (d.day ≡ (span_and_rest left (days_in_month (pos year)) 1 left).1 + 1)
parts_are d year left same within =
    let in_range = year_in_range d year (omega arith) in
    let year_is = day_count-year_is (pos year) d.year d.month d.day in_range (civil d) (omega arith) (omega arith) in
    let months = span_and_rest_is (days_in_month (pos year)) (λ m. day_count (pos year) m 1) left 1 left (omega arith) (are_months year) in
    let in_month = rw year_is at same in
    let day_is = month_is (pos year) d.month d.day _ _ (rw year_is at (civil d)) months.later (omega (arith, months.same)) months.within in
    (year_is, day_is.0, day_is.1)

pub civil_date_is : (d : Date) (n : ℕ) → epoch_day d ≡ pos n → IsYmd (pos (civil_date n).year) (pos (civil_date n).month) (pos (civil_date n).day) d
unfolding civil_date
civil_date_is d n day =
    let years = span_and_rest_is (λ y. days_in_year (pos y)) (λ y. day_count (pos y) 1 1) n 1970 n (omega arith) are_years in
    let parts = parts_are d _ _ (omega (arith, years.same, day_count-epoch_day d n day)) years.within in
    (parts.0, ap pos parts.1, ap pos parts.2)
