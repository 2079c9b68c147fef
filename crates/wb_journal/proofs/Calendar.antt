-- The calendar's date of a day is the one that is found by counting off years and months.
use Rattle.std.proofs.Common.{◌≡◌, ℕ, zero as nought, suc, ◌+◌, ◌-◌, ◌*◌, ◌/◌, ◌%◌, ◌≤◌, ◌<◌, Bool, true, false, cond, ℤ, pos, negsuc, ◌+ℤ◌, ◌*ℤ◌, refl, sym, ◌∙◌, ap, arith}
use Rattle.std.specs.Prelude.{nat_lt}
use Rattle.std.proofs.lemmas.Bool.Decides.{nat_tests}
use Rattle.std.proofs.lemmas.Int.{ints}
use Rattle.jiff_core.specs.Calendar.{IsCivilDate, IsYear, day_count, day_of_year, days_from_civil, days_in_month, days_in_year, days_of_months}
use Rattle.jiff_core.proofs.CalendarLemmas.{day_count-epoch, day_count-year_is, day_count-lt_year, day_count-day_of_year, day_count-next_year, days_from_civil-day_count, days_in_year_bounds, days_of_months_mono, days_of_months_more, days_of_months-zero}
use Rattle.jiff_core.proofs.DateLemmas.{civil as on_calendar}
use Rattle.jiff_core.proofs.DateTimeLemmas.{epoch_day-civil_nanos, civil_nanos-parts}
use Rattle.jiff_core.specs.declared.civil.datetime.DateTime.{DateTime}
use Rattle.jiff.specs.Words.{civil_nanos, epoch_day, time_nanos}
use Rattle.std.specs.Int.{int_div_euclid}
use Rattle.std.proofs.Math.IntN.{pos-*ℤ-pos, pos-+ℤ-pos}
use Rattle.wb_journal.specs.Civil.{IsCivilTime, civil, month_of, year_of}
use Rattle.wb_journal.specs.Moment.{day_of}
use Rattle.wb_journal.specs.declared.civil.Civil.{Civil}

-- a year that begins on a date's day or before it isn't later than the date's
not_later : (y Y m d : ℕ) → IsCivilDate (pos Y) m d → day_count (pos y) 1 1 ≤ day_count (pos Y) m d → y ≤ Y
not_later y Y m d is h = go (nat_lt Y y) refl
  where
    go : (b : Bool) → nat_lt Y y ≡ b → y ≤ Y
    go true e =
        let less : Y < y = grind (arith, nat_tests) in
        let before = day_count-lt_year (pos Y) m d (pos y) 1 1 is (omega arith) (omega (arith, ints)) in
        absurd (omega arith)
    go false e = grind (arith, nat_tests)

-- a year that the calendar has
is_year : (y Y m d : ℕ) → IsCivilDate (pos Y) m d → y ≤ Y → IsYear (pos y)
is_year y Y m d is h = let year : IsYear (pos Y) = is.0 in (omega (arith, ints), omega (arith, ints))

-- the year within which the date's day lies is the date's
year_here : (y rest Y m d : ℕ) → IsCivilDate (pos Y) m d → day_count (pos y) 1 1 + rest ≡ day_count (pos Y) m d → rest < days_in_year (pos y)
    → (y ≡ Y) × (rest ≡ day_of_year (pos Y) m d - 1)
year_here y rest Y m d is e h =
    let early : y ≤ Y = not_later y Y m d is (omega arith) in
    let same : pos Y ≡ pos y = day_count-year_is (pos y) (pos Y) m d (is_year y Y m d is early) is (omega arith) (omega arith) in
    let number : y ≡ Y = cc in
    let place = day_count-day_of_year (pos Y) m d is.2.0 in
    let first : day_count (pos y) 1 1 ≡ day_count (pos Y) 1 1 = ap (λ k. day_count (pos k) 1 1) number in
    (number, omega arith)

-- counting off whole years finds the year of a date, and its place in the year
pub year_of-date : (most y rest Y m d : ℕ) → IsCivilDate (pos Y) m d → day_count (pos y) 1 1 + rest ≡ day_count (pos Y) m d → rest ≤ most
    → year_of most y rest ≡ (Y, day_of_year (pos Y) m d - 1)
unfolding year_of
year_of-date nought y rest Y m d is e h =
    let bounds = days_in_year_bounds (pos y) in
    let here = year_here y rest Y m d is e (omega arith) in
    cc (here.0, here.1)
year_of-date (suc most) y rest Y m d is e h = go (λ p q. year_of-date most (suc y) (rest - days_in_year (pos y)) Y m d is p q) (nat_lt rest (days_in_year (pos y))) refl
  where
    Next : Type 0
    Next = day_count (pos (suc y)) 1 1 + (rest - days_in_year (pos y)) ≡ day_count (pos Y) m d → rest - days_in_year (pos y) ≤ most
        → year_of most (suc y) (rest - days_in_year (pos y)) ≡ (Y, day_of_year (pos Y) m d - 1)

    go : Next → (b : Bool) → nat_lt rest (days_in_year (pos y)) ≡ b
        → cond b (y, rest) (year_of most (suc y) (rest - days_in_year (pos y))) ≡ (Y, day_of_year (pos Y) m d - 1)
    go later true t =
        let here = year_here y rest Y m d is e (grind (arith, nat_tests)) in
        cc (here.0, here.1)
    go later false t =
        let past : days_in_year (pos y) ≤ rest = grind (arith, nat_tests) in
        let bounds = days_in_year_bounds (pos y) in
        let next = day_count-next_year (pos y) (pos (suc y)) (omega (arith, ints)) (omega (arith, ints)) in
        later (omega (arith, next)) (omega arith)

-- counting off whole months of the year finds the month of a date, and its day
pub month_of-date : (most y month rest m d : ℕ) → days_of_months (pos y) (month - 1) + rest + 1 ≡ day_of_year (pos y) m d
    → 1 ≤ month → month ≤ m → m ≤ month + most → 1 ≤ d → d ≤ days_in_month (pos y) m → month_of most y month rest ≡ (m, d - 1)
unfolding month_of
month_of-date nought y month rest m d e low early late first last =
    let same : month ≡ m = omega arith in
    let before : days_of_months (pos y) (month - 1) ≡ days_of_months (pos y) (m - 1) = ap (λ k. days_of_months (pos y) (k - 1)) same in
    let left : rest ≡ d - 1 = omega arith in
    cc (same, left)
month_of-date (suc most) y month rest m d e low early late first last =
    go (λ p q r s. month_of-date most y (suc month) (rest - days_in_month (pos y) month) m d p q r s first last) (nat_lt rest (days_in_month (pos y) month)) refl
  where
    more : days_of_months (pos y) month ≡ days_of_months (pos y) (month - 1) + days_in_month (pos y) month
    more = days_of_months_more (pos y) month low

    here : (b : Bool) → nat_lt month m ≡ b → nat_lt rest (days_in_month (pos y) month) ≡ true → (month ≡ m) × (rest ≡ d - 1)
    here true t u =
        let less : month < m = grind (arith, nat_tests) in
        let within : rest < days_in_month (pos y) month = grind (arith, nat_tests) in
        let mono = days_of_months_mono (pos y) month (m - 1) (omega arith) in
        absurd (omega (arith, more))
    here false t u =
        let above : m ≤ month = grind (arith, nat_tests) in
        let same : month ≡ m = omega arith in
        let before : days_of_months (pos y) (month - 1) ≡ days_of_months (pos y) (m - 1) = ap (λ k. days_of_months (pos y) (k - 1)) same in
        (same, omega arith)

    later : (b : Bool) → nat_lt month m ≡ b → days_in_month (pos y) month ≤ rest → suc month ≤ m
    later true t u = let less : month < m = grind (arith, nat_tests) in omega arith
    later false t u =
        let above : m ≤ month = grind (arith, nat_tests) in
        let same : month ≡ m = omega arith in
        let before : days_of_months (pos y) (month - 1) ≡ days_of_months (pos y) (m - 1) = ap (λ k. days_of_months (pos y) (k - 1)) same in
        let length : days_in_month (pos y) month ≡ days_in_month (pos y) m = ap (λ k. days_in_month (pos y) k) same in
        absurd (omega arith)

    Next : Type 0
    Next = days_of_months (pos y) (suc month - 1) + (rest - days_in_month (pos y) month) + 1 ≡ day_of_year (pos y) m d → 1 ≤ suc month → suc month ≤ m
        → m ≤ suc month + most → month_of most y (suc month) (rest - days_in_month (pos y) month) ≡ (m, d - 1)

    go : Next → (b : Bool) → nat_lt rest (days_in_month (pos y) month) ≡ b
        → cond b (month, rest) (month_of most y (suc month) (rest - days_in_month (pos y) month)) ≡ (m, d - 1)
    go onward true t = let is = here (nat_lt month m) refl t in cc (is.0, is.1)
    go onward false t =
        let past : days_in_month (pos y) month ≤ rest = grind (arith, nat_tests) in
        let next : suc month - 1 ≡ month = omega arith in
        let before : days_of_months (pos y) (suc month - 1) ≡ days_of_months (pos y) month = ap (λ k. days_of_months (pos y) k) next in
        onward (omega (arith, more, before)) (omega arith) (later (nat_lt month m) refl past) (omega arith)

-- a day number from 0 on is counted from 1970
counted : (y : ℤ) (m d day : ℕ) → days_from_civil y m d ≡ pos day → day_count (pos 1970) 1 1 + day ≡ day_count y m d
counted y m d day e = let parts = days_from_civil-day_count y m d in omega (arith, rw e at parts, day_count-epoch)

-- a date with a day number from 0 on lies in 1970 or later
year_from_1970 : (y : ℤ) (m d day : ℕ) → IsCivilDate y m d → days_from_civil y m d ≡ pos day → (Y : ℕ) × ((y ≡ pos Y) × (1970 ≤ Y))
year_from_1970 (pos Y) m d day is e = let from = counted (pos Y) m d day e in (Y, (refl, not_later 1970 Y m d is (omega arith)))
year_from_1970 (negsuc k) m d day is e =
    let from = counted (negsuc k) m d day e in
    let before = day_count-lt_year (negsuc k) m d (pos 1970) 1 1 is (omega arith) (omega (arith, ints)) in
    absurd (omega arith)

pub same_civil : (Y Y' m m' d d' h h' mi mi' s s' : ℕ) → Y ≡ Y' → m ≡ m' → d ≡ d' → h ≡ h' → mi ≡ mi' → s ≡ s'
    → ◌≡◌ {A = Civil} (record { year = Y; month = m; day = d; hour = h; minute = mi; second = s })
    (record { year = Y'; month = m'; day = d'; hour = h'; minute = mi'; second = s' })
same_civil Y Y' m m' d d' h h' mi mi' s s' e1 e2 e3 e4 e5 e6 = rw (e1, e2, e3, e4, e5, e6) refl

-- the date of a moment, counted off, is the one with its day number
civil-of_date : (moment Y m d h mi s : ℕ) → IsCivilDate (pos Y) m d → days_from_civil (pos Y) m d ≡ pos (day_of moment)
    → h * 3600 + mi * 60 + s ≡ moment % 86400 → h < 24 → mi < 60 → s < 60
    → civil moment ≡ record { year = Y; month = m; day = d; hour = h; minute = mi; second = s }
unfolding civil
civil-of_date moment Y m d h mi s is e clock hours minutes seconds =
    let from = counted (pos Y) m d (day_of moment) e in
    let years = year_of-date (day_of moment) 1970 (day_of moment) Y m d is from (omega arith) in
    let place : days_of_months (pos Y) (1 - 1) + (day_of_year (pos Y) m d - 1) + 1 ≡ day_of_year (pos Y) m d = first_month in
    let months = month_of-date 12 Y 1 (day_of_year (pos Y) m d - 1) m d place (omega arith) is.1.0 (omega (arith, is.1.1)) is.2.0 is.2.1 in
    let hour : moment % 86400 / 3600 ≡ h = omega arith in
    let minute : moment % 86400 % 3600 / 60 ≡ mi = omega arith in
    let second : moment % 86400 % 60 ≡ s = omega arith in
    rw (years, months) (same_civil _ _ _ _ _ _ _ _ _ _ _ _ refl refl (omega (arith, is.2.0)) hour minute second)
  where
    first_month : days_of_months (pos Y) (1 - 1) + (day_of_year (pos Y) m d - 1) + 1 ≡ day_of_year (pos Y) m d
    first_month = let none = days_of_months-zero (pos Y) in omega (arith, none, is.2.0)

to_nat : ℤ → ℕ
to_nat (pos n) = n
to_nat (negsuc n) = 0

-- the day number of a calendar's instant
day_number : (moment : ℕ) (at : DateTime) → civil_nanos at ≡ pos (moment * 1_000_000_000) → epoch_day at.date ≡ pos (moment / 86400)
day_number moment at e =
    let shrinks : (moment * 1_000_000_000) / 86_400_000_000_000 ≡ moment / 86400 = omega arith in
    epoch_day-civil_nanos at ∙ ap (λ n. int_div_euclid n (pos 86_400_000_000_000)) e ∙ ap pos shrinks

-- the nanoseconds of its day
nanos_of_day : (moment : ℕ) (at : DateTime) → civil_nanos at ≡ pos (moment * 1_000_000_000) → time_nanos at.time ≡ (moment % 86400) * 1_000_000_000
unfolding to_nat
nanos_of_day moment at e =
    let parts : pos (moment * 1_000_000_000) ≡ pos ((moment / 86400) * 86_400_000_000_000 + time_nanos at.time) =
    sym e ∙ civil_nanos-parts at ∙ ap (λ n. n *ℤ pos 86_400_000_000_000 +ℤ pos (time_nanos at.time)) (day_number moment at e)
    ∙ ap (λ n. n +ℤ pos (time_nanos at.time)) (pos-*ℤ-pos (moment / 86400) 86_400_000_000_000) ∙ pos-+ℤ-pos _ _ in
    let nat : moment * 1_000_000_000 ≡ (moment / 86400) * 86_400_000_000_000 + time_nanos at.time = ap to_nat parts in
    let n = time_nanos at.time in
    omega (arith, nat)

-- the second of its day
second_of_day : (moment s sub : ℕ) → s * 1_000_000_000 + sub ≡ (moment % 86400) * 1_000_000_000 → sub < 1_000_000_000 → s ≡ moment % 86400
second_of_day moment s sub e h = omega (arith, e, h)

-- the parts of a calendar's instant, as a civil time
abbrev pub parts_of : ℕ → DateTime → Civil
parts_of Y at = record { year = Y; month = at.date.month; day = at.date.day; hour = at.time.hour; minute = at.time.minute; second = at.time.second }

-- the calendar's instant is the civil time of the moment
pub civil-of_datetime : (moment : ℕ) (at : DateTime) → civil_nanos at ≡ pos (moment * 1_000_000_000)
    → (Y : ℕ) × ((at.date.year ≡ pos Y) × (IsCivilTime moment (parts_of Y at) × (civil moment ≡ parts_of Y at)))
civil-of_datetime moment at e =
    let number = day_number moment at e in
    let year = year_from_1970 at.date.year at.date.month at.date.day (moment / 86400) (on_calendar at.date) number in
    (year.0, (year.1.0, go at.date.year year.0 year.1.0 year.1.1 (on_calendar at.date) number))
  where
    clock : at.time.hour * 3600 + at.time.minute * 60 + at.time.second ≡ moment % 86400
    clock = second_of_day moment (at.time.hour * 3600 + at.time.minute * 60 + at.time.second) at.time.subsec_nanosecond (nanos_of_day moment at e) at.time.subsec_in

    go : (y : ℤ) (Y : ℕ) → y ≡ pos Y → 1970 ≤ Y → IsCivilDate y at.date.month at.date.day → days_from_civil y at.date.month at.date.day ≡ pos (moment / 86400)
        → IsCivilTime moment (parts_of Y at) × (civil moment ≡ parts_of Y at)
    go y Y same low is number =
        let is' : IsCivilDate (pos Y) at.date.month at.date.day = rw same at is in
        let number' : days_from_civil (pos Y) at.date.month at.date.day ≡ pos (moment / 86400) = rw same at number in
        let last : IsYear (pos Y) = is'.0 in (
          record {
            of_moment = record { date = number'; clock = clock };
            first_year = low;
            last_year = omega (arith, ints);
            first_month = is'.1.0;
            last_month = is'.1.1;
            first_day = is'.2.0;
            last_day = is'.2.1;
            hours = at.time.hour_in;
            minutes = at.time.minute_in;
            seconds = at.time.second_in;
          },
          civil-of_date moment Y at.date.month at.date.day at.time.hour at.time.minute at.time.second is' number' clock at.time.hour_in at.time.minute_in at.time.second_in,
        )
