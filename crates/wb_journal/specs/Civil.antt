-- The civil date and time of a moment, in UTC.
use Rattle.std.specs.Prelude.{◌≡◌, ◌≤◌, ◌<◌, ℕ, zero, suc, ◌+◌, ◌-◌, ◌*◌, ◌/◌, ◌%◌, nat_lt, if◌then◌else◌, pos}
use Rattle.jiff_core.specs.Calendar.{days_in_month, days_in_year, days_from_civil}
use Rattle.wb_journal.specs.declared.civil.Civil.{Civil}
use Rattle.wb_journal.specs.Moment.{day_of}

-- of a day counted from the beginning of a year, the year in which it lies, and its days counted from the beginning of
-- that year: whole years are counted off, at most so many
unfoldable pub year_of : ℕ → ℕ → ℕ → ℕ × ℕ
year_of zero year day = (year, day)
year_of (suc most) year day =
    if nat_lt day (days_in_year (pos year)) then (year, day) else year_of most (suc year) (day - days_in_year (pos year))

-- of a day counted from the beginning of a month, the month in which it lies, and its days counted from the beginning of
-- that month: whole months of the year are counted off, at most so many
unfoldable pub month_of : ℕ → ℕ → ℕ → ℕ → ℕ × ℕ
month_of zero year month day = (month, day)
month_of (suc most) year month day =
    if nat_lt day (days_in_month (pos year) month) then (month, day)
    else month_of most year (suc month) (day - days_in_month (pos year) month)

-- the date is found by counting off whole years from 1970, then whole months of the year; the clock shows the second of the day
unfoldable pub civil : ℕ → Civil
civil moment = record {
  year = year.0;
  month = month.0;
  day = month.1 + 1;
  hour = moment % 86400 / 3600;
  minute = moment % 86400 % 3600 / 60;
  second = moment % 86400 % 60;
}
  where
    year : ℕ × ℕ
    year = year_of (day_of moment) 1970 (day_of moment)

    month : ℕ × ℕ
    month = month_of 12 year.0 1 year.1

-- the calendar's day number of the date is the day of the moment, and the clock shows its second
pub record IsCivilOf (moment : ℕ) (c : Civil) : Type 0 where
  pub date : days_from_civil (pos c.year) c.month c.day ≡ pos (day_of moment)
  pub clock : c.hour * 3600 + c.minute * 60 + c.second ≡ moment % 86400

-- a date and time that the calendar and the clock have
pub record IsCivilTime (moment : ℕ) (c : Civil) : Type 0 where
  -- it is the moment's
  pub of_moment : IsCivilOf moment c
  pub first_year : 1970 ≤ c.year
  pub last_year : c.year ≤ 9999
  pub first_month : 1 ≤ c.month
  pub last_month : c.month ≤ 12
  pub first_day : 1 ≤ c.day
  pub last_day : c.day ≤ days_in_month (pos c.year) c.month
  pub hours : c.hour < 24
  pub minutes : c.minute < 60
  pub seconds : c.second < 60
