-- Walks over the frames of a log.
use Rattle.std.proofs.Common.{◌≡◌, inl, inr, ℕ, suc, ◌+◌, ◌-◌, ◌*◌, ◌<◌, ◌≤◌, List, length, take, drop, sym, ◌∙◌, ap, subst, arith, le-mul_of_pos_right}
use Rattle.std.proofs.lemmas.Bool.{cases_lt, cases_eq}
use Rattle.sqlite_wal.specs.Format.{part, commit_size, stored_sum, IsFrame}
use Rattle.sqlite_wal.specs.Recovery.{header, frames_len, frame_at, frame, sum_before, Passes}
use Rattle.sqlite_wal.proofs.FormatLemmas.{part_is}
use Rattle.sqlite_wal.proofs.PartLemmas.{frames_len-zero, frames_len-suc, frames_len-le, length-part}
use Rattle.wb_wal.specs.Look.{Has}
use Rattle.wb_wal.specs.helpers.Stop.{StandsAt, IsBehind}
use Rattle.wb_wal.specs.declared.frames.Stop.{Stop}

-- a log that has a frame has each before it
pub Has-less : (page : ℕ) (log : List ℕ) (i k : ℕ) → i ≤ k → Has page log k → Has page log i
Has-less page log i k low has =
    omega (arith, frames_len-le page i k low)

pub at-first : (page : ℕ) → frame_at page 0 ≡ 32
at-first page = omega (arith, frames_len-zero page)

pub at-next : (page i : ℕ) → frame_at page (suc i) ≡ frame_at page i + (24 + page)
at-next page i = omega (arith, frames_len-suc page i)

pub StandsAt-first : (page : ℕ) (log : List ℕ) (sum : ℕ × ℕ) → 32 ≤ length log → sum ≡ stored_sum (header log) 24
    → StandsAt page log (record { frame = 0; at = 32; sum = sum; first = 0; first_at = 32; first_sum = sum })
StandsAt-first page log sum long is = record {
  before = λ i h. absurd (omega (arith, h));
  place = sym (at-first page);
  within = long;
  sum = is;
  begins = record { order = omega arith; behind = λ i h. absurd (omega (arith, h)); one = λ i l h. absurd (omega (arith, h)) };
  first_place = sym (at-first page);
  first_sum = is;
}

pub passes-here : (page : ℕ) (log : List ℕ) (i : ℕ) → Has page log i → IsFrame (header log) (sum_before page log i) (frame page log i) → Passes page log i
passes-here page log i has passes = record { within = has; passes = passes }

pub StandsAt-more : (page : ℕ) (log : List ℕ) (stop next : Stop) → StandsAt page log stop → Has page log stop.frame
    → IsFrame (header log) stop.sum (frame page log stop.frame) → IsBehind stop (frame page log stop.frame) next → StandsAt page log next
StandsAt-more page log stop next s has passes b =
    let long : length (frame page log stop.frame) ≡ 24 + page = length-part log (frame_at page stop.frame) (24 + page) has in
    let number : next.frame ≡ suc stop.frame = omega (arith, b.number) in
    let place : next.at ≡ frame_at page next.frame = omega (arith, b.place, s.place, long, ap (frame_at page) number, at-next page stop.frame) in
    let frame-passes : IsFrame (header log) (sum_before page log stop.frame) (frame page log stop.frame) = rw s.sum at passes in
    let sum : next.sum ≡ sum_before page log next.frame = b.sum ∙ sym (ap (sum_before page log) number) in
    let all : (i : ℕ) → i < next.frame → Passes page log i =
    λ i h. elim (cases_eq i stop.frame) [
      | inl e ↦ subst (Passes page log) (sym e) (passes-here page log stop.frame has frame-passes)
      | inr n ↦ s.before i (omega (arith, n, h, number))
    ]
    in elim (cases_eq (commit_size (frame page log stop.frame)) 0) [
      | inl none ↦
          let firsts = b.stays none in record {
            before = all;
            place = place;
            within = omega (arith, place, has, ap (frame_at page) number, at-next page stop.frame);
            sum = sum;
            begins = record {
              order = omega (arith, firsts.0, s.begins.order, number);
              behind = λ i h. s.begins.behind i (h ∙ firsts.0);
              one = λ i l h. elim (cases_eq i stop.frame) [
                | inl e ↦ ap (λ j. commit_size (frame page log j)) e ∙ none
                | inr n ↦ s.begins.one i (omega (arith, l, firsts.0)) (omega (arith, n, h, number))
              ];
            };
            first_place = firsts.1 ∙ s.first_place ∙ ap (frame_at page) (sym firsts.0);
            first_sum = firsts.2 ∙ s.first_sum ∙ ap (sum_before page log) (sym firsts.0);
          }
      | inr some ↦
          let firsts = b.begins some in record {
            before = all;
            place = place;
            within = omega (arith, place, has, ap (frame_at page) number, at-next page stop.frame);
            sum = sum;
            begins = record {
              order = omega (arith, firsts.0);
              behind = λ i h none.
                  let same : i ≡ stop.frame = omega (arith, h, firsts.0, number) in
                  some (sym (ap (λ j. commit_size (frame page log j)) same) ∙ none);
              one = λ i l h. absurd (omega (arith, l, h, firsts.0));
            };
            first_place = firsts.1 ∙ place ∙ ap (frame_at page) (sym firsts.0);
            first_sum = firsts.2 ∙ sum ∙ ap (sum_before page log) (sym firsts.0);
          }
    ]

-- where the log has no more frames, each that it has passes
pub all-pass : (page : ℕ) (log : List ℕ) (stop : Stop) → StandsAt page log stop → length log < stop.at + (24 + page)
    → (i : ℕ) → Has page log i → Passes page log i
all-pass page log stop s none i has = elim (cases_lt i stop.frame) [
  | inl h ↦ s.before i h
  | inr h ↦ absurd (omega (arith, Has-less page log stop.frame i h has, none, s.place))
]

-- a frame's place is no less than its number
pub number-at : (page i : ℕ) → i ≤ frame_at page i
unfolding frames_len
number-at page i =
    let more : i ≤ i * (24 + page) = le-mul_of_pos_right i (omega arith) in
    omega (arith, more)

-- a part as code cuts it
pub cut : (log : List ℕ) (at n : ℕ) → take (at + n - at) (drop at log) ≡ part log at n
cut log at n =
    let same : at + n - at ≡ n = omega arith in
    ap (λ m. take m (drop at log)) same ∙ sym (part_is log at n)

-- all bytes of a frame
pub whole : (log found : List ℕ) (at n : ℕ) → at + n ≤ length log → found ≡ part log at n → length found ≡ n
whole log found at n has is = ap length is ∙ length-part log at n has

-- the frame where a walk stands
pub here : (page : ℕ) (log found : List ℕ) (stop : Stop) → StandsAt page log stop → (stop.at + (24 + page) ≤ length log) × (found ≡ part log stop.at (24 + page))
    → Has page log stop.frame × (found ≡ frame page log stop.frame)
here page log found stop s is =
    (omega (arith, is.0, s.place), is.1 ∙ ap (λ at. part log at (24 + page)) s.place)
