-- A walk over the frames of a commit that counts.
use Rattle.std.proofs.Common.{◌≡◌, ◌≢◌, ◌⊎◌, inl, inr, ℕ, suc, ◌+◌, ◌<◌, ◌≤◌, ◌↔◌, List, length, sym, ◌∙◌, ap, ap₂, subst, subst₂, arith, add-zero}
use Rattle.std.proofs.lemmas.Bool.{cases_lt, cases_eq}
use Rattle.sqlite_wal.specs.Format.{part, zeros, content, commit_size, page_number, count_page}
use Rattle.sqlite_wal.specs.Recovery.{header, frame_at, frame, sum_before}
use Rattle.wb_wal.specs.Look.{Has, IsSealed, IsSealedAt, HasLost, MayHaveLost, lack, said, found, found_in, right_sum, sum_after}
use Rattle.wb_wal.specs.helpers.Commit.{left_of, left_after, HasBegun, GoesOn, EndsLost, IsFound, StandsIn}
use Rattle.wb_wal.specs.declared.commit.Commit.{Commit}
use Rattle.wb_wal.proofs.Counts.{left-none, none-left, left-zero, zero-left, left-more}
use Rattle.wb_wal.proofs.Walk.{Has-less, at-next}

pub IsFound-first : (page : ℕ) (log : List ℕ) (first : ℕ) (commit : Commit) → HasBegun (header log) (sum_before page log first) (frame page log first) commit
    → IsFound page log first 0 commit
unfolding found right_sum
IsFound-first page log first commit b =
    let same : frame page log (first + 0) ≡ frame page log first = ap (frame page log) (add-zero first) in
    record {
      left = b.left;
      sum = b.sum;
      right = (
        λ yes' i low.
            let none : i ≡ 0 = omega (arith, low) in
            subst (IsSealedAt page log first) (sym none) (subst₂ (IsSealed (header log)) b.sum (sym same) (b.right.0 yes')),
        λ all. b.right.1 (subst₂ (IsSealed (header log)) (sym b.sum) same (all 0 (omega arith))),
      );
    }

pub IsFound-more : (page : ℕ) (log : List ℕ) (first n : ℕ) (commit next : Commit) → IsFound page log first n commit
    → GoesOn (header log) commit (frame page log (first + suc n)) next → IsFound page log first (suc n) next
unfolding found right_sum
IsFound-more page log first n commit next f g =
    let more = zeros (content (frame page log (first + suc n))) + lack (page_number (frame page log (first + suc n))) in
    let sum = g.sum ∙ ap (λ s. sum_after (header log) s (part (frame page log (first + suc n)) 0 8) (frame page log (first + suc n))) f.sum in
    record {
      left = g.left ∙ ap (λ l. left_after l more) f.left ∙ left-more (said page log first) (found page log first n) more;
      sum = sum;
      right = (
        λ yes' i low. elim (cases_eq i (suc n)) [
          | inl e ↦ subst (IsSealedAt page log first) (sym e) (subst (λ s. IsSealed (header log) s (frame page log (first + suc n))) sum (g.right.0 yes').1)
          | inr other ↦ f.right.0 (g.right.0 yes').0 i (omega (arith, low, other))
        ],
        λ all. g.right.1 (f.right.1 (λ i low. all i (omega (arith, low))), subst (λ s. IsSealed (header log) s (frame page log (first + suc n))) (sym sum) (all (suc n) (omega arith))),
      );
    }

pub StandsIn-first : (page : ℕ) (log : List ℕ) (first at : ℕ) (bytes : List ℕ) (before : ℕ × ℕ) (commit : Commit) → at ≡ frame_at page first → Has page log first
    → bytes ≡ frame page log first → before ≡ sum_before page log first → HasBegun (header log) before bytes commit → StandsIn page log first at bytes commit
StandsIn-first page log first at bytes before commit place has is sum b = record {
  n = 0;
  place = place ∙ ap (frame_at page) (sym (add-zero first));
  has = subst (Has page log) (sym (add-zero first)) has;
  bytes_are = is ∙ ap (frame page log) (sym (add-zero first));
  one = λ i h. absurd (omega (arith, h));
  found_so_far = IsFound-first page log first commit (subst₂ (λ s f. HasBegun (header log) s f commit) sum is b);
}

pub StandsIn-more : (page : ℕ) (log : List ℕ) (first at next_at : ℕ) (bytes next_bytes : List ℕ) (commit next : Commit) (s : StandsIn page log first at bytes commit)
    → commit_size bytes ≡ 0 → next_at ≡ at + (24 + page) → next_at + (24 + page) ≤ length log → next_bytes ≡ part log next_at (24 + page)
    → GoesOn (header log) commit next_bytes next → StandsIn page log first next_at next_bytes next
StandsIn-more page log first at next_at bytes next_bytes commit next s ends step within is g =
    let number : suc (first + s.n) ≡ first + suc s.n = omega arith in
    let place : next_at ≡ frame_at page (first + suc s.n) = omega (arith, step, s.place, at-next page (first + s.n), ap (frame_at page) number) in
    let same : next_bytes ≡ frame page log (first + suc s.n) = is ∙ ap (λ a. part log a (24 + page)) place in
    record {
      n = suc s.n;
      place = place;
      has = omega (arith, place, within);
      bytes_are = same;
      one = λ i h. elim (cases_eq i s.n) [
        | inl e ↦ ap (λ j. commit_size (frame page log (first + j))) e ∙ sym (ap commit_size s.bytes_are) ∙ ends
        | inr other ↦ s.one i (omega (arith, h, other))
      ];
      found_so_far = IsFound-more page log first s.n commit next s.found_so_far (subst (λ f. GoesOn (header log) commit f next) same g);
    }

abbrev pub Counts : ℕ → List ℕ → ℕ → Type 0
Counts page log first = (page_number (frame page log first) ≡ count_page) ⊎ (page_number (frame page log first) ≡ 0)

-- the frames end before the commit does
pub unended : (page : ℕ) (log : List ℕ) (first at : ℕ) (bytes : List ℕ) (commit : Commit) → StandsIn page log first at bytes commit → commit_size bytes ≡ 0
    → length log < at + (24 + page) + (24 + page) → Counts page log first → MayHaveLost page log first
unended page log first at bytes commit s ends none counts = record {
  counts = counts;
  lost = λ n c. elim (cases_lt n s.n) [
    | inl low ↦ absurd (c.ends (s.one n low))
    | inr high ↦ elim (cases_eq n s.n) [
      | inl e ↦ absurd (c.ends (ap (λ j. commit_size (frame page log (first + j))) e ∙ sym (ap commit_size s.bytes_are) ∙ ends))
      | inr other ↦
          let more : suc (first + s.n) ≤ first + n = omega (arith, high, other) in
          absurd (omega (arith, Has-less page log (suc (first + s.n)) (first + n) more c.within, at-next page (first + s.n), s.place, none))
    ]
  ];
}

-- the commit ends with the frame where the walk stands
pub ended : (page : ℕ) (log : List ℕ) (first at : ℕ) (bytes : List ℕ) (commit : Commit) → StandsIn page log first at bytes commit → commit_size bytes ≢ 0
    → Counts page log first → EndsLost commit bytes ↔ MayHaveLost page log first
ended page log first at bytes commit s ends counts =
    let last : commit_size (frame page log (first + s.n)) ≢ 0 = λ none. ends (ap commit_size s.bytes_are ∙ none) in
    let left : left_after commit.left (lack (commit_size bytes)) ≡ left_of (said page log first) (found_in page log first s.n) =
    ap₂ left_after s.found_so_far.left (ap (λ b. lack (commit_size b)) s.bytes_are) ∙ left-more (said page log first) (found page log first s.n) _ in
    let lost : EndsLost commit bytes ↔ HasLost page log first s.n = (
      λ e. elim e [
        | inl none ↦ inl (left-none _ _ (sym left ∙ none))
        | inr both ↦ inr (left-zero _ _ (sym left ∙ both.0), s.found_so_far.right.0 both.1)
      ],
      λ h. elim h [
        | inl less ↦ inl (left ∙ none-left _ _ less)
        | inr both ↦ inr (left ∙ zero-left _ _ both.0, s.found_so_far.right.1 both.1)
      ],
    ) in (
      λ e. record {
        counts = counts;
        lost = λ n c. elim (cases_lt n s.n) [
          | inl low ↦ absurd (c.ends (s.one n low))
          | inr high ↦ elim (cases_eq n s.n) [
            | inl same ↦ subst (HasLost page log first) (sym same) (lost.0 e)
            | inr other ↦ absurd (last (c.one s.n (omega (arith, high, other))))
          ]
        ];
      },
      λ may'. lost.1 (may'.lost s.n (record { within = s.has; ends = last; one = s.one })),
    )
