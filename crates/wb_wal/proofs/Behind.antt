-- A walk over the frames from a stop on, for those behind the end of a commit.
use Rattle.std.proofs.Common.{◌≡◌, inl, inr, ℕ, suc, ◌+◌, ◌<◌, ◌≤◌, ◌↔◌, Bool, true, false, IsTrue, List, length, refl, sym, ◌∙◌, subst, arith}
use Rattle.std.proofs.lemmas.Bool.{cases_lt, cases_eq, false≢true}
use Rattle.sqlite_wal.specs.Format.{commit_size}
use Rattle.sqlite_wal.specs.Recovery.{frame_at, frame}
use Rattle.sqlite_wal.proofs.PartLemmas.{frames_len-le}
use Rattle.wb_wal.specs.Look.{Has, HasSalts, Commits, IsOfLastCommit, blank}
use Rattle.wb_wal.specs.helpers.Behind.{HasSeen, HasPassed}
use Rattle.wb_wal.proofs.Walk.{Has-less, at-next}

pub HasSeen-none : (page : ℕ) (log : List ℕ) (k at : ℕ) → at ≡ frame_at page k → at ≤ length log → HasSeen page log k at false
HasSeen-none page log k at place within = record {
  j = k;
  order = omega arith;
  place = place;
  within = within;
  yes = λ e. absurd (false≢true e);
  no = λ e i l h s. absurd (omega (arith, l, h));
  fine = λ a b l h e. absurd (omega (arith, l, h, e));
}

-- the next frame has the salts
pub HasSeen-salted : (page : ℕ) (log : List ℕ) (k at next : ℕ) (is : Bool) (s : HasSeen page log k at false) → Has page log s.j → next ≡ at + (24 + page)
    → HasSalts page log s.j → (IsTrue is ↔ Commits page log s.j) → HasSeen page log k next is
HasSeen-salted page log k at next is s has place salts ends =
    let none : (i : ℕ) → k ≤ i → i < s.j → HasSalts page log i → commit_size (frame page log i) ≡ 0 = s.no refl in record {
      j = suc s.j;
      order = omega (arith, s.order);
      place = omega (arith, place, s.place, at-next page s.j);
      within = omega (arith, place, s.place, has);
      yes = λ e. (s.j, s.order, omega arith, salts, ends.0 e);
      no = λ e i l h its. elim (cases_eq i s.j) [
        | inl same ↦ elim (cases_eq (commit_size (frame page log i)) 0) [
          | inl zero ↦ zero
          | inr some ↦ absurd (false≢true (sym e ∙ ends.1 (subst (Commits page log) same some)))
        ]
        | inr other ↦ none i l (omega (arith, h, other)) its
      ];
      fine = λ a b l h e its commits. elim (cases_eq b s.j) [
        | inl same ↦ absurd (commits (none a l (omega (arith, h, same)) its))
        | inr other ↦ s.fine a b l h (omega (arith, e, other)) its commits
      ];
    }

-- it doesn't
pub HasSeen-other : (page : ℕ) (log : List ℕ) (k at next : ℕ) (is : Bool) (s : HasSeen page log k at is) → Has page log s.j → next ≡ at + (24 + page)
    → (¬ HasSalts page log s.j) → HasSeen page log k next is
HasSeen-other page log k at next is s has place no' = record {
  j = suc s.j;
  order = omega (arith, s.order);
  place = omega (arith, place, s.place, at-next page s.j);
  within = omega (arith, place, s.place, has);
  yes = λ e. let seen = s.yes e in (seen.0, seen.1, omega (arith, seen.2), seen.3, seen.4);
  no = λ e i l h its. elim (cases_eq i s.j) [
    | inl same ↦ absurd (no' (subst (HasSalts page log) same its))
    | inr other ↦ s.no e i l (omega (arith, h, other)) its
  ];
  fine = λ a b l h e its commits. elim (cases_eq b s.j) [
    | inl same ↦ λ salts. no' (subst (HasSalts page log) same salts)
    | inr other ↦ s.fine a b l h (omega (arith, e, other)) its commits
  ];
}

-- the next frame has the salts and stands behind the end of a commit
pub HasSeen-behind : (page : ℕ) (log : List ℕ) (first k at : ℕ) (s : HasSeen page log k at true) → Has page log s.j → HasSalts page log s.j
    → at < frame_at page first + blank → ¬ IsOfLastCommit page log first k
HasSeen-behind page log first k at s has salts near last =
    let seen = s.yes refl in
    last seen.0 s.j seen.1 seen.2 (omega (arith, near, s.place)) has seen.3 seen.4 salts

-- there is no next frame
pub HasSeen-all : (page : ℕ) (log : List ℕ) (first k at : ℕ) (is : Bool) → HasSeen page log k at is → length log < at + (24 + page)
    → IsOfLastCommit page log first k
HasSeen-all page log first k at is s none i b l h near has = elim (cases_lt b s.j) [
  | inl low ↦ s.fine i b l h low
  | inr high ↦ absurd (omega (arith, Has-less page log s.j b high has, none, s.place))
]

-- the next frame begins behind the zeros
pub HasSeen-far : (page : ℕ) (log : List ℕ) (first k at : ℕ) (is : Bool) → HasSeen page log k at is → frame_at page first + blank ≤ at
    → IsOfLastCommit page log first k
HasSeen-far page log first k at is s far i b l h near has = elim (cases_lt b s.j) [
  | inl low ↦ s.fine i b l h low
  | inr high ↦ absurd (omega (arith, near, far, s.place, frames_len-le page s.j b high))
]

-- No frame was passed yet.
pub HasPassed-none : (IsSuch : ℕ → Type 0) (page : ℕ) (log : List ℕ) (first at : ℕ) → at ≡ frame_at page first → at ≤ length log → HasPassed IsSuch page log first at
HasPassed-none IsSuch page log first at place within = record {
  j = first;
  order = omega arith;
  place = place;
  within = within;
  none = λ i l h. absurd (omega (arith, l, h));
}

-- the next frame is no such one
pub HasPassed-more : (IsSuch : ℕ → Type 0) (page : ℕ) (log : List ℕ) (first at next : ℕ) (s : HasPassed IsSuch page log first at) → Has page log s.j
    → next ≡ at + (24 + page) → (¬ IsSuch s.j) → HasPassed IsSuch page log first next
HasPassed-more IsSuch page log first at next s has place other = record {
  j = suc s.j;
  order = omega (arith, s.order);
  place = omega (arith, place, s.place, at-next page s.j);
  within = omega (arith, place, s.place, has);
  none = λ i l h. elim (cases_eq i s.j) [
    | inl same ↦ subst (λ f. ¬ IsSuch f) (sym same) other
    | inr before ↦ s.none i l (omega (arith, h, before))
  ];
}

-- there is no next frame
pub HasPassed-all : (IsSuch : ℕ → Type 0) (page : ℕ) (log : List ℕ) (first at : ℕ) → HasPassed IsSuch page log first at → length log < at + (24 + page)
    → (j : ℕ) → first ≤ j → Has page log j → ¬ IsSuch j
HasPassed-all IsSuch page log first at s none j l has = elim (cases_lt j s.j) [
  | inl low ↦ s.none j l low
  | inr high ↦ absurd (omega (arith, Has-less page log s.j j high has, none, s.place))
]
