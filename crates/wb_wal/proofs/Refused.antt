-- What the look takes and refuses.
use Rattle.std.proofs.Common.{◌≡◌, inl, inr, ℕ, suc, pred, ◌<◌, ◌≤◌, List, arith}
use Rattle.std.proofs.lemmas.Bool.{cases_lt}
use Rattle.wb_wal.specs.Look.{Begins, HasHeader, HoldsNothing, IsDamaged, IsRefused, MayStop, page_size}
use Rattle.wb_wal.specs.declared.rules.Refusal.{Refusal}

-- a commit has one first frame
pub one-first : (page : ℕ) (log : List ℕ) (a b k : ℕ) → Begins page log a k → Begins page log b k → ¬ (a < b)
one-first page log a b k first second less =
    let last : suc (pred b) ≡ b = omega (arith, less) in
    second.behind (pred b) last (first.one (pred b) (omega (arith, less)) (omega (arith, less, second.order)))

pub same-first : (page : ℕ) (log : List ℕ) (a b k : ℕ) → Begins page log a k → Begins page log b k → a ≡ b
same-first page log a b k first second = elim (cases_lt a b) [
  | inl less ↦ absurd (one-first page log a b k first second less)
  | inr more ↦ elim (cases_lt b a) [
    | inl less ↦ absurd (one-first page log b a k second first less)
    | inr same ↦ omega (arith, more, same)
  ]
]

-- one frame is the first that is damaged
pub one-damaged : (page : ℕ) (log : List ℕ) (a b : ℕ) → IsDamaged page log a → IsDamaged page log b → ¬ (a < b)
one-damaged page log a b first second less = first.fails (second.before a less).passes

pub same-damaged : (page : ℕ) (log : List ℕ) (a b : ℕ) → IsDamaged page log a → IsDamaged page log b → a ≡ b
same-damaged page log a b first second = elim (cases_lt a b) [
  | inl less ↦ absurd (one-damaged page log a b first second less)
  | inr more ↦ elim (cases_lt b a) [
    | inl less ↦ absurd (one-damaged page log b a second first less)
    | inr same ↦ omega (arith, more, same)
  ]
]

-- a log that holds nothing isn't refused beside a file
pub nothing-refused : (file : ℕ) (log : List ℕ) → 0 < file → HoldsNothing log → (refusal : Refusal) → ¬ IsRefused file log refusal
nothing-refused file log some none Refusal.File is = elim is [
  | inl missing ↦ omega (arith, missing.0, some)
  | inr cut ↦ cut.0.1 none
]
nothing-refused file log some none Refusal.Header is = is.0.1 none
nothing-refused file log some none (Refusal.Frame place) is = is.0.1 none

-- nor one whose frames may stop where they do
pub frames-taken : (file : ℕ) (log : List ℕ) → 0 < file → HasHeader log → page_size log ≤ file
    → ((k : ℕ) → IsDamaged (page_size log) log k → MayStop (page_size log) log k) → (refusal : Refusal) → ¬ IsRefused file log refusal
frames-taken file log some head whole may' Refusal.File is = elim is [
  | inl missing ↦ omega (arith, missing.0, some)
  | inr cut ↦ omega (arith, cut.2, whole)
]
frames-taken file log some head whole may' Refusal.Header is = is.1 head
frames-taken file log some head whole may' (Refusal.Frame place) is = is.3.2 (may' is.3.0 is.3.1)
