-- A walk over the frames from a stop on, for those behind the end of a commit.
use Rattle.std.specs.Prelude.{◌≡◌, ℕ, ◌<◌, ◌≤◌, List, length, Bool, true, false}
use Rattle.sqlite_wal.specs.Format.{commit_size, page_number, count_page}
use Rattle.sqlite_wal.specs.Recovery.{frame_at, frame}
use Rattle.wb_wal.specs.Look.{HasSalts, Commits}

-- of frames k to j - 1 none with the log's salts stands behind one that ends a commit; one of these ends a commit if is_behind says so
pub record HasSeen (page : ℕ) (log : List ℕ) (k at : ℕ) (is_behind : Bool) : Type 0 where
  pub j : ℕ
  pub order : k ≤ j
  pub place : at ≡ frame_at page j
  pub within : at ≤ length log
  pub yes : is_behind ≡ true → (i : ℕ) × (k ≤ i) × (i < j) × HasSalts page log i × Commits page log i
  pub no : is_behind ≡ false → (i : ℕ) → k ≤ i → i < j → HasSalts page log i → commit_size (frame page log i) ≡ 0
  pub fine : (a b : ℕ) → k ≤ a → a < b → b < j → HasSalts page log a → Commits page log a → ¬ HasSalts page log b

-- none of frames first to j - 1 is such a one
pub record HasPassed (IsSuch : ℕ → Type 0) (page : ℕ) (log : List ℕ) (first at : ℕ) : Type 0 where
  pub j : ℕ
  pub order : first ≤ j
  pub place : at ≡ frame_at page j
  pub within : at ≤ length log
  pub none : (i : ℕ) → first ≤ i → i < j → ¬ IsSuch i

-- frame i has the log's salts and counts
abbrev pub IsCounting : ℕ → List ℕ → ℕ → Type 0
IsCounting page log i = HasSalts page log i × (page_number (frame page log i) ≡ count_page)
