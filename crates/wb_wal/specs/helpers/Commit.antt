-- What was found of a commit that counts.
use Rattle.std.specs.Prelude.{◌≡◌, ◌↔◌, ◌⊎◌, ℕ, ◌+◌, ◌-◌, ◌<◌, ◌≤◌, nat_le, if◌then◌else◌, List, Option, Some, None, IsTrue}
use Rattle.sqlite_wal.specs.Format.{content, part, be64, zeros, page_number, commit_size}
use Rattle.std.specs.Prelude.{drop}
use Rattle.sqlite_wal.specs.Recovery.{frame_at, frame}
use Rattle.wb_wal.specs.Look.{Has, counting, found, said, right_sum, sum_after, lack, IsSealed, IsSealedAt}
use Rattle.wb_wal.specs.declared.commit.Commit.{Commit}

-- what a count says beyond what was found; none if more was found
abbrev pub left_of : ℕ → ℕ → Option ℕ
left_of count found = if nat_le found count then Some (count - found) else None

-- and after so many more were found
abbrev pub left_after : Option ℕ → ℕ → Option ℕ
left_after None more = None
left_after (Some left) more = left_of left more

-- a commit of which this first frame was found
pub record HasBegun (head : List ℕ) (before : ℕ × ℕ) (frame : List ℕ) (commit : Commit) : Type 0 where
  pub left : commit.left ≡ left_of (be64 (content frame) 0) (zeros (drop 8 (content frame)))
  pub sum : commit.sum ≡ sum_after head before (counting frame) frame
  pub right : IsTrue commit.is_right ↔ IsSealed head commit.sum frame

-- and after this frame too
pub record GoesOn (head : List ℕ) (commit : Commit) (frame : List ℕ) (next : Commit) : Type 0 where
  pub left : next.left ≡ left_after commit.left (zeros (content frame) + lack (page_number frame))
  pub sum : next.sum ≡ sum_after head commit.sum (part frame 0 8) frame
  pub right : IsTrue next.is_right ↔ (IsTrue commit.is_right × IsSealed head next.sum frame)

-- one that ends with this frame lost bytes and nothing else
abbrev pub EndsLost : Commit → List ℕ → Type 0
EndsLost commit frame =
    (left_after commit.left (lack (commit_size frame)) ≡ None)
    ⊎ ((left_after commit.left (lack (commit_size frame)) ≡ Some 0) × IsTrue commit.is_right)

-- what was found in the frames from first to first + n
pub record IsFound (page : ℕ) (log : List ℕ) (first n : ℕ) (commit : Commit) : Type 0 where
  pub left : commit.left ≡ left_of (said page log first) (found page log first n)
  pub sum : commit.sum ≡ right_sum page log first n
  pub right : IsTrue commit.is_right ↔ ((i : ℕ) → i ≤ n → IsSealedAt page log first i)

-- a walk over a commit's frames stands at frame first + n, which begins at this byte; none before it ends the commit
pub record StandsIn (page : ℕ) (log : List ℕ) (first at : ℕ) (bytes : List ℕ) (commit : Commit) : Type 0 where
  pub n : ℕ
  pub place : at ≡ frame_at page (first + n)
  pub has : Has page log (first + n)
  pub bytes_are : bytes ≡ frame page log (first + n)
  pub one : (i : ℕ) → i < n → commit_size (frame page log (first + i)) ≡ 0
  pub found_so_far : IsFound page log first n commit
