-- Four rules, in this order, say which log of a database's file no power cut can have left, while the disk keeps what was synced. `file` is how many
-- bytes the file has, `log` are the bytes of its log. Header, frame, the test that a frame passes, and the checksum before it are the kit's own
-- account of its log (sqlite_wal, Format and Recovery). So is the count of a commit of one sync.
use Rattle.std.specs.Prelude.{◌≡◌, ◌≢◌, ◌⊎◌, ℕ, zero, suc, ◌+◌, ◌-◌, ◌<◌, ◌≤◌, [], ◌∷◌, List, length, slice_index, drop}
use Rattle.std.specs.Int.{w32, to_be_bytes}
use Rattle.sqlite_wal.specs.Format.{part, be32, be64, zeros, checksum, is_big, IsSigned, IsFrame, page_number, commit_size, content, count_page}
use Rattle.sqlite_wal.specs.Recovery.{frame_at, header, frame, sum_before, Passes}
use Rattle.sqlite_wal.specs.PageSize.{IsPageSize}
use Rattle.wb_wal.specs.declared.rules.Refusal.{Refusal}

-- Rule 1: the file. Without a byte of it the log is one of an opening that was cut off before it wrote a frame; with fewer than a page, none.

-- a log that is too short for a frame, or shut by a checkpoint, holds nothing
abbrev pub HoldsNothing : List ℕ → Type 0
HoldsNothing log = (length log < 56) ⊎ (slice_index log 0 ≡ 0)

-- the count of checkpoints in a header, before the first one
abbrev pub begun : ℕ
begun = 0xffff_ffff

-- the log has what a file must have had
abbrev pub NeedsFile : List ℕ → Type 0
NeedsFile log = (56 ≤ length log) ⊎ ((32 ≤ length log) × IsSigned (header log) × (be32 (header log) 12 ≢ begun))

-- Rule 2: the header is signed, and names a size that pages have.
abbrev pub HasHeader : List ℕ → Type 0
HasHeader log = IsSigned (header log) × IsPageSize (be32 (header log) 8)

-- the bytes of a page, as the header names them
abbrev pub page_size : List ℕ → ℕ
page_size log = be32 (header log) 8

-- Rule 3: where the frames stop to pass the kit's test, no commit of one sync begins behind it, and it is a shut gate, or in the last commit.

-- the log has all bytes of frame i
abbrev pub Has : ℕ → List ℕ → ℕ → Type 0
Has page log i = frame_at page i + (24 + page) ≤ length log

abbrev pub Commits : ℕ → List ℕ → ℕ → Type 0
Commits page log i = commit_size (frame page log i) ≢ 0

abbrev pub HasSalts : ℕ → List ℕ → ℕ → Type 0
HasSalts page log i = part (frame page log i) 8 8 ≡ part (header log) 16 8

-- frame k is the first that doesn't pass
pub record IsDamaged (page : ℕ) (log : List ℕ) (k : ℕ) : Type 0 where
  pub before : (i : ℕ) → i < k → Passes page log i
  pub within : Has page log k
  pub fails : ¬ IsFrame (header log) (sum_before page log k) (frame page log k)

-- A frame's gate is its first byte of salt. That of a commit's first frame is 0 before the frames are synced, and the log's first byte of salt after.
abbrev pub gate : ℕ → List ℕ → ℕ → ℕ
gate page log i = slice_index (frame page log i) 8

abbrev pub IsOpen : ℕ → List ℕ → ℕ → Type 0
IsOpen page log i = gate page log i ≡ slice_index (header log) 16

-- No frame behind k with the log's salts counts: a commit of one sync is written once all before it was synced.
abbrev pub NoneCounts : ℕ → List ℕ → ℕ → Type 0
NoneCounts page log k =
    (j : ℕ) → k < j → Has page log j → HasSalts page log j → page_number (frame page log j) ≢ count_page

-- frame first is the first of the commit that frame k is of
pub record Begins (page : ℕ) (log : List ℕ) (first k : ℕ) : Type 0 where
  pub order : first ≤ k
  pub behind : (i : ℕ) → suc i ≡ first → Commits page log i
  pub one : (i : ℕ) → first ≤ i → i < k → commit_size (frame page log i) ≡ 0

-- The gate of a commit is shut. A transaction that didn't fit into memory has several that end, and only the first of them has a gate.
abbrev pub IsShut : ℕ → List ℕ → ℕ → Type 0
IsShut page log k = Begins page log k k × (¬ IsOpen page log k) × (gate page log k ≡ 0)

-- A commit of one sync leaves at least these bytes of zeros behind it, which are synced. Behind them there may be frames of a transaction that was never
-- opened, with the log's salts.
abbrev pub blank : ℕ
blank = 131072

-- No frame from k on with the log's salts follows one that ends a commit, in the blank bytes from the first frame of k's commit on: a commit is synced
-- before the next is written.
abbrev pub IsOfLastCommit : ℕ → List ℕ → ℕ → ℕ → Type 0
IsOfLastCommit page log first k =
    (i j : ℕ) → k ≤ i → i < j → frame_at page j < frame_at page first + blank → Has page log j → HasSalts page log i
    → Commits page log i → ¬ HasSalts page log j

-- No frame from k on has the log's salts.
abbrev pub NoneSigned : ℕ → List ℕ → ℕ → Type 0
NoneSigned page log k = (j : ℕ) → k ≤ j → Has page log j → ¬ HasSalts page log j

-- Or the frame is one of a log before this one, of which sqlite3 leaves some: both its salts are others.
pub record IsFormer (page : ℕ) (log : List ℕ) (k : ℕ) : Type 0 where
  pub first : be32 (frame page log k) 8 ≢ be32 (header log) 16
  pub second : be32 (frame page log k) 12 ≢ be32 (header log) 20
  pub none : NoneSigned page log k

-- Rule 4: the last commit is one of one sync, written over zeros. A byte that a power cut took is 0. So the commit lacks more than its first frame
-- counts, or just that, and each other byte of its salts and checksums is right.

-- frames first to first + n are a commit that ends
pub record IsCommit (page : ℕ) (log : List ℕ) (first n : ℕ) : Type 0 where
  pub within : Has page log (first + n)
  pub ends : Commits page log (first + n)
  pub one : (i : ℕ) → i < n → commit_size (frame page log (first + i)) ≡ 0

-- how far a number lies below the one that counts
abbrev pub lack : ℕ → ℕ
lack number = count_page - number

-- what the first frame counts
abbrev pub said : ℕ → List ℕ → ℕ → ℕ
said page log first = be64 (content (frame page log first)) 0

-- what is found of that in the first frame and the n behind it: zeros in pages, and how far their numbers lie below
unfoldable pub found : ℕ → List ℕ → ℕ → ℕ → ℕ
found page log first zero = zeros (drop 8 (content (frame page log first)))
found page log first (suc n) =
    found page log first n + (zeros (content (frame page log (first + suc n))) + lack (page_number (frame page log (first + suc n))))

-- and in a commit that ends with frame first + n
abbrev pub found_in : ℕ → List ℕ → ℕ → ℕ → ℕ
found_in page log first n = found page log first n + lack (commit_size (frame page log (first + n)))

-- the first eight bytes of a commit's first frame: the number that counts, and the size that it has
abbrev pub counting : List ℕ → List ℕ
counting frame =
    255 ∷ 0 ∷ 0 ∷ 0 ∷ slice_index frame 4 ∷ slice_index frame 5 ∷ slice_index frame 6 ∷ slice_index frame 7 ∷ []

-- the checksum after a frame that begins with these eight bytes
abbrev pub sum_after : List ℕ → ℕ × ℕ → List ℕ → List ℕ → ℕ × ℕ
sum_after head before front frame = checksum (is_big head) (checksum (is_big head) before front) (content frame)

-- the checksum that frame first + n had
unfoldable pub right_sum : ℕ → List ℕ → ℕ → ℕ → ℕ × ℕ
right_sum page log first zero =
    sum_after (header log) (sum_before page log first) (counting (frame page log first)) (frame page log first)
right_sum page log first (suc n) =
    sum_after (header log) (right_sum page log first n) (part (frame page log (first + suc n)) 0 8) (frame page log (first + suc n))

-- each of these bytes is right, or was lost to a 0
abbrev pub AreRightOrLost : List ℕ → List ℕ → Type 0
AreRightOrLost bytes right = (i : ℕ) → i < length bytes → (slice_index bytes i ≡ 0) ⊎ (slice_index bytes i ≡ slice_index right i)

-- a frame's salts are those of the header and its checksum is this one, or they lost bytes
pub record IsSealed (head : List ℕ) (sum : ℕ × ℕ) (frame : List ℕ) : Type 0 where
  pub salts : AreRightOrLost (part frame 8 8) (part head 16 8)
  pub first : AreRightOrLost (part frame 16 4) (to_be_bytes w32 (sum.0))
  pub second : AreRightOrLost (part frame 20 4) (to_be_bytes w32 (sum.1))

abbrev pub IsSealedAt : ℕ → List ℕ → ℕ → ℕ → Type 0
IsSealedAt page log first n = IsSealed (header log) (right_sum page log first n) (frame page log (first + n))

-- a commit that ends with frame first + n lost bytes and nothing else
abbrev pub HasLost : ℕ → List ℕ → ℕ → ℕ → Type 0
HasLost page log first n =
    (said page log first < found_in page log first n)
    ⊎ ((said page log first ≡ found_in page log first n) × ((i : ℕ) → i ≤ n → IsSealedAt page log first i))

-- the commit that begins with this frame counts, and lost bytes and nothing else; one that doesn't end has lost its end
pub record MayHaveLost (page : ℕ) (log : List ℕ) (first : ℕ) : Type 0 where
  pub counts : (page_number (frame page log first) ≡ count_page) ⊎ (page_number (frame page log first) ≡ 0)
  pub lost : (n : ℕ) → IsCommit page log first n → HasLost page log first n

-- frame k is of the last commit, which was being written
pub record IsTorn (page : ℕ) (log : List ℕ) (k : ℕ) : Type 0 where
  pub opened : IsOpen page log k ⊎ (gate page log k ≡ 0)
  pub first : ℕ
  pub last : IsOfLastCommit page log first k
  pub begins : Begins page log first k
  pub lost : MayHaveLost page log first

-- a power cut may have left frame k so
abbrev pub MayStop : ℕ → List ℕ → ℕ → Type 0
MayStop page log k = NoneCounts page log k × (IsShut page log k ⊎ IsFormer page log k ⊎ IsTorn page log k)

-- The refusals.

-- the file is there, and the log holds something
abbrev pub BothHold : ℕ → List ℕ → Type 0
BothHold file log = (0 < file) × (¬ HoldsNothing log)

abbrev pub IsRefused : ℕ → List ℕ → Refusal → Type 0
IsRefused file log Refusal.File =
    ((file ≡ 0) × NeedsFile log) ⊎ (BothHold file log × HasHeader log × (file < page_size log))
IsRefused file log Refusal.Header = BothHold file log × (¬ HasHeader log)
IsRefused file log (Refusal.Frame place) =
    BothHold file log × HasHeader log × (page_size log ≤ file)
    × ((k : ℕ) × IsDamaged (page_size log) log k × (¬ MayStop (page_size log) log k) × (place ≡ frame_at (page_size log) k))
