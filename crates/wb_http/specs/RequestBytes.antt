-- The head of a request, by the grammar of RFC 9112, and what follows it.
use Rattle.std.specs.Prelude.{◌≡◌, ℕ, ◌≤◌, Bool, List, ◌++◌, length, map, filter, bytes_eq, codes, Option, Some, None}
use Rattle.std.specs.Str.{str_eq_ignore_ascii_case}
use Rattle.httparse.specs.Grammar.{IsRequestHead, RequestHead, print_request}
use Rattle.httparse.specs.Spans.{name_and_value}

-- a request's head, and the bytes after it
pub record Received : Type 0 where
  pub head : RequestHead
  pub rest : List ℕ

-- a head that is read has at most 64 fields and 8,192 bytes
pub record IsReadable (h : RequestHead) : Type 0 where
  pub head : IsRequestHead h
  pub fields : length h.fields ≤ 64
  pub size : length (print_request h) ≤ 8192

-- the bytes begin with this head, and the rest follows it
abbrev pub ReadsAs : List ℕ → Received → Type 0
ReadsAs bytes x = IsReadable x.head × (bytes ≡ print_request x.head ++ x.rest)

-- what is read of bytes: a head and the rest, or nothing, where they begin with no such head
abbrev pub IsRead : List ℕ → Option Received → Type 0
IsRead bytes None = (x : Received) → ¬ (ReadsAs bytes x)
IsRead bytes (Some x) = ReadsAs bytes x

-- the name and the value of each field, the value without the blanks and tabs around it
abbrev pub fields : Received → List (List ℕ × List ℕ)
fields x = map name_and_value x.head.fields

-- the field has this name, without regard to case
abbrev pub has_field_name : List ℕ → List ℕ × List ℕ → Bool
has_field_name name field = str_eq_ignore_ascii_case field.0 name

-- the values of the fields with this name
abbrev pub values : List ℕ → List (List ℕ × List ℕ) → List (List ℕ)
values name fields = map (λ f. f.1) (filter (has_field_name name) fields)

-- the request's method is POST
abbrev pub is_post : Received → Bool
is_post x = bytes_eq x.head.method (codes "POST")
