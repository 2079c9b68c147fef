-- The length of a body, as its head says it.
use Rattle.std.specs.Prelude.{ℕ, Bool, true, false, ◌&&◌, not, nat_lt, List, [], ◌∷◌, codes, length, take}
use Rattle.std.specs.Char.{is_ascii_digit}
use Rattle.std.specs.List.{list_all}
use Rattle.std.specs.Str.Parse.{digits_value}
use Rattle.wb_http.specs.RequestBytes.{Received, fields, values}

-- the values of the Content-Length fields
abbrev pub lengths : Received → List (List ℕ)
lengths x = values (codes "content-length") (fields x)

-- there is a Transfer-Encoding field
abbrev pub has_transfer_encoding : Received → Bool
has_transfer_encoding x = nat_lt 0 (length (values (codes "transfer-encoding") (fields x)))

-- one or more digits
abbrev pub is_number_text : List ℕ → Bool
is_number_text text = nat_lt 0 (length text) && list_all is_ascii_digit text

-- two or more lengths, or one that isn't a number
abbrev pub are_wrong : List (List ℕ) → Bool
are_wrong [] = false
are_wrong (one ∷ []) = not (is_number_text one)
are_wrong (one ∷ two ∷ more) = true

-- the number that the first of them writes; 0 without one
abbrev pub first_number : List (List ℕ) → ℕ
first_number [] = 0
first_number (one ∷ more) = digits_value 10 one

-- the length that the head says
abbrev pub length_of : Received → ℕ
length_of x = first_number (lengths x)

-- the body: so many bytes after the head
abbrev pub body_of : Received → List ℕ
body_of x = take (length_of x) x.rest
