-- The lines of a trace that hand in requests to the office.
use Rattle.std.specs.Prelude.{ℕ, ◌==◌, List, [], ◌∷◌, ◌++◌, codes, decimal, if◌then◌else◌, is_some, length, nat_eq, Option, Some, None, false}
use Rattle.std.specs.Cmp.Lexicographic.{pointwise}
use Rattle.std.specs.List.{position}
use Rattle.wb_input.specs.Digits.{numeral_value}
use Rattle.wb_trace.specs.Numerals.{bytes_of_hexadecimal, if_within}
use Rattle.wb_trace.specs.Words.{after_word, first_word}
use Rattle.wb_messages.specs.Happening.{Happening, office}

-- seconds of a moment, with no leading zero
abbrev pub moment_in : List ℕ → Option ℕ
moment_in [] = None
moment_in (c ∷ []) = if_within 0 253402207200 (numeral_value 18 (c ∷ []))
moment_in (c ∷ d ∷ cs) = if c == 48 then None else if_within 0 253402207200 (numeral_value 18 (c ∷ d ∷ cs))

-- the bytes of a request without a body, and of one with a body
abbrev pub get_bytes : List ℕ → List ℕ
get_bytes target = codes "GET " ++ target ++ codes " HTTP/1.1\r\n\r\n"

abbrev pub post_bytes : List ℕ → List ℕ → List ℕ
post_bytes target body = codes "POST " ++ target ++ codes " HTTP/1.1\r\nContent-Length: " ++ decimal (length body) ++ codes "\r\n\r\n" ++ body

-- a target is one or more bytes without a blank
abbrev pub get_if_target : List ℕ → Option (List ℕ)
get_if_target [] = None
get_if_target (b ∷ bs) = if is_some (position (λ c. c == 32) (b ∷ bs)) then None else Some (get_bytes (b ∷ bs))

abbrev pub post_if_target : List ℕ → List ℕ → Option (List ℕ)
post_if_target [] body = None
post_if_target (b ∷ bs) body = Some (post_bytes (b ∷ bs) body)

-- the bytes of a request, by its method and what follows it: a target, and after a POST's target a blank and the body, or nothing
abbrev pub request_bytes : List ℕ → List ℕ → Option (List ℕ)
request_bytes method rest =
    if pointwise nat_eq method (codes "GET") then get_if_target rest
    else if pointwise nat_eq method (codes "POST") then post_if_target (first_word rest) (after_word rest)
    else None

-- a request at a moment, where both are there
abbrev pub at_moment : Option ℕ → Option (List ℕ) → Option (List Happening)
at_moment None bytes = None
at_moment (Some seconds) None = None
at_moment (Some seconds) (Some bytes) = Some (office seconds bytes false ∷ [])

-- a moment, a method and what follows it
abbrev pub asked_by_line : List ℕ → Option (List Happening)
asked_by_line text = at_moment (moment_in (first_word text)) (request_bytes (first_word (after_word text)) (after_word (after_word text)))

-- a moment, and the bytes of a request in hexadecimal
abbrev pub asked_by_bytes : List ℕ → Option (List Happening)
asked_by_bytes text = at_moment (moment_in (first_word text)) (bytes_of_hexadecimal (after_word text))
