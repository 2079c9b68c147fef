-- What a head says of the body, by its fields alone.
use Rattle.std.specs.Prelude.{◌≡◌, ℕ, nat_lt, List, [], ◌∷◌, codes, length, map, if◌then◌else◌, Option, Some, None, Result, Ok, Err}
use Rattle.std.specs.Borrow.{Bor}
use Rattle.httparse.specs.Spans.{header_bytes}
use Rattle.wb_http.specs.declared.fault.HttpFault.{HttpFault}
use Rattle.wb_http.specs.declared.fault.HttpFault.TheVariants.{Malformed, NoLength, TooLarge}
use Rattle.wb_http.specs.declared.head.Head.{Head}
use Rattle.wb_http.specs.BodyLength.{is_number_text}
use Rattle.wb_http.specs.RequestBytes.{values}
use Rattle.std.specs.Str.Parse.{digits_value}

-- the names and values at a head's places
abbrev pub pairs : Head → List (List ℕ × List ℕ)
pairs h = map (header_bytes h.front.now) h.fields.now

-- two or more
abbrev pub AreMany : List (List ℕ) → Type 0
AreMany vs = (one : List ℕ) × (two : List ℕ) × (more : List (List ℕ)) × (vs ≡ one ∷ two ∷ more)

-- none, one, or a fault where there are two or more
abbrev pub IsValueOf : List (List ℕ) → Result (Option (Bor (List ℕ))) HttpFault → Type 0
IsValueOf vs (Ok None) = vs ≡ []
IsValueOf vs (Ok (Some one)) = vs ≡ one.now ∷ []
IsValueOf vs (Err fault) = (fault ≡ Malformed) × AreMany vs

abbrev pub said_number : ℕ → Result ℕ HttpFault
said_number number = if nat_lt 1024 number then Err TooLarge else Ok number

-- the length that one text writes
abbrev pub said_text : List ℕ → Result ℕ HttpFault
said_text text = if is_number_text text then said_number (digits_value 10 text) else Err Malformed

abbrev pub said_values : List (List ℕ) → Result ℕ HttpFault
said_values [] = Err NoLength
said_values (one ∷ []) = said_text one
said_values (one ∷ two ∷ more) = Err Malformed

-- the length of a POST's body, or what is wrong with it
abbrev pub said : List (List ℕ × List ℕ) → Result ℕ HttpFault
said fields = if nat_lt 0 (length (values (codes "transfer-encoding") fields)) then Err Malformed else said_values (values (codes "content-length") fields)
