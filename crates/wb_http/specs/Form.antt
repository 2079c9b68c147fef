-- The fields of a form (application/x-www-form-urlencoded), and what they ask.
use Rattle.std.specs.Prelude.{ℕ, Bool, List, [], ◌∷◌, ⊤, bytes_eq, codes, filter, map, if◌then◌else◌, Option, Some, None, option_map}
use Rattle.std.specs.Option.{option_and_then}
use Rattle.std.specs.Str.Lossy.{utf8_lossy}
use Rattle.form_urlencoded.specs.Form.{IsPlainText, decode, raw_pairs}
use Rattle.wb_journal.specs.declared.kind.Kind.{Kind}
use Rattle.wb_journal.specs.declared.kind.Kind.TheVariants.{First, Second, Single}
use Rattle.wb_journal.specs.Key.{is_key_text}
use Rattle.wb_journal.specs.Plate.{is_plate_text}
use Rattle.wb_messages.specs.declared.request.Request.{Request}
use Rattle.wb_messages.specs.declared.request.Request.TheVariants.{VoidOpen, Weigh}

-- the text that a name or a value writes; what isn't UTF-8 of it becomes U+FFFD
abbrev pub decoded_text : List ℕ → List ℕ
decoded_text encoded = utf8_lossy (decode encoded)

-- the field has this name
abbrev pub has_name : List ℕ → List ℕ × List ℕ → Bool
has_name name pair = bytes_eq (decoded_text pair.0) name

-- the one of a list that has no other
abbrev pub only : List (List ℕ) → Option (List ℕ)
only [] = None
only (one ∷ []) = Some one
only (one ∷ two ∷ more) = None

-- the value of the field with this name, if there is exactly one: as it is encoded, and as its text
abbrev pub encoded_in : List ℕ → List ℕ → Option (List ℕ)
encoded_in body name = only (map (λ pair. pair.1) (filter (has_name name) (raw_pairs body)))

abbrev pub value_in : List ℕ → List ℕ → Option (List ℕ)
value_in body name = option_map decoded_text (encoded_in body name)

abbrev pub key_of_text : List ℕ → Option (List ℕ)
key_of_text text = if is_key_text text then Some text else None

abbrev pub plate_of_text : List ℕ → Option (List ℕ)
plate_of_text text = if is_plate_text text then Some text else None

-- a Void has a route of its own
abbrev pub kind_of_text : List ℕ → Option Kind
kind_of_text text =
    if bytes_eq text (codes "first") then Some First
    else if bytes_eq text (codes "second") then Some Second
    else if bytes_eq text (codes "single") then Some Single
    else None

abbrev pub key_in : List ℕ → Option (List ℕ)
key_in body = option_and_then key_of_text (value_in body (codes "key"))

abbrev pub kind_in : List ℕ → Option Kind
kind_in body = option_and_then kind_of_text (value_in body (codes "kind"))

abbrev pub plate_in : List ℕ → Option (List ℕ)
plate_in body = option_and_then plate_of_text (value_in body (codes "plate"))

abbrev pub weigh : Option (List ℕ) → Option Kind → Option (List ℕ) → Option Request
weigh key kind plate = option_and_then (λ k. option_and_then (λ d. option_map (λ p. Weigh k d p) plate) kind) key

abbrev pub void_open_request : Option (List ℕ) → Option (List ℕ) → Option Request
void_open_request key plate = option_and_then (λ k. option_map (λ p. VoidOpen k p) plate) key

-- the weighing that a form asks for, if its key, kind and plate are each there once and valid
abbrev pub weighing_in : List ℕ → Option Request
weighing_in body = weigh (key_in body) (kind_in body) (plate_in body)

-- the void that a form asks for
abbrev pub void_in : List ℕ → Option Request
void_in body = void_open_request (key_in body) (plate_in body)

-- each name and value stands for itself: UTF-8 without `+` and `%`
abbrev pub ArePlain : List (List ℕ × List ℕ) → Type 0
ArePlain [] = ⊤
ArePlain (pair ∷ pairs) = IsPlainText pair.0 × IsPlainText pair.1 × ArePlain pairs

-- of such a form nothing is decoded
abbrev pub IsPlain : List ℕ → Type 0
IsPlain body = ArePlain (raw_pairs body)
