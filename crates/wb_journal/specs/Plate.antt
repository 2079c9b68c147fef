-- The plate of a vehicle.
use Rattle.std.specs.Prelude.{ℕ, Bool, ◌&&◌, ◌||◌, ◌==◌, nat_le, List}
use Rattle.wb_instrument.specs.Code.{is_code_text}

-- one of A-Z, 0-9 and `-`
abbrev pub is_plate_byte : ℕ → Bool
is_plate_byte byte = (nat_le 65 byte && nat_le byte 90) || (nat_le 48 byte && nat_le byte 57) || byte == 45

-- 1 to 12 of them
abbrev pub is_plate_text : List ℕ → Bool
is_plate_text text = is_code_text 12 is_plate_byte text
