-- The serial of an instrument.
use Rattle.std.specs.Prelude.{ℕ, Bool, ◌&&◌, ◌||◌, nat_le, List}
use Rattle.wb_instrument.specs.Code.{is_code_text}

-- one of A-Z and 0-9
abbrev pub is_serial_byte : ℕ → Bool
is_serial_byte byte = (nat_le 65 byte && nat_le byte 90) || (nat_le 48 byte && nat_le byte 57)

-- 1 to 16 characters of A-Z and 0-9
abbrev pub is_serial_text : List ℕ → Bool
is_serial_text text = is_code_text 16 is_serial_byte text
