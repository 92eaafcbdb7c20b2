-- Numbers as integers of 32 bits, and the shifts (ES3 9.5, 9.6, 11.7).
use Rattle.std.specs.Prelude.{ℕ, ◌*◌, ◌/◌, ◌%◌, ◌^◌, nat_lt, if◌then◌else◌}
use Rattle.std.specs.Prelude.{ℤ, pos, ◌-ℤ◌, unsigned_abs}
use Rattle.std.specs.Int.{int_rem_euclid, int_div_euclid}
use Rattle.js_values.specs.declared.number.Num.{Num}
use Rattle.js_values.specs.declared.number.Num.TheVariants.{NaN, Whole}

-- the one number from 0 to 2^32 - 1 that differs from it by a multiple of 2^32
abbrev pub modulo_32_bits : ℤ → ℕ
modulo_32_bits z = unsigned_abs (int_rem_euclid z (pos (2 ^ 32)))

-- the same from -2^31 to 2^31 - 1
abbrev pub signed_32_bits : ℕ → ℤ
signed_32_bits n = if nat_lt n (2 ^ 31) then pos n else pos n -ℤ pos (2 ^ 32)

-- ToUint32 (ES3 9.6)
abbrev pub uint32_of : Num → ℕ
uint32_of NaN = 0
uint32_of (Whole z) = modulo_32_bits z

-- ToInt32 (ES3 9.5)
abbrev pub int32_of : Num → ℤ
int32_of a = signed_32_bits (uint32_of a)

-- how far a shift goes: the last five bits of its right operand (ES3 11.7)
abbrev pub shift_count : Num → ℕ
shift_count b = uint32_of b % 32

-- `<<`, of which 32 bits are left (ES3 11.7.1)
abbrev pub shifted_left : Num → Num → Num
shifted_left a b = Whole (signed_32_bits (uint32_of a * 2 ^ shift_count b % 2 ^ 32))

-- `>>`, which keeps the sign and rounds down (ES3 11.7.2)
abbrev pub shifted_right : Num → Num → Num
shifted_right a b = Whole (int_div_euclid (int32_of a) (pos (2 ^ shift_count b)))

-- `>>>` (ES3 11.7.3)
abbrev pub shifted_right_unsigned : Num → Num → Num
shifted_right_unsigned a b = Whole (pos (uint32_of a / 2 ^ shift_count b))
