-- The bytes of words.
use Rattle.std.specs.Prelude.{ℕ, ◌+◌, ◌*◌, ◌/◌, ◌%◌, ◌^◌}

-- a word of four bytes, in reverse
abbrev pub reversed : ℕ → ℕ
reversed x = x / 256 ^ 3 % 256 + 256 * (x / 256 ^ 2 % 256 + 256 * (x / 256 % 256 + 256 * (x % 256)))

-- a word of eight bytes, in reverse
abbrev pub reversed_long : ℕ → ℕ
reversed_long x = x / 256 ^ 7 % 256 + 256 * (x / 256 ^ 6 % 256 + 256 * (x / 256 ^ 5 % 256 + 256 * (x / 256 ^ 4 % 256
    + 256 * (x / 256 ^ 3 % 256 + 256 * (x / 256 ^ 2 % 256 + 256 * (x / 256 % 256 + 256 * (x % 256)))))))
