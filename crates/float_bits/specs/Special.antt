-- Patterns of special values, for tables of what functions give.
use Rattle.std.specs.Prelude.{ℕ, ◌+◌, ◌^◌}

-- the pattern with the sign set
abbrev pub minus : ℕ → ℕ
minus p = p + 2 ^ 63

abbrev pub nought : ℕ
nought = 0

abbrev pub least : ℕ
least = 1  -- the least above 0

abbrev pub half : ℕ
half = 0x3fe00000_00000000

abbrev pub one : ℕ
one = 0x3ff00000_00000000

abbrev pub greatest : ℕ
greatest = 0x7fefffff_ffffffff  -- the greatest that is finite

abbrev pub infinity : ℕ
infinity = 0x7ff00000_00000000

abbrev pub not_a_number : ℕ
not_a_number = 0x7ff80000_00000000

-- π, and parts of it, each the nearest
abbrev pub π : ℕ
π = 0x400921fb_54442d18  -- 3.141592653589793

abbrev pub π/2 : ℕ
π/2 = 0x3ff921fb_54442d18  -- 1.5707963267948966

abbrev pub π/4 : ℕ
π/4 = 0x3fe921fb_54442d18  -- 0.7853981633974483

abbrev pub 3π/4 : ℕ
3π/4 = 0x4002d97c_7f3321d2  -- 2.356194490192345
