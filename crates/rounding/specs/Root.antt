-- IEEE 754's squareRoot, rounded to the nearest value, a tie to the even one, defined by comparison
-- of whole numbers. Definitions only. `proofs/NearestRoot.antt` shows that no value of an f64 is
-- nearer to the exact root.
use Prim.Native.Nat.{ℕ, zero, suc, ◌+◌, ◌-◌, ◌*◌, ◌/◌, ◌^◌, compare}
use Rattle.std.specs.Prelude.{true, false, cond, leb, Float}
use Rattle.std.specs.Float.{nan, inf, fin, Format}
use Rattle.std.specs.Float.Ieee.{prec, low, up, down, size, nearest, units}

-- The whole part of the root of an n of at most 2 * k binary digits, two digits of n at a time:
-- twice the root of n / 4, plus one where its square still goes into n.
unfoldable pub digits : ℕ → ℕ → ℕ
digits zero n = 0
digits (suc k) n = let r = 2 * digits k (n / 4) in cond (leb ((r + 1) * (r + 1)) n) (r + 1) r

-- The whole part of the root of n: the r with r * r ≤ n < (r + 1) * (r + 1).
unfoldable pub root : ℕ → ℕ
unfolding digits size
root n = digits (size n) n

-- The value of the format f that is nearest to the root of num / den, where both are above 0. In
-- units of f's least value, 2 ^ -low, the root of num / den is the root of n / den, and w is its
-- whole part. The format keeps the `prec` leading digits of w, which are q, and drops k: the result
-- is q * 2 ^ k or (q + 1) * 2 ^ k units. The middle of these two is c / 2. The root lies below, at
-- or above it as 4 * n / den lies below, at or above c * c.
unfoldable pub round_root : Format → ℕ → ℕ → Float
unfolding root size units
round_root f num den =
    let n = num * 4 ^ low f in
    let w = root (n / den) in
    let k = size w - prec f in
    let q = w / 2 ^ k in
    let c = (2 * q + 1) * 2 ^ k in
    units f false (nearest q (compare (4 * n) (c * c * den))) k

-- A zero of either sign is its own root, and a number below zero has none.
unfoldable pub sqrt : Format → Float → Float
unfolding round_root
sqrt f nan = nan
sqrt f (inf true) = nan
sqrt f (inf false) = inf false
sqrt f (fin s zero e) = fin s zero e
sqrt f (fin true (suc m) e) = nan
sqrt f (fin false (suc m) e) = round_root f (suc m * up e) (down e)
