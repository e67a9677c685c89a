-- What a finite result tells of its argument, so that code which notes the result need not note the
-- argument too. Rules as in `checked`.
use Rattle.std.specs.Prelude.{◌≡◌, Bool, true, false, ◌||◌, T, Float}
use Rattle.std.specs.Float.{nan, inf, fin, Format, binary64}
use Rattle.checked.specs.Checked.{is_finite}
use Rattle.checked.specs.Laws.{tells, one, alone}
use Rattle.rounding.specs.Whole.{ceil, round_away}
use Rattle.rounding.specs.Root.{sqrt}
use Rattle.rounding.specs.Computations.{sqrt_c, ceil_c, round_c}

pub sqrt_under : (f : Format) (x : Float) → T (is_finite (sqrt f x)) → T (is_finite x)
unfolding sqrt is_finite
sqrt_under f nan h = h
sqrt_under f (inf true) h = h
sqrt_under f (inf false) h = h
sqrt_under f (fin s m e) h = tt

pub ceil_under : (f : Format) (x : Float) → T (is_finite (ceil f x)) → T (is_finite x)
unfolding ceil is_finite
ceil_under f nan h = h
ceil_under f (inf s) h = h
ceil_under f (fin s m e) h = tt

pub round_under : (f : Format) (x : Float) → T (is_finite (round_away f x)) → T (is_finite x)
unfolding round_away is_finite
round_under f nan h = h
round_under f (inf s) h = h
round_under f (fin s m e) h = tt

pub sqrt_tells : (x : Float) (p : Bool) → tells (is_finite (sqrt binary64 x)) p ≡ (tells (is_finite x) p || tells (is_finite (alone (sqrt binary64 x))) p)
unfolding alone
sqrt_tells x p = one (is_finite (sqrt binary64 x)) (is_finite x) p (sqrt_under binary64 x)

pub ceil_tells : (x : Float) (p : Bool) → tells (is_finite (ceil binary64 x)) p ≡ (tells (is_finite x) p || tells (is_finite (alone (ceil binary64 x))) p)
unfolding alone
ceil_tells x p = one (is_finite (ceil binary64 x)) (is_finite x) p (ceil_under binary64 x)

pub round_tells : (x : Float) (p : Bool) → tells (is_finite (round_away binary64 x)) p ≡ (tells (is_finite x) p || tells (is_finite (alone (round_away binary64 x))) p)
unfolding alone
round_tells x p = one (is_finite (round_away binary64 x)) (is_finite x) p (round_under binary64 x)

pub ruleset rounded = (sqrt_tells, ceil_tells, round_tells)

pub ruleset rules = (sqrt_c, ceil_c, round_c, rounded)
