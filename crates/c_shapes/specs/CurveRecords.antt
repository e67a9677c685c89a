-- Curves as arrays of numbers: an arc's seven, or a piece's 26 and its radius. Tags say which of the numbers are read.
use Rattle.std.specs.Prelude.{ℕ, Bool, cond, ◌&&◌, ◌||◌, List, [], eqb, get_or, set, Float}
use Rattle.std.specs.Float.{nan}
use Rattle.curves.specs.declared.Curve.{Curve}
use Rattle.curves.specs.declared.Curve.TheVariants as curve_is
use Rattle.c_arrays.specs.Records.{over}
use Rattle.c_arrays.specs.ArcRecords.{arc, of_arc}
use Rattle.piece_arrays.specs.Arrays.{is_piece, piece, tags_of, with_piece}

-- the tags of a curve: its kind is 0 for an arc, whose other tags are not read, and 1 for a piece
unfoldable pub is_curve : ℕ → ℕ → ℕ → Bool
is_curve kind bow trace = eqb kind 0 || (eqb kind 1 && is_piece bow trace)

abbrev pub curve : List Float → ℕ → ℕ → ℕ → Curve
curve l kind bow trace = cond (eqb kind 0) (curve_is.Arc (arc l)) (curve_is.Rolled (record { piece = piece l bow trace; radius = get_or l 26 nan }))

-- the curve's numbers over what an array held
unfoldable pub with_curve : List Float → Curve → List Float
with_curve l (curve_is.Arc a) = over l 0 (of_arc a)
with_curve l (curve_is.Rolled w) = set (with_piece l w.piece) 26 w.radius

-- the tags that are written with a curve: those of a piece, none for an arc
unfoldable pub curve_tags : Curve → List ℕ
curve_tags (curve_is.Arc a) = []
curve_tags (curve_is.Rolled w) = tags_of w.piece
