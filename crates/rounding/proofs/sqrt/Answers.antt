-- `sqrt` meets its contract. `proofs/SquareRoot.antt` says what each arm returns. Assumes nothing.
use native.Mathlib.Omega.{arith}
use lib.Ieee.{div, of_bits}
use Rattle.checked.specs.PatternLaws.{yes, no}
use Rattle.rounding.proofs.Wholes.{flat}
use Rattle.rounding.proofs.SquareRoot.{field_lt, infinite, normal, zeros, subnormal, made_no_nan, finish, root_below, root_flat}
use Rattle.rounding.proofs.sqrt.Goals as goal

pub overflow_sub-z : goal.overflow_sub-z
unfolding of_bits
overflow_sub-z c = (zeros c.args.x (yes c.well_formed.0.1) (yes c.if-x.true) c.if-field-eq0.true).0

pub overflow_sub-z-then-field-eq0 : goal.overflow_sub-z-then-field-eq0
unfolding of_bits
overflow_sub-z-then-field-eq0 c = (zeros c.args.x (yes c.well_formed.0.1) (yes c.if-x.true) c.if-field-eq0.true).1

pub root_bits-requires : goal.root_bits-requires
unfolding of_bits
root_bits-requires c =
    let p = subnormal c.args.x (yes c.well_formed.0.1) (yes c.if-x.true) c.if-field-eq0.true in
    (p.m_ge, p.m_lt, p.e_lt)

pub float_from_bits-result : goal.float_from_bits-result
unfolding of_bits
float_from_bits-result c =
    let x = c.args.x in
    let p = subnormal x (yes c.well_formed.0.1) (yes c.if-x.true) c.if-field-eq0.true in
    made_no_nan x _ _ c.root_bits.result (yes c.if-x.true) p.value p.m_ge p.m_lt p.e_lt c.root_bits.ensures

pub overflow_add-field : goal.overflow_add-field
unfolding of_bits
overflow_add-field c = omega (arith, field_lt c.args.x (yes c.well_formed.0.1) (yes c.if-x.true))

pub root_bits-requires-else-field-eq0 : goal.root_bits-requires-else-field-eq0
unfolding of_bits
root_bits-requires-else-field-eq0 c =
    let p = normal c.args.x (yes c.well_formed.0.1) (yes c.if-x.true) c.if-field-eq2047.false c.if-field-eq0.false in
    (p.m_ge, p.m_lt, p.e_lt)

pub float_from_bits-result-else-field-eq0 : goal.float_from_bits-result-else-field-eq0
unfolding of_bits
float_from_bits-result-else-field-eq0 c =
    let x = c.args.x in
    let p = normal x (yes c.well_formed.0.1) (yes c.if-x.true) c.if-field-eq2047.false c.if-field-eq0.false in
    made_no_nan x _ _ c.root_bits-else-field-eq0.result (yes c.if-x.true) p.value p.m_ge p.m_lt p.e_lt c.root_bits-else-field-eq0.ensures

pub returns-then-field-eq2047 : goal.returns-then-field-eq2047
unfolding of_bits
returns-then-field-eq2047 c = infinite c.args.x (yes c.well_formed.0.1) (yes c.if-x.true) c.if-field-eq2047.true

pub returns-then-field-eq0 : goal.returns-then-field-eq0
unfolding of_bits
returns-then-field-eq0 c =
    let x = c.args.x in
    let p = subnormal x (yes c.well_formed.0.1) (yes c.if-x.true) c.if-field-eq0.true in
    finish x _ _ c.root_bits.result (yes c.if-x.true) p.value p.m_ge p.m_lt p.e_lt c.root_bits.ensures

pub returns-else-field-eq0 : goal.returns-else-field-eq0
unfolding of_bits
returns-else-field-eq0 c =
    let x = c.args.x in
    let p = normal x (yes c.well_formed.0.1) (yes c.if-x.true) c.if-field-eq2047.false c.if-field-eq0.false in
    finish x _ _ c.root_bits-else-field-eq0.result (yes c.if-x.true) p.value p.m_ge p.m_lt p.e_lt c.root_bits-else-field-eq0.ensures

pub returns-then-x-2 : goal.returns-then-x-2
unfolding of_bits div
returns-then-x-2 c = root_below c.args.x (yes c.if-x-2.true)

pub returns-else-x-2 : goal.returns-else-x-2
unfolding of_bits
returns-else-x-2 c =
    root_flat c.args.x (flat c.args.x (yes c.well_formed.0.1) (no c.if-x.false) (no c.if-x-2.false))
