use Rattle.surfaces.specs.Surfaces.{moved_c}
use Rattle.checked.specs.ToldLaws.{exit_is, none_met, value_is, met_is, rules as told_rules}
use mathlib.Core.Path.{◌∙◌}
use Rattle.surfaces.proofs.formula.moved.Goals as goal

pub returns-in_err-x-in-Plane : goal.returns-in_err-x-in-Plane
unfolding moved_c
returns-in_err-x-in-Plane c = exit_is _ _ c.from_residual.ensures ∙ simp (c.in-Plane.is, met_is _ _ c.in_err-x-in-Plane.ensures, told_rules)

pub returns-in_ok-x-in-Plane : goal.returns-in_ok-x-in-Plane
unfolding moved_c
returns-in_ok-x-in-Plane c =
    let x = c.in_ok-x-in-Plane.ensures in
    simp (c.in-Plane.is, none_met _ _ x, value_is _ _ x, told_rules)

pub returns-in_err-x-in-Cylinder : goal.returns-in_err-x-in-Cylinder
unfolding moved_c
returns-in_err-x-in-Cylinder c = exit_is _ _ c.from_residual-in_err-x-in-Cylinder.ensures ∙ simp (c.in-Cylinder.is, met_is _ _ c.in_err-x-in-Cylinder.ensures, told_rules)

pub returns-in_ok-x-in-Cylinder : goal.returns-in_ok-x-in-Cylinder
unfolding moved_c
returns-in_ok-x-in-Cylinder c =
    let x = c.in_ok-x-in-Cylinder.ensures in
    simp (c.in-Cylinder.is, none_met _ _ x, value_is _ _ x, told_rules)

pub returns-in_err-x-in-Cone : goal.returns-in_err-x-in-Cone
unfolding moved_c
returns-in_err-x-in-Cone c = exit_is _ _ c.from_residual-in_err-x-in-Cone.ensures ∙ simp (c.in-Cone.is, met_is _ _ c.in_err-x-in-Cone.ensures, told_rules)

pub returns-in_ok-x-in-Cone : goal.returns-in_ok-x-in-Cone
unfolding moved_c
returns-in_ok-x-in-Cone c =
    let x = c.in_ok-x-in-Cone.ensures in
    simp (c.in-Cone.is, none_met _ _ x, value_is _ _ x, told_rules)

pub returns-in_err-moved_piece-in-Wall : goal.returns-in_err-moved_piece-in-Wall
unfolding moved_c
returns-in_err-moved_piece-in-Wall c = exit_is _ _ c.from_residual-in_err-moved_piece-in-Wall.ensures ∙ simp (c.in-Wall.is, met_is _ _ c.in_err-moved_piece-in-Wall.ensures, told_rules)

pub returns-in_ok-moved_piece-in-Wall : goal.returns-in_ok-moved_piece-in-Wall
unfolding moved_c
returns-in_ok-moved_piece-in-Wall c =
    let x = c.in_ok-moved_piece-in-Wall.ensures in
    simp (c.in-Wall.is, none_met _ _ x, value_is _ _ x, told_rules)
