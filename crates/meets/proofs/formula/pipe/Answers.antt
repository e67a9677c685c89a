use Rattle.meets.specs.Meets.{pipe_c}
use Rattle.meets.proofs.formula.pipe.Goals as goal

pub returns-in-None : goal.returns-in-None
unfolding pipe_c
returns-in-None c = simp (c.own_pipe.ensures, c.in-None.is)

pub returns-in-Some : goal.returns-in-Some
unfolding pipe_c
returns-in-Some c = simp (c.other_pipe.ensures, c.in-Some.is)
