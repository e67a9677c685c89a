-- What the entries on cones and frames are due to answer: the numbers handed in are tried, then the
-- formula is worked out.
use Rattle.std.specs.Prelude.{Bool, ◌&&◌, Float}
use Rattle.checked.specs.Refusals.{OUT_OF_RANGE}
use Rattle.checked.specs.Checked.{within, Due, answered}
use Rattle.checked.specs.Tests.{fails, passing}
use Rattle.vectors.specs.declared.Vec3.{Vec3}
use Rattle.vectors.specs.Vectors.{within3, space}
use Rattle.cones.specs.declared.Cone.{Cone}
use Rattle.cones.specs.declared.Frame.{Frame}
use Rattle.cones.specs.Frames.{frame_c, angle_c, point_c}

-- every number of a cone, and of a frame, passes the test of what is handed in
unfoldable pub cone_within : Cone → Bool
cone_within c = within3 c.origin && (within3 c.axis && (within c.radius && within c.slope))

unfoldable pub frame_within : Frame → Bool
frame_within f = within3 f.axis && (within3 f.origin && (within3 f.e1 && within3 f.e2))

-- `frame`
unfoldable pub frame_due : Cone → Due Frame
frame_due c = passing (fails OUT_OF_RANGE (cone_within c)) (answered (frame_c c))

-- `Frame::angle`
unfoldable pub angle_due : Frame → Vec3 → Due Float
angle_due f p = passing (fails OUT_OF_RANGE (frame_within f && within3 p)) (answered (angle_c f p))

-- `Frame::point`: an angle and two lengths are handed in
unfoldable pub point_due : Frame → Float → Float → Float → Due Vec3
point_due f theta z r = passing (fails OUT_OF_RANGE (frame_within f && within3 (space theta z r))) (answered (point_c f theta z r))
