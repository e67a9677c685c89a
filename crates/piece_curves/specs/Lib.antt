pub mod MeetCurves
pub mod MeetCurvesLaws
pub mod PieceCurves
pub mod Points
pub mod PointsLaws
pub mod SpacePoints
