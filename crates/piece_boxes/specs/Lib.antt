pub mod Brackets
pub mod BracketsLaws
pub mod CurveBoxes
pub mod MeetBoxes
pub mod MeetBoxesLaws
pub mod SampleRows
pub mod SpaceBoxes
pub mod SpaceBoxesLaws
