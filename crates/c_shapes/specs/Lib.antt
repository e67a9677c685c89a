pub mod CurveRecords
pub mod PieceRecords
pub mod SurfaceRecords
