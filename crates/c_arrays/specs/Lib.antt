pub mod ArcRecords
pub mod DevelopmentRecords
pub mod FaceRecords
pub mod Laws
pub mod Records
pub mod TraceRecords
