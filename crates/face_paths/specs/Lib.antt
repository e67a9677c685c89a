pub mod ArcPaths
pub mod Laws
pub mod Paths
pub mod PiecePaths
pub mod PieceRates
