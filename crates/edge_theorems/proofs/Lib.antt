pub mod ArcFiles
