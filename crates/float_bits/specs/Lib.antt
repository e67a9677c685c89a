pub mod Computations
pub mod FloatBits
pub mod Laws
pub mod Signs
pub mod Special
