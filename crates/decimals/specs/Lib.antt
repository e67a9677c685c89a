pub mod Thousandths
pub mod Digits
pub mod DigitLaws
pub mod Examples
