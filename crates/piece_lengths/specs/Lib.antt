pub mod Counts
pub mod CountsLaws
pub mod Measures
pub mod MeasuresLaws
pub mod SecondDerivatives
pub mod SecondDerivativesLaws
