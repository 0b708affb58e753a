pub mod Several
pub mod Demands
-- inner
pub mod Parting
pub mod SeveralSteps
