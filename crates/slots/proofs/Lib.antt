pub mod Cases
pub mod HashLaw
pub mod ProbeLaw
pub mod LookLaw
