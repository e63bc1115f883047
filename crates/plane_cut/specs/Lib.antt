pub mod PlaneCut
pub mod Defaulted
pub mod Comparisons
pub mod Ways
