pub mod Clauses
pub mod Counts
