pub mod Clauses
pub mod Numbers
