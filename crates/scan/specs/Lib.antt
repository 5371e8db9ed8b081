pub mod Clauses
pub mod Edits
pub mod Rounds
pub mod Values
