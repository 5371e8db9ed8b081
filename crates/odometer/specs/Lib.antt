pub mod Candidate
pub mod Counter
