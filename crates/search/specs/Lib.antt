pub mod Answers
pub mod Moods
pub mod States
pub mod Suiting
