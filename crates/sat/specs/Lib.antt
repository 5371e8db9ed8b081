pub mod Formula
pub mod Question
