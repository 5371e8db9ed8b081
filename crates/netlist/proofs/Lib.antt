pub mod Acting
pub mod Listed
pub mod Numbers
pub mod Parts
pub mod Progress
pub mod Sequences
pub mod Sets
pub mod Unique
