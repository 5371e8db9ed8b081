pub mod Buffers
pub mod Formulas
pub mod Text
pub mod Filling
pub mod Ranks
pub mod Sets
pub mod Blocks
