pub mod Nets
pub mod Plans
pub mod Clauses
pub mod Laws
