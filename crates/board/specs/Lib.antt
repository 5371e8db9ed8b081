pub mod Rows
pub mod Refusals
pub mod Finds
pub mod Held
pub mod Views
pub mod Laws
pub mod Measure
