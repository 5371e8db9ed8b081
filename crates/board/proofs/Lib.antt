pub mod Counts
pub mod Edits
pub mod Ends
pub mod Full
pub mod Laws
pub mod Rows
pub mod Spans
pub mod Walk
