pub mod Faults
pub mod Lines
pub mod Notices
pub mod Pieces
pub mod Place
pub mod Reads
