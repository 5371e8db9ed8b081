pub mod Count
mod Each
pub mod Sublists
mod Table
