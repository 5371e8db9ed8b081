pub mod Below
pub mod Fixes
pub mod Lists
pub mod Steps
