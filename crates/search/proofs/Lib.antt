pub mod Beginning
pub mod Lowest
pub mod Moments
pub mod Trails
pub mod Weights
pub mod Writing
