pub mod Keeping
pub mod Knots
