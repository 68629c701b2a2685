pub mod Decided
pub mod Vectors
pub mod Bits
pub mod Spreads
pub mod Gather
