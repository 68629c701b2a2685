pub mod Blocks
pub mod Arrivals
pub mod Line
pub mod Demand
pub mod Tasks
pub mod Frame
pub mod Fits
pub mod Worked
