pub mod Arrivals
pub mod Demand
pub mod Bounds
pub mod Frame
pub mod Tasks
