pub mod Busy
pub mod Ending
pub mod Parts
pub mod Cycles
pub mod Glances
pub mod Searching
