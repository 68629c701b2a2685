pub mod Sums
pub mod Row
pub mod Costs
pub mod Multiples
pub mod Writes
pub mod TaskLists
