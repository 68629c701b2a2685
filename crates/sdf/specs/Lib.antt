pub mod Graph
pub mod Order
pub mod Balance
pub mod Skip
pub mod Sum
