pub mod Graphs
pub mod Lines
pub mod Rows
pub mod Ready
