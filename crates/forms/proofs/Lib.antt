pub mod Packing
pub mod Writing
pub mod Unpacking
