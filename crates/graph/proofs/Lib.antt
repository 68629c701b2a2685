pub mod Reaching
pub mod Lowering
