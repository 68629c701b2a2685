pub mod Decides
pub mod Vector
pub mod Sets
