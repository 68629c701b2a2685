pub mod Answer
pub mod Field
pub mod Layout
pub mod Sizes
pub mod Fields
pub mod Check
pub mod Forms
