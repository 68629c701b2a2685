pub mod GraphLayout
pub mod Walk
pub mod Fields
pub mod Forms
pub mod Filling
pub mod Parts
pub mod Ranges
pub mod Table
