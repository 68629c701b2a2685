pub mod Drawing
pub mod Growth
