pub mod Flat
pub mod Read
pub mod Links
pub mod Trial
pub mod Knot
pub mod Net
pub mod Falling
