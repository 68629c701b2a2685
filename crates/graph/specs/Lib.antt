pub mod Skip
pub mod Judged
