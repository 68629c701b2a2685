pub mod Verdict
pub mod Calls
pub mod C
pub mod Held
