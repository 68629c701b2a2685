pub mod Ends
pub mod Places
pub mod Chains
pub mod Firing
pub mod Toward
