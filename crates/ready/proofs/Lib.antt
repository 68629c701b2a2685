pub mod Sound
pub mod Agree
pub mod Same
pub mod Says
pub mod Places
pub mod Readying
