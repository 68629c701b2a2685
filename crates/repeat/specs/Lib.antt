pub mod Words
pub mod Repetition
