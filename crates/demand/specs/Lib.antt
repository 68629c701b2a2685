pub mod Lent
pub mod Rows
pub mod Answers
pub mod Written
