pub mod Answered
pub mod Counted
pub mod Counts
pub mod Dense
pub mod Rows
pub mod Split
pub mod Steps
pub mod Written
