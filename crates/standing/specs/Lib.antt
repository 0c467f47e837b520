pub mod Choose
pub mod Number
pub mod Standings
