pub mod ActsRead
pub mod Days
pub mod Digits
pub mod Lines
pub mod Numbers
pub mod Sayings
