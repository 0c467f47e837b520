pub mod Quote
pub mod Promise
pub mod Shown
