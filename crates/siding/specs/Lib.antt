pub mod Kept
pub mod Branches
pub mod Sheet
pub mod Stands
pub mod Outcome
pub mod Restock
pub mod Hand
pub mod Steps
