pub mod Filled
pub mod Keys
pub mod Leasts
pub mod Times
pub mod Asked
