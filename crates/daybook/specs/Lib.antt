pub mod Input
pub mod Line
pub mod Opening
pub mod Answer
pub mod Day
pub mod Acts
