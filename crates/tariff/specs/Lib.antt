pub mod Rule
pub mod Amounts
pub mod Tables
pub mod Pairs
pub mod Charges
pub mod Filling
pub mod Grades
pub mod Lawful
