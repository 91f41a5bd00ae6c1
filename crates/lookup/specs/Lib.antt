pub mod Found
pub mod Inserts
pub mod Rows
pub mod Sorts
