pub mod Chip
pub mod Laws
pub mod Listing
pub mod Worked
pub mod Writes
pub mod Answer
