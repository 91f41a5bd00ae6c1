pub mod Joining
pub mod Listings
pub mod Writing
pub mod OfChip
pub mod Answering
