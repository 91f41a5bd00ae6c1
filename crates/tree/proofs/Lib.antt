pub mod Agreeing
pub mod Deciding
pub mod Finding
pub mod Grown
pub mod Ordered
pub mod Paths
pub mod Sharing
