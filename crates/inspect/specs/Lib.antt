pub mod Counted
pub mod Shown
