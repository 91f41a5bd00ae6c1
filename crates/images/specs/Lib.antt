pub mod Pages
pub mod Bytes
pub mod Writes
