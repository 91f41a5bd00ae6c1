pub mod Sound
pub mod Table
pub mod Tree
