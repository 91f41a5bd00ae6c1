pub mod Insertion
pub mod Putting
pub mod Retaining
pub mod Rotating
pub mod Thinning
pub mod Sorting
