pub mod Programming
