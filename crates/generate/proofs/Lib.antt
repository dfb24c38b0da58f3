pub mod Sorting
pub mod Sequence
pub mod Ranges
pub mod Scoping
pub mod Places
pub mod Forming
