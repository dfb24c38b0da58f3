pub mod Lists
pub mod Opposites
pub mod Sorting
pub mod Adding
pub mod Finishing
pub mod Scoping
pub mod Working
