pub mod Lists
pub mod Marking
pub mod Moves
pub mod Ranks
pub mod Rebuilding
pub mod Small
pub mod Trimming
