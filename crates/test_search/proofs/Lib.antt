pub mod Boards
pub mod Grouped
