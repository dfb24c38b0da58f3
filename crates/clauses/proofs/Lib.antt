pub mod Ascending
pub mod Codes
pub mod Rows
pub mod Counting
