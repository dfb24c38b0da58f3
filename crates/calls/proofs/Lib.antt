pub mod Marked
pub mod Ran
pub mod Splitting
pub mod WorkedLines
