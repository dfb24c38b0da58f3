pub mod Building
pub mod NewScope
pub mod Rows
pub mod Worked
