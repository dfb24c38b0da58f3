pub mod Clause
pub mod Codes
pub mod Worked
