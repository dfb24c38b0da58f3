pub mod Lent
pub mod Words
pub mod Calls
pub mod Worked
