pub mod Paging
pub mod Words
pub mod Worked
