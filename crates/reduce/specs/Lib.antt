pub mod Deepest
pub mod Worked
