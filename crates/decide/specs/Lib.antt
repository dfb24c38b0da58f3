pub mod Decision
pub mod Memory
pub mod Tree
pub mod Worked
