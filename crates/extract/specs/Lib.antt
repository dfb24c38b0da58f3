pub mod Removals
pub mod Tables
pub mod Worked
