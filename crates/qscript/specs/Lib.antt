pub mod Lines
pub mod Reads
pub mod Run
pub mod State
pub mod Worked
