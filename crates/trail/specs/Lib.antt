pub mod Causes
pub mod Finished
pub mod Open
pub mod Spots
pub mod State
pub mod Table
pub mod Worked
