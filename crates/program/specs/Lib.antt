pub mod Asked
pub mod Complete
pub mod Run
pub mod Told
pub mod Words
pub mod Work
