pub mod Arena
pub mod Blocks
pub mod Places
pub mod Spots
pub mod Stored
pub mod Worked
