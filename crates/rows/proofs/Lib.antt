pub mod Arenas
pub mod Blocking
pub mod Cutting
pub mod Parts
pub mod Shortening
pub mod Storing
pub mod Gone
pub mod Standing
