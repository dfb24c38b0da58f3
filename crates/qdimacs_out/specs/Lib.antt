pub mod Texts
pub mod Pieces
pub mod Writable
pub mod Theorems
pub mod Worked
