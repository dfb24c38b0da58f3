pub mod Cores
pub mod Gathering
pub mod Theorems
pub mod Worked
