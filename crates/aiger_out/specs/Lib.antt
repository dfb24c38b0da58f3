pub mod Text
pub mod Aag
pub mod Binary
pub mod Theorems
pub mod Written
pub mod Worked
pub mod WorkedBinary
