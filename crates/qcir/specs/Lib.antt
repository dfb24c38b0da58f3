pub mod Building
pub mod Translation
pub mod Truth
pub mod Worked
