pub mod Answers
pub mod Differing
