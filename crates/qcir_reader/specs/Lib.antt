pub mod Grammar
pub mod Rules
pub mod Run
pub mod Reads
pub mod Answers
pub mod Kept
pub mod Represents
pub mod Worked
