pub mod Choosing
pub mod Remembering
