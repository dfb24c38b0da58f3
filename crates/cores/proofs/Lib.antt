pub mod Fewer
pub mod Keeping
pub mod Minimal
pub mod Refuting
pub mod Trying
pub mod Working
pub mod WorkingTrials
