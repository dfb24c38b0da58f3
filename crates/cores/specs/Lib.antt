pub mod Cores
pub mod Trials
pub mod Worked
pub mod WorkedTrials
