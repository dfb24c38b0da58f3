pub mod Asking
pub mod Checking
pub mod Choosing
pub mod Completing
pub mod Endings
pub mod Limiting
pub mod Sampling
pub mod Scripting
pub mod Solving
pub mod Statuses
pub mod WorkedChecks
mod WorkedCircuits
pub mod WorkedCommands
mod WorkedFaults
mod WorkedLimits
mod WorkedOutputs
pub mod WorkedVerdicts
pub mod WorkedWords
