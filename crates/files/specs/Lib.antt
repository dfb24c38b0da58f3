pub mod Checks
pub mod Endings
pub mod Inputs
pub mod Jobs
pub mod Solve
pub mod Worked
pub mod WorkedInputs
pub mod WorkedVerdicts
