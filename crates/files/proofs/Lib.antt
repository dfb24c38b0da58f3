pub mod Checking
pub mod Circuits
pub mod InputValues
pub mod JobValues
pub mod Jobs
pub mod NoGates
pub mod Outermost
pub mod Repeated
