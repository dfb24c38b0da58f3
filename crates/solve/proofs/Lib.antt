mod Feeding
pub mod Answering
pub mod Certified
pub mod Certifying
pub mod CircuitValues
pub mod Deciding
pub mod Gates
pub mod OneStep
pub mod Ordered
pub mod Passing
pub mod TraceValues
pub mod Traced
pub mod Written
pub mod Taking
