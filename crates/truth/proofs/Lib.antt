pub mod PlainSteps
pub mod OrderLemmas
pub mod SearchLemmas
pub mod ResumeLemmas
