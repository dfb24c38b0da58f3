pub mod Marking
pub mod Told
pub mod Ordering
pub mod Numbering
pub mod Used
pub mod Linking
pub mod Finishing
