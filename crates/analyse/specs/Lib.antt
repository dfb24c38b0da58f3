pub mod Fronts
pub mod Levels
pub mod Lessons
pub mod Worked
