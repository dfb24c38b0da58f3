mod Kept
mod Moving
