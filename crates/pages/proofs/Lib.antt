mod Stored
mod Joining
mod Paged
mod Filled
mod Flags
