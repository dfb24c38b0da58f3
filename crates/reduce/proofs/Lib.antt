mod Clashing
mod Reducing
mod Resolving
