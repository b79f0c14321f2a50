mod Kept
mod Folded
mod Saved
mod Writing
mod Explained
mod Converted
