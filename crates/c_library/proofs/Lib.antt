mod AsBox
mod Joining
mod Opening
mod Saying
