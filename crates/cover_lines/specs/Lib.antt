pub mod Cover
pub mod Laws
pub mod Names
pub mod Shapes
pub mod Marks
pub mod Reasons
pub mod Lines
