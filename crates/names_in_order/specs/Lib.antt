pub mod Owned
pub mod Places
pub mod Held
pub mod InOrder
pub mod Marked
pub mod Laws
pub mod Room
pub mod Prelude
