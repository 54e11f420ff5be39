pub mod PartLine
pub mod Laws
pub mod Joined
pub mod inside
