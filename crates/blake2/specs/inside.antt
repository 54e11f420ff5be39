pub mod Lengths
pub mod Listed
pub mod Held
pub mod Hashers
pub mod Rooms
pub mod States
