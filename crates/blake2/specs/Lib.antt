pub mod Blake2
pub mod Faults
pub mod Begun
pub mod inside
