pub mod Begun
pub mod inside
pub mod Macs
