pub mod Writing
mod Fronting
mod Taking
mod Joining
pub mod Parting
