pub mod Streams
pub mod Macs
pub mod Unkeyed
