-- What contracts see of the parts that were joined.
pub mod Few
pub mod Joiner
pub mod Reader
