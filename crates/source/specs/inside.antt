-- How the clauses see the structs of the code; used only inside the crate.
pub mod Bytes
pub mod FixedSink
pub mod VecSink
pub mod Device
pub mod Front
pub mod AnyHash
pub mod Parts
