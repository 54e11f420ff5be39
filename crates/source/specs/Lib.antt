pub mod Counts
pub mod Read
pub mod Written
pub mod Pumped
pub mod Faults
pub mod inside
