pub mod Quads
pub mod Schedules
pub mod Schedules512
pub mod Taken
