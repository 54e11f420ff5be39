pub mod Numbers
pub mod Line
pub mod Read
pub mod Cut
pub mod inside
