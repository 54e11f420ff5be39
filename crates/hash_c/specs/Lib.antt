pub mod inside
pub mod Statuses
pub mod Unkeyed
pub mod Lists
