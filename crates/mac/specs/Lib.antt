pub mod Hmac
pub mod Numbers
pub mod inside
