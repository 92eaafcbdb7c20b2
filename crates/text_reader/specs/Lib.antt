pub mod Reader
pub mod Gives
