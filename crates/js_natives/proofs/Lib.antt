pub mod Avoiding
pub mod Steps
