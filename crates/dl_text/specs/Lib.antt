pub mod Place
pub mod Quote
pub mod Utf16
pub mod Fault
pub mod Shared
