pub mod Words
pub mod Ends
pub mod Formats
pub mod View
