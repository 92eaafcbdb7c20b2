pub mod Table
pub mod Unwind
pub mod Ways
pub mod Laws
pub mod Rows
