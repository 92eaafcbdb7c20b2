pub mod Scopes
pub mod Search
pub mod Laws
pub mod Rows
