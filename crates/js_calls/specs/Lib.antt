pub mod Declared
pub mod FunctionObjects
pub mod Entry
pub mod Construct
pub mod Apply
pub mod Laws
pub mod Rows
