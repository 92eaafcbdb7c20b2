pub mod Unwinding
pub mod Walking
