pub mod WritableKinds
pub mod ReadsBack
