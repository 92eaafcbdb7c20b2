pub mod AfterEntry
