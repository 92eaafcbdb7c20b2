pub mod Digits
pub mod Words
pub mod Trimming
pub mod Capped
pub mod NumberLaws
pub mod EqualityLaws
pub mod TextLaws
pub mod GrammarLaws
