pub mod AcceptedTexts
pub mod RefusedTexts
pub mod TextRowLemmas
pub mod texts
