pub mod Sources
pub mod Reading
pub mod Laws
pub mod FaultTexts
