pub mod Letters
pub mod Numbers
pub mod Grammar
pub mod Scripts
pub mod FirstLaws
pub mod Results
pub mod Trees
