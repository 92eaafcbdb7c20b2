pub mod First
pub mod FirstReader
-- what the public clauses cite of the crate below
pub use Rattle.js_tree.specs.Tree
pub use Rattle.js_tree.specs.Plain
pub use Rattle.js_tree.specs.Numbering
