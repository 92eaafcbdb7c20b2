-- The simulation between the original run of a script and its written run, one part a file. A new kind of node adds a case to Trees, Nodes
-- and Back, and a new ask one to Monotone, Joins, Relation and Follows.

-- a run under more steps, and a run over a stack
pub mod Monotone
pub mod Joins
-- what stands for what
pub mod Trees
pub mod Values
pub mod Relation
-- the programs of nodes and entries, and the run of a stub
pub mod Nodes
pub mod StubRuns
-- the induction, the scripts of sites, and whole runs
pub mod Follows
pub mod Back
pub mod Lates
pub mod Whole
