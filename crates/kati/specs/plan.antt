-- The plan of a graph: from the graph and the makefile, the statements with their commands, or the first text that
-- can't be written. Begin with the definition `planned`.
pub mod Planning
