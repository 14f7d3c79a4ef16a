-- Nodes in the code's own types, and the law of groups.
pub mod Groups
pub mod Node
