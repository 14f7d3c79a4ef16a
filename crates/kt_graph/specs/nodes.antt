-- What makes a name and what it needs: from rules, known names and a name, its node. Begin with the definition
-- `node_of` in `Node`; `Groups` defines which nodes are made together.
pub mod Node
pub mod Groups
