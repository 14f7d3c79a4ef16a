-- The automatic macros of a part as they are held (kati's own).
use Rattle.std.specs.Prelude.{ℕ}
use Rattle.kt_graph.specs.nodes.Node.{Node}

-- a node's part as its automatic macros are held
pub record PartMacros : Type 0 where
  pub node : Node
  pub part : ℕ
