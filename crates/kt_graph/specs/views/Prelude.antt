-- The names that most definitions of this folder cite, passed on from one place. Declares nothing.
pub use Rattle.kt_graph.specs.declared.nodes.node.NodeKind.TheVariants.{Implicit}
pub use Rattle.kt_graph.specs.declared.search.choice.Chosen.{Chosen}
pub use Rattle.kt_graph.specs.declared.search.question.Question.{Question as HeldQuestion}
pub use Rattle.kt_graph.specs.nodes.Node.{of_group, of_pattern}
pub use Rattle.kt_rules.specs.Names.{is_among}
pub use Rattle.std.specs.List.{list_any}
pub use Rattle.std.specs.Prelude.{List, map}
