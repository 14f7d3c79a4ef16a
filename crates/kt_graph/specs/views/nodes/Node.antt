-- The code's own makings as those of the definitions (kati's own).
use Rattle.kt_graph.specs.Prelude.{Instance}
use Rattle.kt_graph.specs.views.Prelude.{of_group, of_pattern}
use Rattle.kt_graph.specs.declared.nodes.node.Instance.{Instance as Held}
use Rattle.kt_graph.specs.declared.nodes.node.Instance.TheVariants as held

-- a making of the code as one of the definitions
abbrev pub instance_view : Held → Instance
instance_view (held.Group first) = of_group first.items
instance_view (held.Pattern rule directory stem) = of_pattern rule directory.items stem.items
