-- The names that most definitions cite, of the crates below and of the code, passed on from one place. Declares
-- nothing.
pub use Rattle.kt_graph.specs.nodes.Node.{Instance, Node, all_inputs, is_leaf, node_of}
pub use Rattle.kt_rules.specs.Book.{first_goal_of}
pub use Rattle.kt_rules.specs.Entry.{Entry}
pub use Rattle.kt_rules.specs.Names.{without_dots, without_repeats}
pub use Rattle.kt_text.specs.Words.{Text, is_nonempty, stripped}
pub use Rattle.std.specs.Cmp.Lexicographic.{slice_cmp}
pub use Rattle.std.specs.List.{Contains, join_with_byte, slice_split}
pub use Rattle.std.specs.List.Sorted.{IsStrictlySortedBy}
pub use Rattle.std.specs.Option.{option_map_or}
pub use Rattle.std.specs.Ordering.{nat_cmp}
pub use Rattle.std.specs.Prelude.{None}
