-- The names that most definitions of this folder cite, passed on from one place. Declares nothing.
pub use Rattle.kt_graph.specs.declared.nodes.node.NodeKind.{NodeKind}
pub use Rattle.kt_graph.specs.declared.nodes.node.NodeKind.TheVariants.{Explicit, Leaf}
pub use Rattle.kt_graph.specs.nodes.Node.{Part, group_of, own_part, suffix_stem}
pub use Rattle.kt_graph.specs.search.Candidates.{Candidate, needs_with}
pub use Rattle.kt_graph.specs.views.search.Search.{with_question}
pub use Rattle.kt_list.specs.Names.{with_name}
pub use Rattle.kt_list.specs.Prefixes.{IsPrefix}
pub use Rattle.kt_list.specs.views.Names.{AreBelow, place_of}
pub use Rattle.kt_list.specs.views.Prefixes.{HasMore}
pub use Rattle.kt_rules.specs.Book.{has_recipe, is_double, patterns_of}
pub use Rattle.kt_rules.specs.Entry.{needs_for}
pub use Rattle.kt_rules.specs.Suffixes.{all_needs, suffixes_of}
pub use Rattle.kt_rules.specs.declared.line.entry.Needs.{Needs}
pub use Rattle.kt_rules.specs.declared.line.entry.RecipeLine.{RecipeLine}
pub use Rattle.kt_rules.specs.declared.line.entry.Target.{Target}
pub use Rattle.kt_rules.specs.views.Book.{AreMadeAlike}
pub use Rattle.kt_rules.specs.views.Targets.{rule_view}
pub use Rattle.std.specs.List.{AllZip, IsDistinct, after_last, before_last, count_by, list_all, range_with_len, slice_range}
pub use Rattle.std.specs.Option.{option_and_then, option_to_list}
pub use Rattle.std.specs.Ordering.{ordering_then}
pub use Rattle.std.specs.Prelude.{IfSome, Option, Some, Vec, slice_get, slice_set}
