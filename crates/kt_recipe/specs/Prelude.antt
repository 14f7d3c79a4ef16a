-- The names that most definitions cite, of the crates below and of the code, passed on from one place. Declares
-- nothing.
pub use Rattle.kt_eval.specs.files.Files.{Store}
pub use Rattle.kt_eval.specs.macros.Macros.{Macros}
pub use Rattle.kt_graph.specs.nodes.Node.{Node, part_lines}
pub use Rattle.kt_recipe.specs.Automatic.{automatic_in}
pub use Rattle.kt_rules.specs.declared.line.entry.RecipeLine.{RecipeLine}
pub use Rattle.kt_rules.specs.declared.place.Place.{Place}
pub use Rattle.kt_text.specs.Words.{Text, is_blank}
pub use Rattle.std.specs.List.{list_any, prefix_len, range_with_len, slice_split}
