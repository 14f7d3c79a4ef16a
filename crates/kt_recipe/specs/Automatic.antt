-- The automatic macros of a recipe (POSIX.1-2024 make, "Internal Macros"; GNU make manual, "Automatic Variables").
use Rattle.std.specs.Prelude.{ℕ, Bool, true, false, not, List, [], ◌∷◌, map, flat_map, filter, take, slice_get, codes}
use Rattle.kt_text.specs.Words.{Text, is_nonempty}
use Rattle.kt_rules.specs.declared.line.entry.Needs.{Needs}
use Rattle.kt_rules.specs.Names.{is_among, without_repeats}
use Rattle.kt_eval.specs.files.Files.{Store}
use Rattle.kt_graph.specs.nodes.Node.{Node, part_needed, part_order_only, part_stem}
use Rattle.kt_recipe.specs.declared.forms.NamePart.{NamePart}
use Rattle.kt_recipe.specs.declared.forms.NamePart.TheVariants.{Whole, Directory, File}
use Rattle.kt_recipe.specs.declared.subjects.Subject.{Subject}
use Rattle.kt_recipe.specs.declared.subjects.Subject.TheVariants.{Target, First, Each, Every, OrderOnly, Stem, Member}
use Rattle.kt_recipe.specs.Forms.{names_text_in}

-- the marks `@ < ^ + | * %` and the question mark, with the subject of each; files aren't looked at, so all
-- prerequisites count as newer (kati's own)
abbrev pub marks : List (ℕ × Subject)
marks =
    (64, Target) ∷ (60, First) ∷ (94, Each) ∷ (63, Each) ∷ (43, Every) ∷ (124, OrderOnly) ∷ (42, Stem)
    ∷ (37, Member) ∷ []

-- whether a `D` or `F` may come after the mark; after `|` none may [Automatic Variables], nor after `%` (kati's own)
abbrev pub has_parts : Subject → Bool
has_parts OrderOnly = false
has_parts Member = false
has_parts other = true

-- what may come after a mark, and the form that it asks for
abbrev pub endings : Bool → List (Text × NamePart)
endings true = ([], Whole) ∷ (codes "D", Directory) ∷ (codes "F", File) ∷ []
endings false = ([], Whole) ∷ []

-- the names of a subject in a rule of a target; an empty stem is no name, and a name that is also a normal prerequisite
-- isn't order-only [Types of Prerequisites]
unfoldable pub subject_names : Text → Text → Needs → Subject → List Text
subject_names target stem needs Target = target ∷ []
subject_names target stem needs First = take 1 needs.prerequisites
subject_names target stem needs Each = without_repeats needs.prerequisites
subject_names target stem needs Every = needs.prerequisites
subject_names target stem needs OrderOnly =
    filter (λ name. not (is_among (without_repeats needs.prerequisites) name)) (without_repeats needs.order_only)
subject_names target stem needs Stem = filter is_nonempty (stem ∷ [])
subject_names target stem needs Member = []

-- the prerequisites of a part of a node, which has those of its own rule alone [Double-Colon Rules]; a part that the
-- node doesn't have has none
abbrev pub part_needs : Node → ℕ → Needs
part_needs node part = record {
  prerequisites = part_needed (slice_get node.parts part);
  order_only = part_order_only (slice_get node.parts part);
}

-- the names of a subject in a part of a node, by the stem and prerequisites of that part
abbrev pub subject_names_in : Node → ℕ → Subject → List Text
subject_names_in node part subject =
    subject_names node.name (part_stem (slice_get node.parts part)) (part_needs node part) subject

-- the macros of a mark, with what may come after it
abbrev pub of_mark : Node → ℕ → Subject → Store
of_mark node part subject =
    map (λ ending. (ending.0, names_text_in ending.1 (subject_names_in node part subject)))
    (endings (has_parts subject))

-- the automatic macros in the recipe of a part of a node: their names and values
unfoldable pub automatic_in : Node → ℕ → Store
automatic_in node part = flat_map (λ mark. map (λ macro. (mark.0 ∷ macro.0, macro.1)) (of_mark node part mark.1)) marks
