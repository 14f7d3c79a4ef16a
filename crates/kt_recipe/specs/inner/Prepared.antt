-- Texts of which all but the automatic macros is known before any node is, and lines that are kept with them (the
-- crate's own).
use Rattle.std.specs.Prelude.{◌≡◌, ℕ, false, List, [], ◌∷◌, ◌++◌, IfSome, Option, Some}
use Rattle.kt_recipe.specs.Prelude.{Text, Place, Macros, Node, automatic_in}
use Rattle.kt_recipe.specs.inner.Prelude.{Gave, Step, NamePart, Subject, subject_names_in}
use Rattle.kt_eval.specs.State.{frozen_world}
use Rattle.kt_eval.specs.expanding.Expansion.{expanded}
use Rattle.kt_eval.specs.expanding.Levels.{evaluator}
use Rattle.kt_eval.specs.expanding.TextFunctions.{text_result}
use Rattle.kt_text.specs.declared.functions.text_function.TextFunction.{TextFunction}
use Rattle.kt_recipe.specs.declared.kept.KeptLine.{KeptLine}
use Rattle.kt_recipe.specs.declared.prepared.Gap.{Gap}
use Rattle.kt_recipe.specs.declared.prepared.PreparedText.{PreparedText}
use Rattle.kt_recipe.specs.Forms.{names_text_in}
use Rattle.kt_recipe.specs.views.Commands.{Commands}
use Rattle.kt_recipe.specs.Shell.{expansion, setting_of}

-- the automatic macros of a part of a node, each after the text before it
unfoldable pub filled_gaps : Node → ℕ → List Gap → Text
filled_gaps node part [] = []
filled_gaps node part (gap ∷ gaps) =
    gap.before ++ (names_text_in gap.form (subject_names_in node part gap.subject) ++ filled_gaps node part gaps)

-- what pieces are in a part of a node
unfoldable pub filled : Node → ℕ → PreparedText → Text
filled node part pieces = filled_gaps node part pieces.gaps.items ++ pieces.end.items

-- a text is put after pieces that stand for a step: in each part of each node, with these macros, the step gives it
-- and leaves all else as it was
abbrev pub Adds : Macros → Step Text → PreparedText → PreparedText → Type 0
Adds table step old new =
    (node : Node) (part : ℕ) (place : Option Place) (said : List Text)
    → (text : Text) × (filled node part new ≡ filled node part old ++ text)
    × (step (frozen_world table (automatic_in node part) place said)
    ≡ Gave (frozen_world table (automatic_in node part) place said) text)

-- a known text is put after pieces, or an automatic macro
abbrev pub AddsText : Text → PreparedText → PreparedText → Type 0
AddsText text old new = (node : Node) (part : ℕ) → filled node part new ≡ filled node part old ++ text

abbrev pub AddsMacro : Subject → NamePart → PreparedText → PreparedText → Type 0
AddsMacro subject form old new =
    (node : Node) (part : ℕ) → filled node part new ≡ filled node part old
    ++ names_text_in form (subject_names_in node part subject)

-- a text that a text function gives for its arguments is put after pieces
abbrev pub AddsResult : TextFunction → List Text → PreparedText → PreparedText → Type 0
AddsResult function arguments old new =
    (text : Text) × (text_result function arguments ≡ Some text) × AddsText text old new

-- pieces are a text in each part of each node
abbrev pub AreText : PreparedText → Text → Type 0
AreText pieces text = (node : Node) (part : ℕ) → filled node part pieces ≡ text

-- what a step gives in each part of each node, with these macros; it leaves all else as it was
abbrev pub IsKnown : {A : Type 0} → Macros → Step A → A → Type 0
IsKnown table step value =
    (node : Node) (part : ℕ) (place : Option Place) (said : List Text)
    → step (frozen_world table (automatic_in node part) place said)
    ≡ Gave (frozen_world table (automatic_in node part) place said) value

-- the pieces are what a text expands to in each part of each node
abbrev pub IsPrepared : Macros → ℕ → Text → PreparedText → Type 0
IsPrepared table limit text pieces =
    (node : Node) (part : ℕ) (place : Option Place) (said : List Text)
    → expanded (evaluator false [] limit) text (frozen_world table (automatic_in node part) place said)
    ≡ Gave (frozen_world table (automatic_in node part) place said) (filled node part pieces)

-- the pieces of a line, if it has some, are those of its text
abbrev pub IsRightLine : Macros → ℕ → KeptLine → Type 0
IsRightLine table limit line = IfSome line.pieces (λ pieces. IsPrepared table limit line.text.items pieces)

-- a text is what a line expands to in a part of a node, at each place, and nothing is said
abbrev pub IsFilled : Commands → Text → Node → ℕ → Text → Type 0
IsFilled commands line node part text =
    (place : Place) (said : List Text)
    → expansion (setting_of commands.table (automatic_in node part) commands.limit place) line said ≡ Gave said text
