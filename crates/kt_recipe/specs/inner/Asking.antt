-- How the code finds the subject and form of an automatic macro by its name (the crate's own).
use Rattle.std.specs.Prelude.{ℕ, Bool, ◌&&◌, ◌==◌, List, [], ◌∷◌, Option, Some, None, length, option_map, if◌then◌else◌}
use Rattle.std.specs.Option.{option_and_then}
use Rattle.kt_recipe.specs.Prelude.{Text, Node}
use Rattle.kt_recipe.specs.inner.Prelude.{NamePart, Subject, marks, has_parts, subject_names_in}
use Rattle.kt_recipe.specs.declared.forms.NamePart.TheVariants.{Whole, Directory, File}
use Rattle.kt_recipe.specs.Forms.{names_text_in}

-- the subject of a mark
abbrev pub subject_in : List (ℕ × Subject) → ℕ → Option Subject
subject_in [] mark = None
subject_in (first ∷ others) mark = if first.0 == mark then Some first.1 else subject_in others mark

unfoldable pub subject_of : ℕ → Option Subject
subject_of mark = subject_in marks mark

-- the form of a letter
abbrev pub letter_part : ℕ → Option NamePart
letter_part letter = if 68 == letter then Some Directory else (if 70 == letter then Some File else None)

abbrev pub parted : Subject → ℕ → Option (Subject × NamePart)
parted subject letter = if has_parts subject then option_map (λ form. (subject, form)) (letter_part letter) else None

-- the subject and form of the automatic macro with this name, if there is one
unfoldable pub subject_and_part : Text → Option (Subject × NamePart)
subject_and_part [] = None
subject_and_part (mark ∷ []) = option_map (λ subject. (subject, Whole)) (subject_of mark)
subject_and_part (mark ∷ letter ∷ []) = option_and_then (λ subject. parted subject letter) (subject_of mark)
subject_and_part (mark ∷ letter ∷ other ∷ more) = None

-- its value in a part of a node
unfoldable pub macro_in : Node → ℕ → Text → Option Text
macro_in node part macro =
    option_map (λ asked. names_text_in asked.1 (subject_names_in node part asked.0)) (subject_and_part macro)

-- whether a node has this part alone
unfoldable pub is_only_part : Node → ℕ → Bool
is_only_part node part = part == 0 && length node.parts == 1
