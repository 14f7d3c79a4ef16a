-- The text of a recipe line, as cuts of its physical lines with their mask beside them (GNU make manual, "Splitting
-- Recipe Lines"; that a continuation goes outside references, too, and carriage returns are kati's own).
use Rattle.std.specs.Prelude.{◌≡◌, ◌≢◌, ◌⊎◌, ℕ, ◌-◌, true, false, List, [], ◌∷◌, ◌++◌, length, drop, slice_index}
use Rattle.std.specs.List.{flat_map, list_any}
use Rattle.kt_syntax.specs.Prelude.{Text, inside, mask_of}
use Rattle.kt_text.specs.Lines.{is_continued_text, newline_pieces}
use Rattle.kt_text_laws.specs.Condensing.{FirstStands, HasNoNewline, IsNewline, Spacing, StandsAfter, is_continuation, spelled}
use Rattle.kt_syntax.specs.declared.recipe.Joint.TheVariants.{Edge}
use Rattle.kt_syntax.specs.Recipes.{recipe_lines, recipe_of}

-- by the mask from its begin on, the newline of a continuation is inside a reference
abbrev pub IsInside : List ℕ → Spacing → Type 0
IsInside mask one = slice_index mask (length (spelled one) - 1) ≡ inside

-- each continuation of a run is inside references
abbrev pub AreInside : List ℕ → List Spacing → Type 0
AreInside mask [] = Unit {0}
AreInside mask (one ∷ run) = (is_continuation one ≡ true → IsInside mask one)
    × AreInside (drop (length (spelled one)) mask) run

-- a maximal run of blanks and of such continuations, with a continuation in it, between two texts
pub record IsInnerGap (mask : List ℕ) (front : Text) (run : List Spacing) (back : Text) : Type 0 where
  pub holds : list_any is_continuation run ≡ true
  pub stands : FirstStands front run
  pub within : AreInside (drop (length front) mask) run
  pub before : (text : Text) (one : Spacing) → StandsAfter text one → front ≢ text ++ spelled one
  pub after : (one : Spacing) (text : Text)
      → (is_continuation one ≡ true → IsInside (drop (length (front ++ flat_map spelled run)) mask) one)
      → back ≢ spelled one ++ text

-- a continuation outside references
pub record IsOuter (mask : List ℕ) (front : Text) (one : Spacing) : Type 0 where
  pub is : is_continuation one ≡ true
  pub stands : is_continued_text front ≡ false
  pub outside : ¬ IsInside (drop (length front) mask) one

-- a tab before a text, or none where it doesn't begin with one
abbrev pub IsOneTab : Text → Text → Type 0
IsOneTab tab back = (tab ≡ 9 ∷ []) ⊎ ((tab ≡ []) × (slice_index back 0 ≢ 9))

-- what is done at the first newline of a text: it stays where it isn't continued, without its carriage return; outside
-- references a continuation goes, and one tab after it; inside, a maximal run with a continuation in it is one space
pub record Splices (splice : List ℕ → Text → Text) : Type 0 where
  pub stays : (mask : List ℕ) (text : Text) → HasNoNewline text → splice mask text ≡ text
  pub newline : (mask : List ℕ) (front mark back : Text) → HasNoNewline front → IsNewline front mark
      → splice mask (front ++ (mark ++ back)) ≡ front ++ (10 ∷ splice (drop (length (front ++ mark)) mask) back)
  pub outer : (mask : List ℕ) (front : Text) (one : Spacing) (tab back : Text) → HasNoNewline front
      → IsOuter mask front one → IsOneTab tab back
      → splice mask (front ++ (spelled one ++ (tab ++ back)))
      ≡ front ++ splice (drop (length (front ++ (spelled one ++ tab))) mask) back
  pub inner : (mask : List ℕ) (front : Text) (run : List Spacing) (back : Text) → HasNoNewline front
      → IsInnerGap mask front run back
      → splice mask (front ++ (flat_map spelled run ++ back))
      ≡ front ++ (32 ∷ splice (drop (length (front ++ flat_map spelled run)) mask) back)

-- a text spliced by its mask
abbrev pub spliced : List ℕ → Text → Text
spliced mask text = recipe_lines Edge mask (newline_pieces text)

-- the text that is computed, and no other
pub record SplicingLaw : Type 0 where
  pub whole : (text : Text) → recipe_of text ≡ spliced (mask_of text) text
  pub is : Splices spliced
  pub only : (splice : List ℕ → Text → Text) → Splices splice → (mask : List ℕ) (text : Text)
      → splice mask text ≡ spliced mask text
