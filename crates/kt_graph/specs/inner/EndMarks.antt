-- Marks for the ends of names, as the code holds them (kati's own).
use Rattle.std.specs.Prelude.{◌≡◌, ℕ, ◌+◌, ◌-◌, ◌*◌, ◌%◌, ◌<◌, Bool, true, false, List, get_or, length}
use Rattle.kt_graph.specs.inner.Prelude.{Option, Some, slice_get, slice_set}
use Rattle.kt_graph.specs.Prelude.{None, Text}
use Rattle.kt_graph.specs.views.Prelude.{is_among}

-- the place of the mark for a text's last two bytes
abbrev pub end_mark_place : Text → ℕ
end_mark_place text = get_or text (length text - 2) 0 % 64 * 64 + get_or text (length text - 1) 0 % 64

-- whether the end of a text is marked; one that has no place for a mark counts as marked
abbrev pub has_marked_end : List Bool → Text → Bool
has_marked_end ends text = get_or ends (end_mark_place text) true

-- marks with that of one more end
abbrev pub with_end : List Bool → Text → List Bool
with_end ends text = slice_set ends (end_mark_place text) true

abbrev pub with_end_of : List Bool → Option Text → List Bool
with_end_of ends None = ends
with_end_of ends (Some text) = with_end ends text

-- what is marked stays marked
abbrev pub KeepsEnds : List Bool → List Bool → Type 0
KeepsEnds old new = (text : Text) → has_marked_end old text ≡ true → has_marked_end new text ≡ true

-- the ends of these names are marked
abbrev pub AreMarked : List Bool → List Text → Type 0
AreMarked ends names = (name : Text) → is_among names name ≡ true → has_marked_end ends name ≡ true

-- of the first so many names, the ends of those that are chosen by their numbers are marked
abbrev pub AreMarkedTo : ℕ → List Bool → List Text → List Bool → Type 0
AreMarkedTo count ends names chosen =
    (number : ℕ) (name : Text) → number < count → slice_get names number ≡ Some name → get_or chosen number false ≡ true
    → has_marked_end ends name ≡ true
