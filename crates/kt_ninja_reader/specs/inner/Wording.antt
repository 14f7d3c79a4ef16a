-- Words and names, one after another, and what the forms of a line tell (the reader's own).
use Rattle.std.specs.Prelude.{List, [], ◌∷◌, Option, Some, None, option_map, if◌then◌else◌}
use Rattle.kt_ninja_reader.specs.Prelude.{option_and_then, Bytes}
use Rattle.kt_ninja_reader.specs.declared.forms.Binding.{Binding as ReadBinding}
use Rattle.kt_ninja_reader.specs.declared.forms.Build.{Build as ReadBuild}
use Rattle.kt_ninja_reader.specs.declared.forms.BuildInputs.{BuildInputs as ReadInputs}
use Rattle.kt_ninja_reader.specs.Forms.{Binding, Build, BuildInputs, Spelling, begins_with_at, is_keyword, single_name, spelled_words}

-- the word, if it has a piece
abbrev pub some_word : Spelling → List Spelling
some_word [] = []
some_word (p ∷ ps) = (p ∷ ps) ∷ []

-- the name that stands before `=`, if it is no keyword
abbrev pub not_keyword : Bytes → Option Bytes
not_keyword name = if is_keyword name then None else Some name

unfoldable pub key_of : Spelling → Option Bytes
key_of ps = option_and_then not_keyword (single_name (spelled_words ps))

-- the two parts, if there are two
abbrev pub two_of : List Spelling → Option (Spelling × Spelling)
two_of (first ∷ second ∷ []) = Some (first, second)
two_of _ = None

-- what stands after two bars, between which there is nothing
abbrev pub two_bars : List Spelling → Option Spelling
two_bars ([] ∷ order ∷ []) = Some order
two_bars _ = None

-- what stands after one bar and after two, where the first part is there
abbrev pub bars_after : Spelling → List Spelling → Option (Spelling × Spelling)
bars_after implicit [] = Some (implicit, [])
bars_after [] (part ∷ parts) = option_map (λ order. ([], order)) (two_bars ([] ∷ part ∷ parts))
bars_after (p ∷ ps) (part ∷ parts) = option_map (λ order. (p ∷ ps, order)) (two_bars (part ∷ parts))

-- the parts after one bar and after two, of all parts that bars cut; none where a build line can't have them
abbrev pub bars_cut : List Spelling → Option (Spelling × Spelling)
bars_cut [] = Some ([], [])
bars_cut (implicit ∷ parts) = if begins_with_at implicit then None else bars_after implicit parts

-- the binding that was read
abbrev pub binding_view : ReadBinding → Binding
binding_view b = record { key = b.key.now; value = b.value }

-- the inputs that were read
abbrev pub inputs_view : ReadInputs → BuildInputs
inputs_view i = record {
  explicit = i.explicit.items;
  implicit = i.implicit.items;
  order_only = i.order_only.items;
}

-- the build line that was read
abbrev pub build_view : ReadBuild → Build
build_view b = record { outs = b.outs.items; rule_name = b.rule.now; inputs = inputs_view b.inputs }
