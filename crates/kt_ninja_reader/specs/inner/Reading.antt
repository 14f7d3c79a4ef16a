-- Reading a file part by part (the reader's own).
use Rattle.std.specs.Prelude.{◌≡◌, ℕ, Bool, List, ◌∷◌, ◌++◌, Option, Some, None, option_map, if◌then◌else◌}
use Rattle.kt_ninja_reader.specs.Prelude.{option_and_then, Bytes, pieces, is_empty}
use Rattle.kt_ninja_reader.specs.inner.Prelude.{PartFault, NoReading, Memory, JoinedLine}
use Rattle.kt_ninja_reader.specs.declared.read_fault.ReadFault.{ReadFault}
use Rattle.kt_ninja_reader.specs.declared.read_fault.ReadFault.TheVariants.{NotNinja, Memory as MemoryRefused}
use Rattle.kt_ninja_reader.specs.Forms.{Binding, binding_of, build_of, defaults_of, margin_form, rule_name_in}
use Rattle.kt_ninja_reader.specs.NinjaRead.{FilePart, State, bind_variable, block_from, read_build, read_default}
use Rattle.kt_ninja_reader.specs.NinjaRead.{read_form, read_rule}

-- the fault of a part that begins with this line
abbrev pub part_fault : ℕ → PartFault → ReadFault
part_fault number NoReading = NotNinja number
part_fault number Memory = MemoryRefused

-- the binding that a line is
abbrev pub line_binding : Bytes → Option Binding
line_binding text = option_and_then binding_of (pieces text)

-- what a line of a block adds, and whether it closes the block, whatever comes after it
abbrev pub AddsBindings : Bool → List Binding → JoinedLine → Bool → List Binding → Type 0
AddsBindings closed old line now new =
    (rest : List JoinedLine) → option_map (λ more. old ++ more) (block_from closed (line ∷ rest)) ≡ option_map
    (λ more. new ++ more) (block_from now rest)

-- no block goes on with the line, or memory was refused
abbrev pub StopsBlock : Bool → JoinedLine → PartFault → Type 0
StopsBlock closed line NoReading = (rest : List JoinedLine) → block_from closed (line ∷ rest) ≡ None
StopsBlock closed line Memory = Unit {0}

-- what stands after `rule`, `build` and `default`, and a binding, with the block below it
abbrev pub rule_at_margin : State → List Binding → Bytes → Option State
rule_at_margin state bindings text = option_and_then
    (λ name. read_rule state name bindings) (option_and_then rule_name_in (pieces text))

abbrev pub build_line : State → List Binding → Bytes → Option State
build_line state bindings text = option_and_then
    (λ build. read_build state build bindings) (option_and_then build_of (pieces text))

abbrev pub default_line : State → List Binding → Bytes → Option State
default_line state bindings text =
    if is_empty bindings then option_and_then (read_default state) (option_and_then defaults_of (pieces text)) else None

abbrev pub margin_line : State → List Binding → Bytes → Option State
margin_line state bindings text =
    if is_empty bindings then option_map (bind_variable state) (line_binding text) else None

-- a line at the margin, with the block below it
abbrev pub read_margin : State → List Binding → Bytes → Option State
read_margin state bindings text = option_and_then (λ form. read_form state form bindings) (margin_form text)

-- the part that a line begins
abbrev pub file_part : JoinedLine → List JoinedLine → FilePart
file_part head body = record { number = head.number; head = Some head; body = body }

-- the lines before the first such part
abbrev pub part_before : List JoinedLine → FilePart
part_before body = record { number = 1; head = None; body = body }
