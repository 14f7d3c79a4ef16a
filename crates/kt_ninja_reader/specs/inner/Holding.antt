-- What the reader holds, as the definitions have it (the reader's own).
use Rattle.std.specs.Prelude.{◌≡◌, Bool, false, ◌||◌, List, [], Option, Some, None, is_some, if◌then◌else◌}
use Rattle.kt_ninja_reader.specs.inner.Prelude.{PartFault, NoReading, Memory}
use Rattle.kt_ninja_reader.specs.Prelude.{Made, Command, Phony, Bytes, is_empty}
use Rattle.kt_ninja_reader.specs.declared.pending_statement.More.{More}
use Rattle.kt_ninja_reader.specs.declared.pending_statement.Making.{Making as HeldMaking}
use Rattle.kt_ninja_reader.specs.declared.pending_statement.Making.TheVariants.{ByNothing, ByOwn, ByRule}
use Rattle.kt_ninja_reader.specs.Forms.{Binding, Spelling}
use Rattle.kt_ninja_reader.specs.Scopes.{Scope, bound_text, command_value, find_in, put_in, refers_to, value_in}
use Rattle.kt_ninja_reader.specs.NinjaRead.{Making, by_nothing, by_own, by_rule}

-- how a statement with this block is made
abbrev pub making_as : Scope → HeldMaking → Making
making_as block ByNothing = by_nothing
making_as block (ByOwn command) = by_own command.value
making_as block (ByRule command) = by_rule command block

-- what makes the outputs of such a statement
abbrev pub made_as : List Bytes → List Bytes → Scope → Scope → HeldMaking → Made
made_as inputs outs block file ByNothing = Phony
made_as inputs outs block file (ByOwn command) = Command command.value
made_as inputs outs block file (ByRule command) = Command (bound_text (command_value inputs outs block file) command)

-- what a statement has that has neither a block nor such inputs
abbrev pub no_more : More
no_more = record { block = []; implicit = []; order_only = [] }

-- the scope of a block with one more binding
abbrev pub block_with : Scope → Scope → Binding → Option Scope
block_with file block b =
    if is_some (find_in block b.key) || refers_to (λ name. is_some (find_in block name)) b.value then None
    else Some (put_in block b.key (bound_text (value_in file) b.value))

-- the value of a path, if it isn't empty
abbrev pub path_in : (Bytes → Bytes) → Spelling → Option Bytes
path_in value_of ps = if is_empty (bound_text value_of ps) then None else Some (bound_text value_of ps)

-- the test fails, or memory was refused
abbrev pub FailsTest : Bool → PartFault → Type 0
FailsTest test NoReading = test ≡ false
FailsTest test Memory = Unit {0}
