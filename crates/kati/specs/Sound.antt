-- What no plan has: a name that depends on itself, two outputs that are one file, a name that is reserved for kati
-- (kati's own; Ninja manual, "Build statements").
use Rattle.std.specs.Prelude.{◌≡◌, ◌⊎◌, false, List, ◌++◌}
use Rattle.kati.specs.Prelude.{Contains, Text, canon_of, is_reserved, Reaches, outputs, Plan, Statement}
use Rattle.kati.specs.plan.Planning.{always_build, always_built}

-- a statement that makes the name has the input
pub record NeedsInput (statements : List Statement) (name input : Text) : Type 0 where
  pub statement : Statement
  pub among : Contains statements statement
  pub makes : Contains statement.outs name
  pub needs : Contains (statement.inputs ++ (statement.implicit ++ statement.order_only)) input

-- a name depends on itself, in one step or more
pub record NeedsItself (statements : List Statement) (name : Text) : Type 0 where
  pub next : Text
  pub step : NeedsInput statements name next
  pub path : Reaches (NeedsInput statements) next name

-- no output, input or order-only input of the statement is a spelling of `always_build`, and its implicit inputs are
-- that name only
pub record IsUnreserved (statement : Statement) : Type 0 where
  pub free : (name : Text) → Contains (statement.outs ++ (statement.inputs ++ statement.order_only)) name
      → is_reserved name ≡ false
  pub implicit : (name : Text) → Contains statement.implicit name → name ≡ always_build

-- no output of a plan depends on itself, no two outputs are one file, and the reserved name `always_build` is only
-- where kati itself puts it
pub record IsSoundPlan (plan : Plan) : Type 0 where
  pub uncircled : (name : Text) → ¬ NeedsItself plan.statements name
  pub files_differ : (one other : Text) → Contains (outputs plan.statements) one
      → Contains (outputs plan.statements) other → canon_of one ≡ canon_of other → one ≡ other
  -- `always_build` is the output of its own statement and among implicit inputs, and nowhere else
  pub unreserved : (statement : Statement) → Contains plan.statements statement
      → IsUnreserved statement ⊎ (statement ≡ always_built)
