-- A plan that is read from the graph (kati's own).
use Rattle.std.specs.Prelude.{◌≡◌, ◌&&◌, List, [], ◌∷◌, Option, Some, None, is_some, false, length, true, if◌then◌else◌}
use Rattle.kati.specs.Prelude.{list_any, Text, Entry, Node, inputs_of, order_only_of, Statement}
use Rattle.kati.specs.inner.Prelude.{ShareInputs, Bool}
use Rattle.std.specs.List.{list_all}
use Rattle.std.specs.declared.alloc.Global.{Global}
use Rattle.std.specs.declared.boxed.Box.{Box}
use Rattle.kt_ninja.specs.Writable.{is_writable_making}
use Rattle.kt_ninja.specs.Plan.{made_by}
use Rattle.kt_recipe.specs.views.Commands.{command_in}
use Rattle.kati.specs.declared.plan.sketch.JoinedNeeds.{JoinedNeeds as HeldJoined}
use Rattle.kati.specs.plan.Planning.{always_built, has_phony, implicit_of, joined_inputs, joined_order_only}
use Rattle.kati.specs.plan.Planning.{outs_of, with_always_built}

-- the joined prerequisites of the members of a group
pub record JoinedNeeds : Type 0 where
  pub inputs : List Text
  pub order_only : List Text

-- members that are told to share their inputs do
abbrev pub MayShare : List Node → Bool → Type 0
MayShare group shares = shares ≡ true → ShareInputs group

-- what is stored for a group besides its nodes: whether it is always made, the joined prerequisites, if it has several
-- members, and its command
pub record GroupSketch : Type 0 where
  pub always : Bool
  pub joined : Option JoinedNeeds
  pub command : Option Text

abbrev pub joined_of : List Node → Option JoinedNeeds
joined_of [] = None
joined_of (node ∷ []) = None
joined_of (node ∷ other ∷ others) = Some (record {
  inputs = joined_inputs (node ∷ other ∷ others);
  order_only = joined_order_only (node ∷ other ∷ others);
})

abbrev pub drawn_of : List Entry → List Node → Option Text → GroupSketch
drawn_of rules group command = record {
  always = is_some command && has_phony rules group;
  joined = joined_of group;
  command = command;
}

-- ---- the statements of groups, from what is stored for each

abbrev pub inputs_drawn : List Node → Option JoinedNeeds → List Text
inputs_drawn group (Some joined) = joined.inputs
inputs_drawn [] None = []
inputs_drawn (node ∷ others) None = inputs_of node

abbrev pub order_only_drawn : List Node → Option JoinedNeeds → List Text
order_only_drawn group (Some joined) = joined.order_only
order_only_drawn [] None = []
order_only_drawn (node ∷ others) None = order_only_of node

abbrev pub statement_drawn : List Node → GroupSketch → Statement
statement_drawn group drawn = record {
  outs = outs_of group;
  made = made_by drawn.command;
  inputs = inputs_drawn group drawn.joined;
  implicit = implicit_of drawn.always;
  order_only = order_only_drawn group drawn.joined;
}

abbrev pub statements_drawn : List (List Node) → List GroupSketch → List Statement
statements_drawn [] drawn = []
statements_drawn (group ∷ groups) [] = []
statements_drawn (group ∷ groups) (one ∷ drawn) = statement_drawn group one ∷ statements_drawn groups drawn

-- the statement `always_built` comes first, if one needs it
abbrev pub always_drawn : Bool → List Statement → List Statement
always_drawn always statements = if always then always_built ∷ statements else statements

-- and it is there exactly if a statement needs it
abbrev pub AlwaysFirst : List (List Node) → List GroupSketch → Type 0
AlwaysFirst groups drawn = always_drawn (list_any (λ one. one.always) drawn) (statements_drawn groups drawn)
    ≡ with_always_built (statements_drawn groups drawn)

-- ---- as the code stores it

abbrev pub joined_view : HeldJoined → JoinedNeeds
joined_view joined = record { inputs = joined.inputs.items; order_only = joined.order_only.items }

abbrev pub BoxedJoined : Type 0
BoxedJoined = Box HeldJoined Global

-- those of a row of none or one
abbrev pub first_joined : List BoxedJoined → Option JoinedNeeds
first_joined [] = None
first_joined (first ∷ others) = Some (joined_view first.value)

-- each group by its command, its row of joined prerequisites, and whether it is always made
abbrev pub all_drawn : List Text → List (List BoxedJoined) → List Bool → List GroupSketch
all_drawn [] joined always = []
all_drawn (command ∷ commands) [] always = []
all_drawn (command ∷ commands) (row ∷ joined) [] = []
all_drawn (command ∷ commands) (row ∷ joined) (one ∷ always) =
    record { always = one; joined = first_joined row; command = command_in command } ∷ all_drawn commands joined always

abbrev pub is_written : Text → Bool
is_written command = is_writable_making (made_by (command_in command))

-- as many of each, and commands that can be written if all are said to be
abbrev pub AreOfGroups : List Text → List (List BoxedJoined) → List Bool → Bool → Type 0
AreOfGroups commands joined always writable =
    (length commands ≡ length always) × (length joined ≡ length always)
    × (writable ≡ true → list_all is_written commands ≡ true)

-- what is taken to be stored where there is no group
abbrev pub no_drawn : GroupSketch
no_drawn = record { always = false; joined = None; command = None }
