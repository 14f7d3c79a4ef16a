-- The steps of reading blocks line by line: where a conditional and its branches go on, and where a body ends. Kati's
-- own.
use Rattle.std.specs.Prelude.{ℕ, ◌+◌, List, [], ◌∷◌, drop}
use Rattle.kt_syntax.specs.Prelude.{BlockPart, BlockStep}
use Rattle.kt_syntax.specs.declared.part.BlockPart.TheVariants as part
use Rattle.kt_syntax.specs.declared.part.Stray.TheVariants as stray
use Rattle.kt_syntax.specs.declared.step.BranchExits.{BranchExits}
use Rattle.kt_syntax.specs.declared.step.BlockStep.TheVariants as step

-- what is known at a place of the lines from there on: the end of the text, the end of the body that is open there, and
-- the exits of the open conditionals, innermost first; one that the text doesn't end has none, and goes on at its end
pub record Places : Type 0 where
  pub end : ℕ
  pub body_end : ℕ
  pub conditionals : List BranchExits

-- what is known at the end of the text
abbrev pub places_at_end : ℕ → Places
places_at_end end = record { end = end; body_end = end; conditionals = [] }

-- the exits of the innermost conditional
abbrev pub exits_of : Places → BranchExits
exits_of ahead = first_exits ahead.end ahead.conditionals
  where
    first_exits : ℕ → List BranchExits → BranchExits
    first_exits end [] = record { next = end; after = end }
    first_exits end (exits ∷ outer) = exits

-- the step of a line, by what is known of the lines after it
unfoldable pub step_of : Places → BlockPart → BlockStep
step_of ahead part.Line = step.Line
step_of ahead part.Body = step.Body
step_of ahead part.Define = step.Define ahead.body_end
step_of ahead part.Endef = step.Endef
step_of ahead part.Conditional = step.Conditional (exits_of ahead).next (exits_of ahead).after
step_of ahead (part.Branch condition) = step.Branch condition (exits_of ahead).next (exits_of ahead).after
step_of ahead part.Endif = step.Endif
step_of ahead (part.Stray fault) = step.Stray fault

-- what is known at the place of a line, with the line itself: a further branch is where the branch before it goes on,
-- and a late `else` or an `endif` where each branch goes on
unfoldable pub places_after : Places → BlockPart → ℕ → Places
places_after ahead part.Line place = record { end = ahead.end; body_end = place; conditionals = ahead.conditionals }
places_after ahead part.Body place = ahead
places_after ahead part.Define place = record { end = ahead.end; body_end = place; conditionals = ahead.conditionals }
places_after ahead part.Endef place = record { end = ahead.end; body_end = place; conditionals = ahead.conditionals }
places_after ahead part.Conditional place = record {
  end = ahead.end;
  body_end = place;
  conditionals = drop 1 ahead.conditionals;
}
places_after ahead (part.Branch condition) place =
    record {
      end = ahead.end;
      body_end = place;
      conditionals = record { next = place; after = (exits_of ahead).after }
          ∷ drop 1 ahead.conditionals;
    }
places_after ahead (part.Stray stray.LateElse) place =
    record {
      end = ahead.end;
      body_end = place;
      conditionals = record { next = place; after = place }
          ∷ drop 1 ahead.conditionals;
    }
places_after ahead part.Endif place =
    record {
      end = ahead.end;
      body_end = place;
      conditionals = record { next = place; after = place }
          ∷ ahead.conditionals;
    }
places_after ahead (part.Stray fault) place = record {
  end = ahead.end;
  body_end = place;
  conditionals = ahead.conditionals;
}

-- what is known at a place, by the parts of the lines from there on
unfoldable pub ahead_of : ℕ → List BlockPart → Places
ahead_of place [] = places_at_end place
ahead_of place (line ∷ lines) = places_after (ahead_of (place + 1) lines) line place

-- the steps of the lines from a place on
unfoldable pub steps_from : ℕ → List BlockPart → List BlockStep
steps_from place [] = []
steps_from place (line ∷ lines) = step_of (ahead_of (place + 1) lines) line ∷ steps_from (place + 1) lines
