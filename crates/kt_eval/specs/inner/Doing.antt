-- What each method of an evaluation that expands or reads promises (kati's own).
use Rattle.std.specs.Prelude.{◌≡◌, ◌<◌, ◌≤◌, ℕ, Bool, IfErr, IfOk, List, Result, Some, length}
use Rattle.std.specs.List.{slice_get}
use Rattle.kt_syntax.specs.views.Reading.{IsAhead, ReadsOn, left_at}
use Rattle.kt_syntax.specs.declared.step.BlockStep.{BlockStep}
use Rattle.kt_eval.specs.views.Prelude.{Stop, Gives, IfCut, left_of}
use Rattle.kt_eval.specs.Prelude.{World, Step}
use Rattle.kt_eval.specs.inner.Prelude.{Blames, GoesOn, Keeps, Evaluation, files_of}
use Rattle.kt_eval.specs.views.Outcome.{Fails}
use Rattle.kt_eval.specs.expanding.Expansion.{Evaluator}
use Rattle.kt_eval.specs.files.Files.{AgreeWith, Store}
use Rattle.kt_eval.specs.expanding.Levels.{evaluator}
use Rattle.kt_eval.specs.reading.Reading.{Page, read_items}

-- The call does the step, with a given number of levels left below it; its result is seen by `see`.
pub record DoesIn {A B : Type 0} (see : A → B) (writable : Bool) (levels : ℕ) (step : Store → Evaluator → Step B)
    (result : Result A Stop) (old new : Evaluation) : Type 0 where
  -- the result and the new world are those of the step, over each store that agrees with all answers
  pub gives : (store : Store) → AgreeWith store new.answers
      → Gives see result new.world (step store (evaluator writable store levels) old.world)
  -- if memory ran out or a device failed, the messages and the names asked for are a prefix of those of the step
  pub cut : (store : Store) → AgreeWith store new.answers
      → IfCut result (GoesOn new.world (left_of (step store (evaluator writable store levels) old.world)))
  -- files, messages and names asked for are kept
  pub kept : Keeps old new
  -- a device's failure is reported as one, and nothing else is
  pub blames : Blames result (files_of old) (files_of new)

-- what `DoesIn` says, for a step that asks the store only through its evaluator
abbrev pub Does : {A B : Type 0} → (A → B) → Bool → ℕ → (Evaluator → Step B) → Result A Stop → Evaluation → Evaluation
    → Type 0
Does see writable levels step result old new = DoesIn see writable levels (λ _. step) result old new

-- The call does a step that reads no file.
pub record DoesWithoutFiles (step : Step (Unit {0})) (result : Result (Unit {0}) Stop) (old new : Evaluation)
    : Type 0 where
  -- the result and the new world are those of the step
  pub gives : Gives (λ u. u) result new.world (step old.world)
  -- if memory ran out, the messages and the names asked for are a prefix of those of the step
  pub cut : IfCut result (GoesOn new.world (left_of (step old.world)))
  -- files, messages and names asked for are kept
  pub kept : Keeps old new
  -- a device's failure is reported as one, and nothing else is
  pub blames : Blames result (files_of old) (files_of new)
  -- no read of a file fails
  pub unfailed : new.failed ≡ old.failed

-- a step of a page is the one at a place within it, reading goes on as it says, and it leads no further than to the end
pub record IsStepAt (steps : List BlockStep) (place : ℕ) (found : BlockStep) : Type 0 where
  pub is : slice_get steps place ≡ Some found
  pub reads : ReadsOn steps place found
  pub ahead : IsAhead place (length steps) found
  pub within : place < length steps

-- what is left of a page from one place on does what is left from another on does
abbrev pub ReadsAlike : Page → (place other : ℕ) → Type 0
ReadsAlike sheet place other =
    (e : Evaluator) (w : World) → read_items e sheet (left_at sheet.blocks.steps place) w
    ≡ read_items e sheet (left_at sheet.blocks.steps other) w

-- the rest of a page, from the line at a place on
abbrev pub reading_from : Bool → Store → ℕ → Page → ℕ → Step (Unit {0})
reading_from writable store levels sheet place =
    read_items (evaluator writable store levels) sheet (left_at sheet.blocks.steps place)

-- The call reads a page from one place up to the one that it returns, with a given number of levels left below it.
pub record ReadsUpTo (writable : Bool) (levels : ℕ) (sheet : Page) (place : ℕ) (result : Result ℕ Stop)
    (old new : Evaluation) : Type 0 where
  -- the place that it returns is further on, and within the page or at its end
  pub ahead : IfOk result (λ at. (place < at) × (at ≤ length sheet.blocks.steps))
  -- what is left from there on does the rest of what was left, over each store that agrees with all answers
  pub rest : (store : Store) → AgreeWith store new.answers
      → IfOk result (λ at. reading_from writable store levels sheet place old.world
      ≡ reading_from writable store levels sheet at new.world)
  -- a fault is that of what was left, with its world
  pub fails : (store : Store) → AgreeWith store new.answers
      → IfErr result (λ stop. Fails stop new.world (reading_from writable store levels sheet place old.world))
  -- if memory ran out or a device failed, the messages and the names asked for are a prefix of those of what was left
  pub cut : (store : Store) → AgreeWith store new.answers
      → IfCut result (GoesOn new.world (left_of (reading_from writable store levels sheet place old.world)))
  -- files, messages and names asked for are kept
  pub kept : Keeps old new
  -- a device's failure is reported as one, and nothing else is
  pub blames : Blames result (files_of old) (files_of new)
