-- A line that is blank only moves the place, and the next line moves it too.
use Rattle.std.proofs.Common.{◌≡◌, ℕ, ◌+◌, ◌<◌, ◌≤◌, false, List, Some, arith, refl, sym, ap, ◌∙◌, Bool, Err, IfOk, Ok, Result, length, unwrap_or}
use Rattle.kt_eval.proofs.Common.{Stop, slice_get, Items, line, blank, line_form, ReadsOn, Source, File, Held, World, Gave, Evaluator, RawLine, Page, at_line, at_number, line_at, read_items, read_kind, read_line}
use Rattle.kt_syntax.specs.declared.step.BlockStep.{BlockStep as Found}
use Rattle.kt_syntax.specs.declared.step.BlockStep.TheVariants as step
use Rattle.kt_eval.specs.inner.Doing.{ReadsAlike, ReadsUpTo}
use Rattle.kt_eval.specs.inner.Evaluation.{Evaluation}
use Rattle.kt_eval.specs.expanding.Levels.{evaluator}

-- the last move counts
moved_again : (source : Source) (number other : ℕ) (w : World) → at_number source other (at_number source number w) ≡ at_number source other w
unfolding at_number
moved_again Held number other w = refl
moved_again (File name) number other w = refl

blank_read : (e : Evaluator) (raw : RawLine) (w : World) → raw.tab ≡ false → line_form raw.text false ≡ blank → read_line e raw w ≡ Gave w tt
unfolding read_line read_kind
blank_read e raw w tab kind = rw (tab, kind) refl

passed_line : (e : Evaluator) (sheet : Page) (place at : ℕ) (next : Items) (w : World)
    → read_line e (line_at sheet.lines place) (at_line sheet place w) ≡ Gave (at_line sheet place w) tt
    → read_items e sheet (line place (line at next)) w ≡ read_items e sheet (line at next) w
unfolding read_items
passed_line e sheet place at next w read = grind (arith, moved_again)

pub comment_passed : (sheet : Page) (place : ℕ) → ReadsOn sheet.blocks.steps place step.Line → ReadsOn sheet.blocks.steps (place + 1) step.Line
    → (line_at sheet.lines place).tab ≡ false → line_form (line_at sheet.lines place).text false ≡ blank → ReadsAlike sheet place (place + 1)
comment_passed sheet place first second tab kind = grind (arith, passed_line, blank_read)

pub one_step : (steps : List Found) (place : ℕ) (found other : Found) → slice_get steps place ≡ Some found → slice_get steps place ≡ Some other → found ≡ other
one_step steps place found other is too = ap (λ s. unwrap_or s found) (sym is ∙ too)

-- what comes after a later place comes after an earlier one
ahead_from : (place at end : ℕ) (result : Result ℕ Stop) → place ≤ at → IfOk result (λ next. (at < next) × (next ≤ end))
    → IfOk result (λ next. (place < next) × (next ≤ end))
ahead_from place at end (Ok next) le ahead = (omega (arith, le, ahead.0), ahead.1)
ahead_from place at end (Err stop) le ahead = tt

-- a call that reads from a later place on reads from an earlier one on, if what is left there does the same
pub reads_from_earlier : (writable : Bool) (levels : ℕ) (sheet : Page) (place at : ℕ) (result : Result ℕ Stop) (old new : Evaluation) → place ≤ at
    → ReadsAlike sheet place at → ReadsUpTo writable levels sheet at result old new → ReadsUpTo writable levels sheet place result old new
reads_from_earlier writable levels sheet place at result old new le alike reads = record {
  ahead = ahead_from place at (length sheet.blocks.steps) result le reads.ahead;
  rest = λ store agrees. rw (alike (evaluator writable store levels) old.world) (reads.rest store agrees);
  fails = λ store agrees. rw (alike (evaluator writable store levels) old.world) (reads.fails store agrees);
  cut = λ store agrees. rw (alike (evaluator writable store levels) old.world) (reads.cut store agrees);
  kept = reads.kept;
  blames = reads.blames;
}
