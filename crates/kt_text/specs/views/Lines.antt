-- What calls return of lines: their order, and the faults (kati's own).
use Rattle.std.specs.Prelude.{◌≡◌, ◌⊎◌, ◌<◌, ◌≤◌, ℕ, true, List, length, Option, Some, None}
use Rattle.std.specs.List.{All, AllAdjacentBelow}
use Rattle.kt_text.specs.Prelude.{Line}
use Rattle.kt_text.specs.declared.line.LineFault.{LineFault}
use Rattle.kt_text.specs.declared.line.LineFault.TheVariants.{Nul, Memory}

-- lines that stand in a text of this size, each after the one before it
pub record AreInOrder (size : ℕ) (lines : List Line) : Type 0 where
  pub within : All (λ line. (line.span.start ≤ line.span.end) × (line.span.end ≤ size)) lines
  pub ordered : AllAdjacentBelow (λ line next. line.span.end ≤ next.span.start) lines (length lines)

-- a line for which there is no mark: beyond the numbers of 32 bits, or it ends before its begin, or at it in spite of
-- its tab
abbrev pub HasNoMark : Line → Type 0
HasNoMark line = (4294967295 < line.span.start) ⊎ (4294967295 < line.span.end) ⊎ (4294967295 < line.number)
    ⊎ (line.span.end < line.span.start) ⊎ ((line.tab ≡ true) × (line.span.end ≡ line.span.start))

-- the fault of a text with a NUL has that line; of one without, it is out of memory
abbrev pub NulFault : Option ℕ → LineFault → Type 0
NulFault line (Nul number) = line ≡ Some number
NulFault line Memory = line ≡ None
