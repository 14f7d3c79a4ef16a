-- The grammar of blocks (GNU make manual, "Syntax of Conditionals" and "Defining Multi-Line Variables"; faults are
-- kati's own): whether the lines from a place on begin with those of a tree, and what follows these is as a rest must
-- be. With it goes the missing end that was found so far: that of the innermost block which the text doesn't end.
use Rattle.std.specs.Prelude.{◌≡◌, ℕ, zero, suc, ◌+◌, Bool, true, false, not, List, [], ◌∷◌, Option, Some, None}
use Rattle.std.specs.Prelude.{MatchOption}
use Rattle.kt_syntax.specs.Prelude.{Missing, Stray, NumberedRole, Role}
use Rattle.kt_syntax.specs.declared.part.Missing.TheVariants as missing
use Rattle.kt_syntax.specs.declared.part.Stray.TheVariants as stray
use Rattle.kt_syntax.specs.declared.role.Role.TheVariants.{Ordinary, Conditional, Else, Endif, Define, Endef}
use Rattle.kt_syntax.specs.Blocks.{Items, Branches, none, line, fault, definition, conditional, no_branch, branch, late}

-- what must hold of a rest: of the missing end that was found before it, of its place and of its lines
abbrev pub Rests : Type 1
Rests = Option Missing → ℕ → List NumberedRole → Type 0

-- the next line has this role; the rest may depend on its number
abbrev pub TakesLine : Role → List NumberedRole → (ℕ → List NumberedRole → Type 0) → Type 0
TakesLine role [] Rest = ⊥
TakesLine role (head ∷ heads) Rest = (head.role ≡ role) × Rest head.number heads

-- the next line is stray: an `endef` that ends no define, and outside conditionals an `else` of any form or an `endif`
abbrev pub TakesStray : Bool → Stray → List NumberedRole → (ℕ → List NumberedRole → Type 0) → Type 0
TakesStray inside stray.Endef heads Rest = TakesLine Endef heads Rest
TakesStray false stray.Else heads Rest = (condition : Bool) × TakesLine (Else condition) heads Rest
TakesStray false stray.Endif heads Rest = TakesLine Endif heads Rest
TakesStray inside kind heads Rest = ⊥

-- one more missing end: that of a block inside the other counts
abbrev pub or_missing : Option Missing → Missing → Option Missing
or_missing None outer = Some outer
or_missing (Some inner) outer = Some inner

-- the next line ends the conditional whose first line has a number, unless the text ends first
abbrev pub TakesEndif : ℕ → Option Missing → ℕ → List NumberedRole → Rests → Type 0
TakesEndif number found place [] Rest = Rest (or_missing found (missing.Endif number)) place []
TakesEndif number found place (head ∷ heads) Rest = (head.role ≡ Endif) × Rest found (place + 1) heads

-- how many defines are open in the body of a define after a line of it; none where that line is the define's own end
abbrev pub depth_after : Role → ℕ → Option ℕ
depth_after Define depth = Some (depth + 1)
depth_after Endef zero = None
depth_after Endef (suc depth) = Some depth
depth_after role depth = Some depth

-- the next lines are the body of the define whose first line has a number, up to the place `end` of its `endef`, unless
-- the text ends first; a given number of defines are open in the body, where they nest and nothing else counts
unfoldable pub TakesBody : (number depth end : ℕ) → Option Missing → ℕ → List NumberedRole → Rests → Type 0
TakesBody number depth end found place [] Rest = (end ≡ place) × Rest (or_missing found (missing.Endef number)) place []
TakesBody number depth end found place (head ∷ heads) Rest =
    MatchOption (depth_after head.role depth) ((end ≡ place) × Rest found (place + 1) heads)
    (λ deeper. TakesBody number deeper end found (place + 1) heads Rest)

-- the lines are those of items, inside a conditional or not, and of branches, after a plain `else` or not; then comes
-- a rest
unfoldable mutual
  pub TakesItems : Bool → Items → Option Missing → ℕ → List NumberedRole → Rests → Type 0
  TakesItems inside none found place heads Rest = Rest found place heads
  TakesItems inside (line at next) found place heads Rest =
      (at ≡ place) × TakesLine Ordinary heads (λ number more. TakesItems inside next found (place + 1) more Rest)
  TakesItems inside (fault kind at next) found place heads Rest =
      (at ≡ place) × TakesStray inside kind heads (λ number more. TakesItems inside next found (place + 1) more Rest)
  TakesItems inside (definition at end next) found place heads Rest =
      (at ≡ place) × TakesLine Define heads (λ number body. TakesBody number 0 end found (place + 1) body (λ all after
      more.
      TakesItems inside next all after more Rest))
  TakesItems inside (conditional at first others next) found place heads Rest =
      (at ≡ place) × TakesLine Conditional heads (λ number branches. TakesItems true first found (place + 1) branches
      (λ some begin further.
      TakesBranches false others some begin further
      (λ more_missing end ending. TakesEndif number more_missing end ending (λ all after more.
      TakesItems inside next all after more Rest))))

  pub TakesBranches : Bool → Branches → Option Missing → ℕ → List NumberedRole → Rests → Type 0
  TakesBranches plain no_branch found place heads Rest = Rest found place heads
  TakesBranches plain (branch at condition items others) found place heads Rest =
      (at ≡ place) × (plain ≡ false) × TakesLine (Else condition) heads
      (λ number more. TakesItems true items found (place + 1) more (λ all begin further.
      TakesBranches (not condition) others all begin further Rest))
  TakesBranches plain (late at items others) found place heads Rest =
      (at ≡ place) × (plain ≡ true) × ((condition : Bool) × TakesLine (Else condition) heads (λ number more.
      TakesItems true items found (place + 1) more
      (λ all begin further. TakesBranches true others all begin further Rest)))

-- a tree and a missing end are those of lines with these roles and numbers
abbrev pub IsTreeOf : Items → Option Missing → List NumberedRole → Type 0
IsTreeOf items missing_one heads = TakesItems false items None 0 heads (λ all end more. (more ≡ [])
    × (all ≡ missing_one))
