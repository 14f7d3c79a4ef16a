-- The parts of lines in the blocks of a text, from its first line on (GNU make manual, "Syntax of Conditionals" and
-- "Defining Multi-Line Variables"; faults are kati's own).
use Rattle.std.specs.Prelude.{ℕ, zero, suc, ◌+◌, Bool, false, not, ◌||◌, List, [], ◌∷◌, Option, Some, None}
use Rattle.std.specs.Prelude.{if◌then◌else◌}
use Rattle.kt_syntax.specs.Prelude.{Missing, BlockPart, NumberedRole, Role}
use Rattle.kt_syntax.specs.declared.part.Missing.TheVariants as missing
use Rattle.kt_syntax.specs.declared.part.OpenConditional.{OpenConditional}
use Rattle.kt_syntax.specs.declared.part.OpenDefine.{OpenDefine}
use Rattle.kt_syntax.specs.declared.part.BlockPart.TheVariants as part
use Rattle.kt_syntax.specs.declared.part.Stray.TheVariants as stray
use Rattle.kt_syntax.specs.declared.role.Role.TheVariants as role

-- the blocks that are open at a line: a define, in whose body nothing else is a block, and conditionals, innermost
-- first
pub record Scan : Type 0 where
  pub define : Option OpenDefine
  pub conditionals : List OpenConditional

-- the open blocks before the first line: none
abbrev pub nothing_open : Scan
nothing_open = record { define = None; conditionals = [] }

-- a line of a define in whose body a given number of defines are open: its own `endef` ends it, all else is text
abbrev pub body_part : Role → ℕ → BlockPart
body_part role.Endef zero = part.Endef
body_part line depth = part.Body

-- the define after a line of its body, if it is still open; in the body defines nest
abbrev pub define_after : ℕ → ℕ → Role → Option OpenDefine
define_after number depth role.Define = Some (record { number = number; depth = depth + 1 })
define_after number zero role.Endef = None
define_after number (suc depth) role.Endef = Some (record { number = number; depth = depth })
define_after number depth line = Some (record { number = number; depth = depth })

-- an `else`: stray outside conditionals, late after the plain `else` of the innermost one, else a further branch
abbrev pub else_part : List OpenConditional → Bool → BlockPart
else_part [] condition = part.Stray stray.Else
else_part (innermost ∷ outer) condition = if innermost.plain_else then part.Stray stray.LateElse
    else part.Branch condition

-- the open conditionals after an `else`
abbrev pub after_else : List OpenConditional → Bool → List OpenConditional
after_else [] condition = []
after_else (innermost ∷ outer) condition =
    record { number = innermost.number; plain_else = innermost.plain_else || not condition } ∷ outer

-- the part of a line
unfoldable pub block_part : Scan → Role → BlockPart
block_part open_blocks line = part_by open_blocks.define open_blocks.conditionals line
  where
    part_by : Option OpenDefine → List OpenConditional → Role → BlockPart
    part_by (Some define) conditionals line = body_part line define.depth
    part_by None conditionals role.Ordinary = part.Line
    part_by None conditionals role.Define = part.Define
    part_by None conditionals role.Endef = part.Stray stray.Endef
    part_by None conditionals role.Conditional = part.Conditional
    part_by None conditionals (role.Else condition) = else_part conditionals condition
    part_by None [] role.Endif = part.Stray stray.Endif
    part_by None (innermost ∷ outer) role.Endif = part.Endif

-- the blocks that are open after a line
unfoldable pub after : Scan → NumberedRole → Scan
after open_blocks head = after_line open_blocks.define open_blocks.conditionals head.role head.number
  where
    after_line : Option OpenDefine → List OpenConditional → Role → ℕ → Scan
    after_line (Some define) conditionals line number =
        record { define = define_after define.number define.depth line; conditionals = conditionals }
    after_line None conditionals role.Ordinary number = record { define = None; conditionals = conditionals }
    after_line None conditionals role.Define number = record {
      define = Some (record { number = number; depth = 0 });
      conditionals = conditionals;
    }
    after_line None conditionals role.Endef number = record { define = None; conditionals = conditionals }
    after_line None conditionals role.Conditional number = record {
      define = None;
      conditionals = record { number = number; plain_else = false } ∷ conditionals;
    }
    after_line None conditionals (role.Else condition) number = record {
      define = None;
      conditionals = after_else conditionals condition;
    }
    after_line None [] role.Endif number = record { define = None; conditionals = [] }
    after_line None (innermost ∷ outer) role.Endif number = record { define = None; conditionals = outer }

-- the parts of the lines from one on
unfoldable pub parts_from : Scan → List NumberedRole → List BlockPart
parts_from open_blocks [] = []
parts_from open_blocks (head ∷ heads) = block_part open_blocks head.role ∷ parts_from (after open_blocks head) heads

-- what is open at the end of the text
unfoldable pub open_at_end : Scan → List NumberedRole → Scan
open_at_end open_blocks [] = open_blocks
open_at_end open_blocks (head ∷ heads) = open_at_end (after open_blocks head) heads

-- the one end that is missing: that of the innermost open block
abbrev pub missing_in : Scan → Option Missing
missing_in open_blocks = missing_of open_blocks.define open_blocks.conditionals
  where
    missing_of : Option OpenDefine → List OpenConditional → Option Missing
    missing_of (Some define) conditionals = Some (missing.Endef define.number)
    missing_of None (innermost ∷ outer) = Some (missing.Endif innermost.number)
    missing_of None [] = None

-- the parts of all lines of a text
abbrev pub block_parts : List NumberedRole → List BlockPart
block_parts heads = parts_from nothing_open heads

-- the end that is missing at the end of a text, if a block is open there
abbrev pub missing_end : List NumberedRole → Option Missing
missing_end heads = missing_in (open_at_end nothing_open heads)
