-- The faults of makefiles: their numbers and messages (kati's own).
use Rattle.std.specs.Prelude.{ℕ, ◌++◌, codes}
use Rattle.kt_text.specs.Words.{Text}
use Rattle.kt_rules.specs.declared.fault_kind.FaultKind.{FaultKind}
use Rattle.kt_rules.specs.declared.fault_kind.FaultKind.TheVariants as kind

-- the number and message of each fault, the message without the name at its end if it has one; there is no 25
abbrev pub fault_kind_row : FaultKind → ℕ × Text
fault_kind_row kind.NulByte = (1, codes "NUL byte")
fault_kind_row kind.FileTooLarge = (2, codes "file too large: ")
fault_kind_row kind.NoMakefile = (3, codes "no makefile")
fault_kind_row kind.NoFile = (4, codes "no file ")
fault_kind_row kind.MissingSeparator = (5, codes "missing separator")
fault_kind_row kind.RecipeBeforeTarget = (6, codes "recipe before a target")
fault_kind_row kind.UnterminatedReference = (7, codes "unterminated reference")
fault_kind_row kind.NestingTooDeep = (8, codes "nesting too deep")
fault_kind_row kind.BadMacroName = (9, codes "bad macro name")
fault_kind_row kind.StrayElse = (10, codes "stray else")
fault_kind_row kind.StrayEndif = (11, codes "stray endif")
fault_kind_row kind.MissingEndif = (12, codes "missing endif")
fault_kind_row kind.StrayEndef = (13, codes "stray endef")
fault_kind_row kind.MissingEndef = (14, codes "missing endef")
fault_kind_row kind.BadConditional = (15, codes "bad conditional")
fault_kind_row kind.RefusedFunction = (16, codes "refused function ")
fault_kind_row kind.RefusedForm = (17, codes "refused form ")
fault_kind_row kind.BadArgument = (18, codes "bad argument of ")
fault_kind_row kind.ErrorCalled = (19, codes "")
fault_kind_row kind.RefusedName = (20, codes "refused name ")
fault_kind_row kind.BadStaticPattern = (21, codes "bad static pattern ")
fault_kind_row kind.RefusedTarget = (22, codes "refused target ")
fault_kind_row kind.TargetSpecificMacro = (23, codes "target-specific macro")
fault_kind_row kind.SingleAndDoubleColon = (24, codes "single and double colon on ")
fault_kind_row kind.NoTargets = (26, codes "no targets")
fault_kind_row kind.NoRule = (27, codes "no rule for ")
fault_kind_row kind.Circular = (28, codes "circular: ")
fault_kind_row kind.NameNotWritable = (29, codes "name not writable: ")
fault_kind_row kind.CommandNotWritable = (30, codes "command not writable: ")
fault_kind_row kind.TwoTargetsOfOneFile = (31, codes "two targets of one file: ")
fault_kind_row kind.EvalInRecipe = (32, codes "eval in a recipe")
fault_kind_row kind.ReservedName = (33, codes "reserved name")
fault_kind_row kind.IncludeNameNotUtf8 = (34, codes "include name is not UTF-8")
fault_kind_row kind.BadGroup = (35, codes "bad group")
fault_kind_row kind.TwoRecipes = (36, codes "two recipes on ")

-- the number of a kind of fault, which a report has as `[Enn]`
abbrev pub fault_kind_number : FaultKind → ℕ
fault_kind_number fault = (fault_kind_row fault).0

-- the message of a kind of fault, without the name at its end
abbrev pub wording : FaultKind → Text
wording fault = (fault_kind_row fault).1

-- the message with its name, which is empty if the message has none
abbrev pub words_with : FaultKind → Text → Text
words_with fault name = wording fault ++ name
