use Rattle.std.proofs.Common.{◌≡◌, drop, fold}
use Rattle.kati.specs.Makefile.{command_line_table, with_macro}
use Rattle.kati.proofs.makefile.macros_of.Given as goal

abbrev pub invariant-loop-definition : goal.invariant-loop-definition
invariant-loop-definition l = fold with_macro l.macros (drop l.definition-index l.definitions) ≡ command_line_table l.definitions
