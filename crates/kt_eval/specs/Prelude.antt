-- The names that most definitions cite, of the crates below and of the code, passed on from one place. Declares
-- nothing.
pub use Rattle.kt_eval.specs.Outcome.{StepOver, leaving}
pub use Rattle.kt_eval.specs.State.{World, ask, bind, frozen_world, lookup, message_place, move_to, raw_value, say, set_macro, set_rule, unbind, warn}
pub use Rattle.kt_eval.specs.Step.{Step, change, stop}
pub use Rattle.kt_eval.specs.declared.expanding.function.Function.{Function}
pub use Rattle.kt_eval.specs.declared.fault.Fault.{Fault}
pub use Rattle.kt_eval.specs.declared.macros.Flavour.{Flavour}
pub use Rattle.kt_eval.specs.declared.macros.Flavour.TheVariants.{Deferred, Immediate}
pub use Rattle.kt_eval.specs.declared.macros.Macro.{Macro}
pub use Rattle.kt_eval.specs.declared.state.FoundValue.{FoundValue}
pub use Rattle.kt_eval.specs.files.Files.{Store, look}
pub use Rattle.kt_eval.specs.macros.Macros.{Macros, find}
pub use Rattle.kt_rules.specs.Entry.{Entry, rule_of, with_line}
pub use Rattle.kt_rules.specs.declared.place.Place.{Place}
pub use Rattle.kt_syntax.specs.Comments.{plain_of}
pub use Rattle.kt_syntax.specs.Kinds.{Form, assignment, directive, form_of}
pub use Rattle.kt_syntax.specs.Terms.{Term, dollar, literal, reference, terms_of, unclosed}
pub use Rattle.kt_syntax.specs.declared.term.Mark.{Mark}
pub use Rattle.kt_syntax.specs.declared.term.Mark.TheVariants.{Braces, Byte, Parentheses}
pub use Rattle.kt_text.specs.Lines.{condensed_of, logical_lines_of, nul_line}
pub use Rattle.kt_text.specs.TextFunctions.{applied, arity, text_function, text_function_name}
pub use Rattle.kt_text.specs.Words.{Text, is_separator, stripped, words_of}
pub use Rattle.kt_text.specs.declared.functions.text_function.TextFunction.{TextFunction}
pub use Rattle.std.specs.List.{join_with_byte, list_any, prefix_len, slice_get, slice_range}
pub use Rattle.std.specs.Prelude.{Bool, List, Option, [], false, suc, unwrap_or, zero, ℕ}
