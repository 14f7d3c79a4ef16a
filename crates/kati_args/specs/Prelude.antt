-- The names that most definitions cite, of the crates below and of the code, passed on from one place. Declares
-- nothing.
pub use Rattle.clap.specs.Words.{new_rule, takes, with_rule}
pub use Rattle.kati_args.specs.declared.args.Args.{Args}
pub use Rattle.kati_args.specs.declared.args.MacroWord.{MacroWord}
pub use Rattle.kati_args.specs.declared.fault.ArgFault.{ArgFault}
pub use Rattle.kt_text.specs.Words.{Text, is_equals, is_separator}
