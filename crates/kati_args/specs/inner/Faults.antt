-- What is made of an error of clap's (kati's own).
use Rattle.std.specs.Prelude.{◌≡◌, ◌≢◌, ⊤, Result, Ok, Err, String}
use Rattle.std.specs.declared.alloc.Global.{Global}
use Rattle.kati_args.specs.Prelude.{ArgFault}
use Rattle.clap.specs.Words.{kind_of}
use Rattle.clap.specs.declared.error.kind.ErrorKind.{ErrorKind}
use Rattle.clap.specs.declared.error.kind.ErrorKind.TheVariants.{DisplayHelp, OutOfMemory}
use Rattle.clap.specs.declared.error.Error.{Error}
use Rattle.kati_args.specs.declared.fault.ArgFault.TheVariants.{BadMacro, Help, Memory, Usage}

-- what is returned for an error of clap's
abbrev pub ReportsError : Error → ArgFault → Type 0
ReportsError error (Help text) = kind_of error ≡ DisplayHelp
ReportsError error (Usage text) = (kind_of error ≢ OutOfMemory) × (kind_of error ≢ DisplayHelp)
ReportsError error Memory = ⊤
ReportsError error (BadMacro word) = ⊥

-- what is told of a fault of this kind: the text that was made of it, and want of memory just where none could be made
abbrev pub TellsFaultText : {E : Type 0} → ErrorKind → Result (String Global) E → ArgFault → Type 0
TellsFaultText kind (Ok text) (Help told) = (kind ≡ DisplayHelp) × (told ≡ text)
TellsFaultText kind (Ok text) (Usage told) = (kind ≢ DisplayHelp) × (told ≡ text)
TellsFaultText kind (Ok text) Memory = ⊥
TellsFaultText kind (Ok text) (BadMacro word) = ⊥
TellsFaultText kind (Err fault) told = told ≡ Memory
