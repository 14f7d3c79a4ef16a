-- What is answered for an error of usage.
use Rattle.std.proofs.Common.{arith, ◌≡◌, ◌∙◌, List, false, Ok, Err, sym, ⊎_elim, [], ◌∷◌, true≢false, Result}
use Rattle.kati_args.proofs.Common.{Text, fault_of, takes}
use Rattle.clap.specs.declared.error.kind.ErrorKind.{ErrorKind}
use Rattle.clap.specs.declared.error.kind.ErrorKind.TheVariants.{DisplayHelp}
use Rattle.kati_args.specs.declared.args.Args.{Args}
use Rattle.kati_args.specs.declared.fault.ArgFault.{ArgFault}
use Rattle.kati_args.specs.declared.fault.ArgFault.TheVariants.{BadMacro, Help, Memory, Usage}
use Rattle.kati_laws.specs.ArgumentRows.{IsUsage}
use Rattle.kati_args.specs.Args.{AnswersWords, kati_app}
use Rattle.kati_args.proofs.Answering.{among}

-- where clap doesn't take the words, for one reason that isn't its help, only usage may be answered
pub usage_alone : (words : List Text) (kind : ErrorKind) → takes kati_app words ≡ false → fault_of kati_app words ≡ kind ∷ [] → (DisplayHelp ≡ kind → ⊥)
    → (result : Result Args ArgFault) → AnswersWords words result → IsUsage result
usage_alone words kind untaken fault other (Ok args) answered = absurd (true≢false (sym answered.0 ∙ untaken))
usage_alone words kind untaken fault other (Err (BadMacro word)) answered = absurd (true≢false (sym answered.0 ∙ untaken))
usage_alone words kind untaken fault other (Err (Help text)) answered = grind (arith, among, ⊎_elim)
usage_alone words kind untaken fault other (Err (Usage text)) answered = tt
usage_alone words kind untaken fault other (Err Memory) answered = tt
