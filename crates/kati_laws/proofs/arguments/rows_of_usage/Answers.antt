use Rattle.std.proofs.Common.{refl, [], ◌∷◌, codes}
use Rattle.kati_args.proofs.Common.{clap_on_literals}
use Rattle.clap.specs.declared.error.kind.ErrorKind.TheVariants.{InvalidValue, UnknownArgument, ValueValidation}
use Rattle.kati_laws.specs.ArgumentRows.{program_words}
use Rattle.kati_laws.proofs.Answering.{usage_alone}
use Rattle.kati_laws.proofs.arguments.rows_of_usage.Goals as goal

pub returns : goal.returns
unfolding clap_on_literals
returns c = record {
  unknown = usage_alone (program_words (codes "--nothing" ∷ [])) UnknownArgument refl refl (λ help. absurd (cc help));
  later = usage_alone (program_words (codes "t" ∷ codes "A=1" ∷ codes "-x" ∷ [])) UnknownArgument refl refl (λ help. absurd (cc help));
  too_deep = usage_alone (program_words (codes "A:=x" ∷ codes "--depth=401" ∷ [])) ValueValidation refl refl (λ help. absurd (cc help));
  no_value = usage_alone (program_words (codes "=x" ∷ codes "-f" ∷ [])) InvalidValue refl refl (λ help. absurd (cc help));
}
