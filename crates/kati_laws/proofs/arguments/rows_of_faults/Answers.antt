use Rattle.kati_args.proofs.Common.{clap_on_literals}
use Rattle.kati_laws.proofs.arguments.rows_of_faults.Goals as goal

pub returns : goal.returns
unfolding clap_on_literals
returns c = assumption
