use Rattle.kati_args.proofs.Common.{clap_on_literals, is_separator}
use Rattle.kati_laws.proofs.arguments.rows_of_lines.Goals as goal

pub returns : goal.returns
unfolding clap_on_literals is_separator
returns c = assumption
