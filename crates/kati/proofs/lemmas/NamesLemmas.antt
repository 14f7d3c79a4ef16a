-- How the program ends after a run.
use Rattle.std.proofs.Common.{arith, Result, Ok, Err, ◌∙◌}
use Rattle.kati.proofs.Common.{SinkSeen, RunFault, Status, devices, FilesSeen}
use Rattle.kati.specs.declared.faults.RunFault.TheVariants as faults
use Rattle.kati.specs.AfterRun.{BlamesDevice}
use Rattle.kati.specs.Names.{NamesAfter}

-- what caused a fault of the run or of the output behind it is what caused that of the end
pub blames_after : (run ended : Result Status RunFault) (files files' : FilesSeen) (out ran out' err err' : SinkSeen)
    → NamesAfter run ended files'.names ran out' → BlamesDevice run (devices files out err) (devices files' ran err')
    → BlamesDevice ended (devices files out err) (devices files' out' err')
blames_after (Ok status) (Ok status') files files' out ran out' err err' after blames = (blames.0, after.1 ∙ blames.1, blames.2)
blames_after (Ok status) (Err faults.WriteOut) files files' out ran out' err err' after blames = grind arith
blames_after (Ok status) (Err faults.Memory) files files' out ran out' err err' after blames = blames.0
blames_after (Ok status) (Err faults.WriteErr) files files' out ran out' err err' after blames = absurd after
blames_after (Ok status) (Err (faults.Read name)) files files' out ran out' err err' after blames = absurd after
blames_after (Err fault) ended files files' out ran out' err err' after blames = grind arith
