use Rattle.std.proofs.Common.{◌≡◌, ◌++◌, Some, ap, arith, take}
use Rattle.std.proofs.lemmas.Grind.{common_steps}
use Rattle.kt_ninja.specs.Written.{SinkSeen}
use Rattle.kt_ninja.proofs.Growth.{front_taken}
use Rattle.kati.proofs.lemmas.BlameLemmas.{on_err}
use Rattle.kati_host.proofs.output.HostSinkSink.write.Goals as goal

-- whether or not it fails after that, a prefix of the piece was taken
pub returns-clause-front : goal.returns-clause-front
returns-clause-front g c =
    let old : SinkSeen = record { written = Some c.args.self.now.written.items; failed = c.args.self.now.failures } in
    let new : SinkSeen = record { written = Some c.flushed.new.self.written.items; failed = c.flushed.new.self.failures } in
    let count = c.hand_on-count.result in
    let grown : c.flushed.new.self.written.items ≡ c.args.self.now.written.items ++ take count c.args.piece.now = grind (arith, common_steps, c.flushed.ensures.written, c.hand_on-count.ensures.noted) in
    on_err c.flushed.result _ (front_taken old new count c.args.piece.now (ap Some grown))
