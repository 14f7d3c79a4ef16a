use Rattle.std.proofs.Common.{vec_len, ◌≤◌}
use Rattle.std.specs.Io.KnownBytes.{Consumes}
use Rattle.kati_host.specs.declared.files.TheConstants.{MOST}
use Rattle.kati_host.proofs.files.read_to_end.Given as goal

abbrev pub invariant-loop : goal.invariant-loop
invariant-loop g l = record {
  bound : vec_len l.bytes ≤ MOST;
  read : Consumes (g.R.Read.remaining l.fn.reader) (g.R.Read.remaining l.reader) l.bytes.items;
}
