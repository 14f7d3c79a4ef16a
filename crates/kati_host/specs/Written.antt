-- What is seen of an output of the host (kati's own).
use Rattle.std.specs.Prelude.{Some}
use Rattle.kt_ninja.specs.Written.{SinkSeen}
use Rattle.kati_host.specs.declared.output.HostSink.{HostSink}

-- what the output took so far, and how often it failed
abbrev pub sink_seen : {W : Type 0} → HostSink W → SinkSeen
sink_seen sink = record { written = Some sink.written.items; failed = sink.failures }
