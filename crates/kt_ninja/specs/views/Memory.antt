-- A sink over memory.
use Rattle.std.specs.Prelude.{ℕ, ◌-◌, min, List, ◌++◌, length, Some}
use Rattle.kt_list.specs.Counters.{one_more}
use Rattle.kt_ninja.specs.Written.{SinkSeen}

-- what it holds, how much it can hold, how much it takes in a call, how often it failed, and how often it was called
pub record MemSink : Type 0 where
  pub bytes : List ℕ
  pub room : ℕ
  pub step : ℕ
  pub failures : ℕ
  pub calls : ℕ

-- what is seen of it as of any sink
abbrev pub sink_seen_of : MemSink → SinkSeen
sink_seen_of m = record { written = Some m.bytes; failed = m.failures }

-- how many bytes of a piece it takes: what the piece, the step and the room allow
abbrev pub taken_of : MemSink → List ℕ → ℕ
taken_of m piece = min (min (length piece) m.step) (m.room - length m.bytes)

-- what a call leaves, of which a given number of bytes were taken and which counts a given number of failures
abbrev pub sink_after_call : MemSink → List ℕ → ℕ → MemSink
sink_after_call m bytes failures = record {
  bytes = m.bytes ++ bytes;
  room = m.room;
  step = m.step;
  failures = failures;
  calls = one_more m.calls;
}
