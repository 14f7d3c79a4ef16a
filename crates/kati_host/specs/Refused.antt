-- What the error output gets if the host gives no words (kati's own).
use Rattle.std.specs.Prelude.{◌≡◌, ℕ, codes}
use Rattle.kt_ninja.specs.Written.{SinkSeen}
use Rattle.kati.specs.declared.faults.RunFault.TheVariants as faults
use Rattle.kati.specs.Exits.{fault_code, usage_code}
use Rattle.kati.specs.ErrorOutput.{WritesOrFails, fault_words}
use Rattle.kati_host.specs.declared.words.Wordless.{Wordless}
use Rattle.kati_host.specs.declared.words.Wordless.TheVariants as reasons

-- the line and the exit status for each reason
abbrev pub RefusesWordless : Wordless → ℕ → SinkSeen → SinkSeen → Type 0
RefusesWordless reasons.NotText code err err' =
    (code ≡ usage_code) × WritesOrFails (codes "kati: a word is not UTF-8\n") err err'
RefusesWordless reasons.Memory code err err' =
    (code ≡ fault_code faults.Memory) × WritesOrFails (fault_words faults.Memory) err err'
