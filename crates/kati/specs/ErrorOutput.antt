-- What goes to the error output, and what the output gets besides a plan's text (kati's own).
use Rattle.std.specs.Prelude.{◌≡◌, ℕ, List, [], ◌++◌, ◌⊎◌, Result, Ok, Err, codes, string_bytes}
use Rattle.kati.specs.Prelude.{flat_map, Rises, Text, Fault, fault_line, Plan, GrowsByFront, SinkSeen, Takes, ArgFault}
use Rattle.kati.specs.Prelude.{RunFault, Status, Devices}
use Rattle.kati_args.specs.declared.fault.ArgFault.TheVariants as refusals
use Rattle.kati.specs.declared.faults.RunFault.TheVariants as faults
use Rattle.kati.specs.Exits.{fault_code, usage_code}
use Rattle.kati.specs.Meaning.{Meaning}

-- ---- messages, and the makefile's fault

-- the line that reports the makefile's fault, or an empty text if there is a plan
abbrev pub fault_text : Result Plan Fault → Text
fault_text (Ok plan) = []
fault_text (Err fault) = fault_line fault ++ codes "\n"

-- each message on a line of its own
abbrev pub messages_text : List Text → Text
messages_text messages = flat_map (λ message. message ++ codes "\n") messages

-- what a run writes to the error output
abbrev pub err_text : Meaning → Text
err_text m = messages_text m.messages ++ fault_text m.result

-- ---- how a program ends

-- why a run didn't come to its end
abbrev pub fault_words : RunFault → Text
fault_words (faults.Read name) = codes "kati: cannot read " ++ (string_bytes name ++ codes "\n")
fault_words faults.WriteOut = codes "kati: cannot write\n"
fault_words faults.WriteErr = codes "kati: cannot write\n"
fault_words faults.Memory = codes "kati: no memory\n"

-- a sink took the text, or it failed and took a prefix of it
abbrev pub WritesOrFails : Text → SinkSeen → SinkSeen → Type 0
WritesOrFails text old new = Takes old new text ⊎ (Rises old.failed new.failed × GrowsByFront old new text)

-- after a run the error output gets the reason why the run didn't come to its end, and nothing else changes
abbrev pub ReportsEnd : Result Status RunFault → Devices → Devices → Type 0
ReportsEnd (Ok status) old new = new ≡ old
ReportsEnd (Err fault) old new =
    (new.files ≡ old.files) × (new.out ≡ old.out) × WritesOrFails (fault_words fault) old.err new.err

-- the help goes to the output, and a failure there is reported on the error output
abbrev pub GivesHelp : Text → ℕ → SinkSeen → SinkSeen → SinkSeen → SinkSeen → Type 0
GivesHelp text code out out' err err' =
    ((code ≡ 0) × Takes out out' text × (out'.failed ≡ out.failed) × (err' ≡ err))
    ⊎ ((code ≡ fault_code faults.WriteOut) × Rises out.failed out'.failed × GrowsByFront out out' text
    × WritesOrFails (fault_words faults.WriteOut) err err')

-- the text for words that ask for no run goes to the error output, with the expected exit status
abbrev pub RefusesWith : ℕ → Text → ℕ → SinkSeen → SinkSeen → SinkSeen → SinkSeen → Type 0
RefusesWith expected text code out out' err err' = (code ≡ expected) × (out' ≡ out) × WritesOrFails text err err'

-- how a program ends if its words ask for no run; its help comes after the lead
abbrev pub RefusesBy : Text → ArgFault → ℕ → SinkSeen → SinkSeen → SinkSeen → SinkSeen → Type 0
RefusesBy lead (refusals.Help text) code out out' err err' =
    GivesHelp (lead ++ string_bytes text) code out out' err err'
RefusesBy lead (refusals.Usage text) code out out' err err' =
    RefusesWith usage_code (string_bytes text) code out out' err err'
RefusesBy lead (refusals.BadMacro word) code out out' err err' =
    RefusesWith usage_code (codes "kati: bad macro " ++ (string_bytes word ++ codes "\n")) code out out' err err'
RefusesBy lead refusals.Memory code out out' err err' =
    RefusesWith (fault_code faults.Memory) (fault_words faults.Memory) code out out' err err'
