-- How the reader reports that a text has no reading (the reader's own).
use Rattle.std.specs.Prelude.{◌≡◌, ℕ, Result, Err}
use Rattle.kt_ninja_reader.specs.declared.read_fault.ReadFault.{ReadFault}
use Rattle.kt_ninja_reader.specs.declared.read_fault.ReadFault.TheVariants.{NotNinja, Memory as MemoryRefused}

-- the text has no reading from the part on that begins with this line, or memory was refused
abbrev pub Misreads : {X : Type 0} → Result X ℕ → ReadFault → Type 0
Misreads expected (NotNinja number) = expected ≡ Err number
Misreads expected MemoryRefused = Unit {0}
