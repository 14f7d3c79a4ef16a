-- Values that lie in themselves where they are short.
use Rattle.std.specs.Prelude.{ℕ, List}
use Rattle.kt_eval.specs.declared.value.ValueStorage.{ValueStorage}
use Rattle.kt_eval.specs.declared.value.ValueStorage.TheVariants.{Short, Long}

-- the bytes of a value: those that lie in it, or those that are shared
abbrev pub stored_value : ValueStorage → List ℕ
stored_value (Short bytes) = bytes
stored_value (Long text) = text
