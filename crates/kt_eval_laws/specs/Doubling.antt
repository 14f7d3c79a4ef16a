-- What a text with each dollar doubled expands to (POSIX.1-2024 make, "Macros": `:::=`).
use Rattle.std.specs.Prelude.{◌≡◌, ℕ, suc, Bool, Some}
use Rattle.kt_eval.specs.Prelude.{Text, Store, World}
use Rattle.kt_eval.specs.macros.Macros.{set_by_makefile, with_dollars_doubled}
use Rattle.kt_eval.specs.State.{found_of}
use Rattle.kt_eval.specs.Outcome.{Gave}
use Rattle.kt_eval.specs.declared.macros.Flavour.TheVariants.{Deferred}
use Rattle.kt_eval.specs.expanding.Expansion.{value_of, expanded}
use Rattle.kt_eval.specs.expanding.Levels.{evaluator}

-- the doubled text expands to the text, whatever is defined, and nothing else happens: there is no message and no
-- fault, and no macro changes. So the value of the macro that `:::=` sets expands to the text if a level is left for it
pub record DoublingLaw : Type 0 where
  pub expands : (reads : Bool) (store : Store) (levels : ℕ) (text : Text) (w : World)
      → expanded (evaluator reads store levels) (with_dollars_doubled text) w ≡ Gave w text
  pub gives : (reads : Bool) (store : Store) (levels : ℕ) (text : Text) (w : World)
      → value_of (evaluator reads store (suc levels)) (Some (found_of
      (set_by_makefile Deferred (with_dollars_doubled text)))) w
      ≡ Gave w text
