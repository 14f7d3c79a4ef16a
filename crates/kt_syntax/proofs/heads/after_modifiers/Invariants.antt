use Rattle.std.proofs.Common.{◌≡◌, ◌+◌, length, drop, take}
use Rattle.kt_syntax.proofs.Common.{after_modifiers, mask_of}
use Rattle.kt_syntax.proofs.lemmas.ModifierLemmas.{Ahead, Scan}
use Rattle.kt_syntax.proofs.heads.after_modifiers.Given as goal

abbrev pub invariant-loop-symbol : goal.invariant-loop-symbol
invariant-loop-symbol l =
    let mask = take l.fn.end (mask_of l.text) in
    record {
      size : l.place + length l.symbol-iterator ≡ l.fn.end;
      rest : l.symbol-iterator ≡ drop l.place mask;
      scan : Scan mask l.found l.begin l.place;
      ahead : Ahead l.text mask l.fn.end l.found (after_modifiers l.fn.end l.text mask l.from);
    }
