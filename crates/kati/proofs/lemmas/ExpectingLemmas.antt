-- What stands next in a text.
use Rattle.std.proofs.Common.{◌≡◌, ◌≤◌, ◌+◌, ◌∙◌, ℕ, Bool, true, List, ◌++◌, ap, arith, drop, length, nat_eq, sym, take}
use Rattle.std.proofs.lemmas.Bool.Decides.{Decides-eqb}
use Rattle.kati.proofs.Common.{length-append, length-drop, starts_is, pointwise}
use Rattle.std.proofs.Math.Seq.{take-add, take-append_seam}

pub taken_next : (text rest piece : List ℕ) (taken : ℕ) (r : Bool) → rest ≡ drop taken text → taken ≤ length text
    → r ≡ pointwise nat_eq piece (take (length piece) rest) → r ≡ true
    → (taken + length piece ≤ length text) × (take (taken + length piece) text ≡ take taken text ++ piece)
taken_next text rest piece taken r left within is stands =
    let whole = (starts_is Decides-eqb rest piece r is).0 stands in (
      omega (arith, within, length-drop taken text, ap length left, ap length whole, length-append piece (drop (length piece) rest)),
      take-add taken (length piece) text
          ∙ ap (λ t. take taken text ++ t) (ap (take (length piece)) (sym left ∙ whole) ∙ take-append_seam piece (drop (length piece) rest)),
    )
