-- What a text has of a fault line if appending it failed halfway.
use Rattle.std.proofs.Common.{◌≡◌, ◌++◌, ◌∙◌, ℕ, Bool, true, false, [], Result, Ok, Err, OnErr, refl, codes, decimal, is_ok, nat_lt, if◌then◌else◌}
use Rattle.kt_text.specs.views.Begun.{HasBegun}
use Rattle.kt_eval.proofs.Common.{Text, Fault, message_place}
use Rattle.kt_text.proofs.lemmas.BegunLemmas.{begun_after, begun_front}
use Rattle.kt_eval.specs.Faults.{fault_line, two_digits}

-- the line from its number on, from the bracket before that, from its message and from the mark before that
abbrev pub from_number : Fault → Text
from_number fault = two_digits fault.number ++ codes "]"

abbrev pub from_brace : Fault → Text
from_brace fault = codes " [E" ++ from_number fault

abbrev pub from_words : Fault → Text
from_words fault = fault.words ++ from_brace fault

abbrev pub from_mark : Fault → Text
from_mark fault = codes ": *** " ++ from_words fault

-- the parts of the line that were appended, and a prefix of the next one
module _ (fault : Fault) (old : Text) where
  pub placing : (new : Text) → HasBegun (message_place fault.place) old new → HasBegun (fault_line fault) old new
  placing new cut = begun_front (message_place fault.place) (from_mark fault) old new cut

  pub placed : (a new : Text) → a ≡ old ++ message_place fault.place → HasBegun (from_mark fault) a new → HasBegun (fault_line fault) old new
  placed a new one cut = begun_after (message_place fault.place) (from_mark fault) old a new one cut

  pub marked : (a b new : Text) → a ≡ old ++ message_place fault.place → b ≡ a ++ codes ": *** " → HasBegun (from_words fault) b new
      → HasBegun (fault_line fault) old new
  marked a b new one two cut = placed a new one (begun_after (codes ": *** ") (from_words fault) a b new two cut)

  pub worded : (a b c new : Text) → a ≡ old ++ message_place fault.place → b ≡ a ++ codes ": *** " → c ≡ b ++ fault.words
      → HasBegun (from_brace fault) c new → HasBegun (fault_line fault) old new
  worded a b c new one two three cut = marked a b new one two (begun_after fault.words (from_brace fault) b c new three cut)

  pub braced : (a b c d new : Text) → a ≡ old ++ message_place fault.place → b ≡ a ++ codes ": *** " → c ≡ b ++ fault.words → d ≡ c ++ codes " [E"
      → HasBegun (from_number fault) d new → HasBegun (fault_line fault) old new
  braced a b c d new one two three four cut = worded a b c new one two three (begun_after (codes " [E") (from_number fault) c d new four cut)

  pub numbered : (a b c d e new : Text) → a ≡ old ++ message_place fault.place → b ≡ a ++ codes ": *** " → c ≡ b ++ fault.words → d ≡ c ++ codes " [E"
      → e ≡ d ++ two_digits fault.number → HasBegun (codes "]") e new → HasBegun (fault_line fault) old new
  numbered a b c d e new one two three four five cut =
      braced a b c d new one two three four (begun_after (two_digits fault.number) (codes "]") d e new five cut)

-- the text before the digits of a number
abbrev pub zero_before : ℕ → Text
zero_before number = if nat_lt number 10 then codes "0" else []

with_zero : (less : Bool) (digits : Text) → (if less then codes "0" else []) ++ digits ≡ (if less then codes "0" ++ digits else digits)
with_zero true digits = refl
with_zero false digits = refl

-- a number, after the text before its digits was appended
pub number_cut : {T E : Type 0} (r : Result T E) (number : ℕ) (old middle digits new : Text) → middle ≡ old ++ zero_before number
    → new ≡ (if is_ok r then middle ++ digits else middle) → OnErr r (HasBegun (two_digits number) old new)
number_cut (Ok x) number old middle digits new grown is = tt
number_cut (Err e) number old middle digits new grown is = (zero_before number, decimal number, is ∙ grown, with_zero (nat_lt number 10) (decimal number))
