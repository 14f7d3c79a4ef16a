-- What reading a line with plain prerequisites comes down to.
use Rattle.std.proofs.Common.{arith, ◌≡◌, Bool, false, true≢false, None, ap, ⊎_elim, ◌||◌, nat_eq}
use Rattle.kt_rules.proofs.Common.{list_any, cases_Bool, starts_is, has_percent, Text, is_colon, Needs, HeadNames, head_names, Head, after_double, head_of, line_of}
use Rattle.std.proofs.lemmas.Bool.Decides.{Decides-eqb}
use Rattle.kt_rules.specs.declared.line.head.Separator.TheVariants.{Single}
use Rattle.kt_rules.specs.inner.Remembered.{IsLongCut, NamesNeeds, ReadsAsLong, long_line}
use Rattle.kt_rules.specs.inner.Telling.{is_telling, signs_of}
use Rattle.kt_rules.proofs.lemmas.line.BackslashLemmas.{never_colon}
use Rattle.kt_rules.proofs.lemmas.line.SignLemmas.{signs_tell}

-- without a colon there is no second one
single : (after : Text) → list_any is_colon after ≡ false → after_double after ≡ None
unfolding after_double
single after none = grind (arith, ⊎_elim, starts_is, Decides-eqb, true≢false, cases_Bool, nat_eq)

alone : (b : Bool) → b ≡ (b || false)
alone b = grind arith

pub reads_long : (text targets after : Text) (needs : Needs) → IsLongCut text targets after → NamesNeeds after needs
    → ReadsAsLong text (long_line targets needs)
unfolding head_names head_of
reads_long text targets after needs cut names =
    let head : Head = record { separator = Single; targets = targets; pattern = None; needs = after } in
    let line : HeadNames = (long_line targets needs).line in
    let named : line ≡ line_of head = ap (λ (n : Needs). (long_line targets n).line) names.named in
    let quiet : (long_line targets needs).signs ≡ signs_of head
    = rw names.plain.quiet (ap (λ b. record { telling = b; percent = has_percent targets }) (alone (list_any is_telling targets))) in
    record {
      read = grind (arith, single, never_colon);
      told = signs_tell head (long_line targets needs).signs line quiet named;
    }
