-- Heads and refusals of the code as those of the definitions (kati's own).
use Rattle.std.specs.Prelude.{Option, option_map, Result, Ok, Err}
use Rattle.kt_rules.specs.declared.line.head.Head.{Head as HeadTold}
use Rattle.kt_rules.specs.declared.refusal.Refusal.{Refusal as RefusalTold}
use Rattle.kt_rules.specs.Refusals.{Refusal}
use Rattle.kt_rules.specs.inner.Refusals.{refusal_view}
use Rattle.kt_rules.specs.RuleLine.{Head}

-- a head of the code as one of the definitions
abbrev pub head_view : HeadTold → Head
head_view head = record {
  separator = head.separator;
  targets = head.targets.now;
  pattern = option_map (λ word. word.now) head.pattern;
  needs = head.needs.now;
}

-- the result of a cut as one of the definitions
abbrev pub heads_view : Result HeadTold RefusalTold → Result Head Refusal
heads_view (Ok head) = Ok (head_view head)
heads_view (Err refusal) = Err (refusal_view refusal)

-- a refusal of the code, if any, as one of the definitions
abbrev pub refusal_in : Option RefusalTold → Option Refusal
refusal_in refusal = option_map refusal_view refusal
