use Rattle.std.proofs.Common.{◌≡◌, ◌∷◌, ◌-◌, take, arith, rules}
use Rattle.kt_syntax.specs.Mask.{mask_from}
use Rattle.kt_syntax.proofs.lemmas.Masking.{take_first}
use Rattle.kt_syntax.proofs.mask.MaskIterator.next.Goals as goal

first : (c : goal.After-self-3-1) → c.args.self.now ≡ c.first_symbol-symbol.result.0 ∷ take (c.self.inside.left - 1) (mask_from c.first_symbol-symbol.result.1 c.first_symbol-symbol.result.0 c.goes_odd-self-inside.result c.in_ok-byte.text.now)
first c = grind (arith, take_first, take)

pub returns-clause-steps : goal.returns-clause-steps
returns-clause-steps c = rw c.copy-self-inside.ensures (first c)

pub returns-clause-goes : goal.returns-clause-goes
returns-clause-goes c = let e = first c in rw e (search rules)
