use Rattle.std.proofs.Common.{◌≡◌, length, arith}
use Rattle.kt_text.proofs.Common.{nat_tests, condensed_of}
use Rattle.kt_text.proofs.lemmas.CondensedLemmas.{condensed_end}
use Rattle.kt_text.proofs.condense.condensed.Goals as goal

pub returns : goal.returns
returns c =
    let none : length c.loop-rest.rest.now ≡ 0 = grind (arith, nat_tests) in
    rw c.in_ok-add_line-2.ensures (condensed_end c.loop-rest.continued c.loop-rest.rest.now (condensed_of c.args.text.now) c.loop-rest.out.items none c.loop-rest.invariant)
