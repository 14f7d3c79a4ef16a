use Rattle.std.proofs.Common.{ℕ, ◌≡◌, replicate, rules}
use Rattle.kt_syntax.proofs.lemmas.StepListLemmas.{all_ordinary}
use Rattle.kt_syntax.proofs.step_list.StepList.ordinary.Goals as goal

pub returns : goal.returns
returns c =
    let zeros : c.in_ok-vec.field-0.items ≡ replicate {A = ℕ} c.args.count 0 = search rules in
    rw zeros (all_ordinary _ c.args.count)
