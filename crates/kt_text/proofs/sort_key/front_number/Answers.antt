use Rattle.std.proofs.Common.{◌≡◌, suc, ◌+◌, ◌-◌, ◌*◌, ◌^◌, ◌∙◌, sym, ap, drop, arith}
use Rattle.kt_text.specs.views.Sorted.{front_number}
use Rattle.kt_text.proofs.lemmas.SortLemmas.{front_fits, front_grows, front_number-more, front_number-start, front_number-end}
use Rattle.kt_text.proofs.sort_key.front_number.Goals as goal

pub overflow_mul-front : goal.overflow_mul-front
overflow_mul-front c =
    let most = front_fits c.loop-i.front c.loop-i.i c.loop-i.invariant.small (omega arith) in
    omega (arith, most)

pub overflow_add-front : goal.overflow_add-front
overflow_add-front c =
    let most = front_fits c.loop-i.front c.loop-i.i c.loop-i.invariant.small (omega arith) in
    omega (arith, most, c.byte_at.type_inv, c.from.ensures)

pub loop-i-init : goal.loop-i-init
loop-i-init c = record { bound = omega arith; value = front_number-start c.args.text.now; small = omega arith }

pub loop-i-preserved : goal.loop-i-preserved
loop-i-preserved c =
    let i = c.loop-i.i in
    let left : suc (8 - (i + 1)) ≡ 8 - i = omega arith in
    record {
      bound = omega arith;
      value = rw (c.from.ensures, c.byte_at.ensures)
          (sym (front_number-more (8 - (i + 1)) i c.loop-i.front c.args.text.now)
          ∙ ap (λ n. c.loop-i.front * 256 ^ n + front_number n (drop i c.args.text.now)) left ∙ c.loop-i.invariant.value);
      small = rw c.from.ensures (front_grows c.loop-i.front c.byte_at.result i c.loop-i.invariant.small c.byte_at.type_inv);
    }

pub returns-clause-front : goal.returns-clause-front
returns-clause-front c = front_number-end (8 - c.loop-i.i) c.loop-i.front _ _ (omega arith) c.loop-i.invariant.value
