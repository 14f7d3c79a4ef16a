use Rattle.std.proofs.Common.{◌≡◌, ◌+◌, ◌-◌, ◌*◌, ◌^◌, ◌<◌, ◌≤◌, drop}
use Rattle.kt_text.specs.views.Sorted.{front_number}
use Rattle.kt_text.proofs.sort_key.front_number.Given as goal

abbrev pub invariant-loop-i : goal.invariant-loop-i
invariant-loop-i l = record {
  bound : l.i ≤ 8;
  value : l.front * 256 ^ (8 - l.i) + front_number (8 - l.i) (drop l.i l.text) ≡ front_number 8 l.text;
  small : l.front < 256 ^ l.i;
}
