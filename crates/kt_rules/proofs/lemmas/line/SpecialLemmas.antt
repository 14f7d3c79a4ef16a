-- A name that doesn't begin with a dot is no special target.
use Rattle.std.proofs.Common.{arith, ◌≡◌, false}
use Rattle.kt_rules.proofs.Common.{Text, is_special, is_refused_target, is_without_effect, begins_with_dot}

-- such a name
pub plain_name : (name : Text) → begins_with_dot name ≡ false → is_special name ≡ false
unfolding is_special is_without_effect
plain_name name none = grind arith

pub plain_target : (name : Text) → begins_with_dot name ≡ false → is_refused_target name ≡ false
unfolding is_refused_target
plain_target name none = grind arith
