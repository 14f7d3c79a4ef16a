-- One more call after a command.
use Rattle.std.proofs.Common.{arith, ◌≡◌, Bool, true, false, [], ◌∷◌, ◌++◌, Some, codes, refl, append_assoc, true≢false}
use Rattle.kt_recipe.proofs.Common.{Text, is_nonempty, joined, wrapped, command_in, with_joint}

-- a call has at least a byte
some_call : (marked : Bool) (shell piece : Text) → is_nonempty (wrapped marked shell piece) ≡ true
unfolding wrapped
some_call true shell piece = refl
some_call false [] piece = refl
some_call false (byte ∷ shell) piece = refl

after : (old call : Text) → is_nonempty call ≡ true → command_in (with_joint old ++ call) ≡ Some (joined (command_in old) call)
after old call some = grind (arith, true≢false, append_assoc, codes)

pub call_joined : (marked : Bool) (shell piece old joint new : Text) → joint ≡ with_joint old → new ≡ joint ++ wrapped marked shell piece
    → command_in new ≡ Some (joined (command_in old) (wrapped marked shell piece))
call_joined marked shell piece old joint new begun is = grind (arith, after, some_call)
