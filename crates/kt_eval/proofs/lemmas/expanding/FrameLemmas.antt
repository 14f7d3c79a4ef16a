-- Bindings from the innermost on.
use Rattle.std.proofs.Common.{arith, ◌≡◌, List, [], ◌∷◌, ◌++◌, Option, None, Some, option_map, Bor, refl, sym, ap, true≢false, is_some}
use Rattle.kt_eval.proofs.Common.{Text, Frame, innermost_value, newer, seen}

-- one more binding inside the others comes first
pub inner_first : (name : Text) (found : Option Text) (frames : List Frame) (frame : Frame)
    → innermost_value name found (frames ++ frame ∷ []) ≡ newer (innermost_value name found frames) (seen name frame)
unfolding innermost_value
inner_first name found [] frame = refl
inner_first name found (other ∷ frames) frame = inner_first name (newer found (seen name other)) frames frame

-- the innermost of them has a value
pub innermost_says : (name : Text) (left outer : List Frame) (frame : Frame) (value : Text) (whole : Option Text) → left ≡ outer ++ frame ∷ []
    → Some value ≡ seen name frame → innermost_value name None left ≡ whole → Some value ≡ whole
innermost_says name left outer frame value whole cut says is = grind (arith, inner_first)

none_of : (said : Option Text) → ((value : Text) → said ≡ Some value → ⊥) → None ≡ said
none_of None none = refl
none_of (Some value) none = absurd (none value refl)

-- it has none, so the others are searched
pub innermost_silent : (name : Text) (left outer : List Frame) (frame : Frame) (said whole : Option Text) → left ≡ outer ++ frame ∷ []
    → said ≡ seen name frame → ((value : Text) → said ≡ Some value → ⊥) → innermost_value name None left ≡ whole
    → innermost_value name None outer ≡ whole
innermost_silent name left outer frame said whole cut says none is = grind (arith, none_of, inner_first)

-- what borrows no text has no value
pub none_seen : (found : Option (Bor Text)) → ((value : Bor Text) → found ≡ Some value → ⊥)
    → (value : Text) → option_map (λ (lent : Bor Text). lent.now) found ≡ Some value → ⊥
none_seen None none value is = true≢false (sym (ap is_some is))
none_seen (Some lent) none value is = none lent refl
