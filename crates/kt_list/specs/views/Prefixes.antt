-- Lists that go on (kati's own).
use Rattle.std.specs.Prelude.{◌≡◌, List, ◌++◌}

-- the second list is the first and what follows it
abbrev pub HasMore : {A : Type 0} → List A → List A → Type 0
HasMore {A} old new = (more : List A) × (new ≡ old ++ more)
