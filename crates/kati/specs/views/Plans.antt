-- What each plan is that a run means: it is read back from its text, it is the graph of what the goals need, and it is
-- sound (kati's own). The laws in kati_laws say so.
use Rattle.std.specs.Prelude.{◌≡◌, List, Ok}
use Rattle.kati.specs.Prelude.{Text, Store, Plan, Args, ninja_read, plan_text, IsWritable}
use Rattle.kati.specs.Meaning.{Meaning, Means}
use Rattle.kati.specs.Exact.{IsGraphOf}
use Rattle.kati.specs.Sound.{IsSoundPlan}

-- each plan that a run means is exactly the graph of its goals
abbrev pub PlansAreGraphs : Type 0
PlansAreGraphs = (args : Args) (store : Store) (asked : List Text) (m : Meaning) (plan : Plan)
    → Means args store asked m → m.result ≡ Ok plan → IsGraphOf args store asked plan

-- each plan that a run means can be written, and its text is read as exactly this plan
abbrev pub PlansReadBack : Type 0
PlansReadBack = (args : Args) (store : Store) (asked : List Text) (m : Meaning) (plan : Plan)
    → Means args store asked m → m.result ≡ Ok plan → IsWritable plan × (ninja_read (plan_text plan) ≡ Ok plan)

-- each plan that a run means is sound
abbrev pub PlansAreSound : Type 0
PlansAreSound = (args : Args) (store : Store) (asked : List Text) (m : Meaning) (plan : Plan)
    → Means args store asked m → m.result ≡ Ok plan → IsSoundPlan plan
