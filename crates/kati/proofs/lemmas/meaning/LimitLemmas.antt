-- A result that isn't too deep with a limit is the same with a larger one.
use Rattle.std.proofs.Common.{rules, ℕ, zero, suc, ◌+◌, ◌-◌, List, [], ◌∷◌, ◌++◌, refl, subst, inl, inr, arith, codes}
use Rattle.kati.proofs.Common.{Text, Entry, Store, Makefile, Trace, traced, StepEnd, Gave, Stopped, leaving, Macros, Node, Plan, Statement, Args, Meaning, Means, MeansAfter, MeansGoals, WantedGoals, meaning_of, prepared, wanted_by, command_for, plan_groups, planned, statement_of}
use Rattle.kt_eval.specs.views.Growing as growing
use Rattle.kt_eval.proofs.lemmas.GrowingReads.{expanding_stays, reading_stays}
use Rattle.kt_recipe.proofs.DeeperLemmas.{Stays, command_stays, leaving_stays, then_stays}
use Rattle.kati.specs.Goals.{chosen_goals, default_goal_text}
use Rattle.kati.specs.views.Limits.{IsRunTooDeep, OnlyCuts, OnlyCutsRuns, with_limit}
use Rattle.kati.specs.Listing.{listed}
use Rattle.kati.specs.Makefile.{makefile_read}
use Rattle.kati.proofs.lemmas.RunLemmas.{graph_if_plan}

-- ---- the steps

makefile_deeper : (args : Args) (store : Store) (limit : ℕ) (trace : Trace)
    → Stays (makefile_read (with_limit limit args) store trace) (makefile_read (with_limit (suc limit) args) store trace)
makefile_deeper args store limit trace = grind (arith, leaving_stays, then_stays, reading_stays)

goals_deeper : (limit : ℕ) (read : Makefile) (words said : List Text) → Stays (chosen_goals limit read words said) (chosen_goals (suc limit) read words said)
unfolding default_goal_text
goals_deeper limit read (word ∷ words) said = λ deep. refl
goals_deeper limit read [] said = grind (arith, then_stays, leaving_stays, codes, expanding_stays)

telling_stays : {A : Type 0} (trace : Trace) (before after : StepEnd (List Text) A) → Stays before after
    → Stays (leaving (λ said. traced said trace.asked) before) (leaving (λ said. traced said trace.asked) after)
telling_stays trace before after is = leaving_stays (λ said. traced said trace.asked) before after is

prepared_deeper : (args : Args) (store : Store) (limit : ℕ) (trace : Trace)
    → Stays (prepared (with_limit limit args) store trace) (prepared (with_limit (suc limit) args) store trace)
prepared_deeper args store limit trace =
    then_stays (listed store args.files trace) (listed store args.files trace) _ _ (λ deep. refl)
    (λ list middle. then_stays (makefile_read (with_limit limit args) store middle) (makefile_read (with_limit (suc limit) args) store middle) _ _
    (makefile_deeper args store limit middle)
    (λ read last. telling_stays last (wanted_by (with_limit limit args) list read last.said) (wanted_by (with_limit (suc limit) args) list read last.said)
    (then_stays (chosen_goals limit read args.goals last.said) (chosen_goals (suc limit) read args.goals last.said) _ _
    (goals_deeper limit read args.goals last.said) (λ goals left deep. refl))))

-- ---- the statements

command_deeper : (table : Macros) (limit : ℕ) (group : List Node) (said : List Text)
    → Stays (command_for table limit group said) (command_for table (suc limit) group said)
command_deeper table limit [] said = λ deep. refl
command_deeper table limit (least ∷ others) said = command_stays table least limit said

groups_deeper : (rules : List Entry) (table : Macros) (limit : ℕ) (groups : List (List Node)) (before : List Statement) (said : List Text)
    → Stays (plan_groups rules table limit groups before said) (plan_groups rules table (suc limit) groups before said)
unfolding plan_groups
groups_deeper rules table limit [] before said = λ deep. refl
groups_deeper rules table limit (group ∷ groups) before said =
    then_stays (command_for table limit group said) (command_for table (suc limit) group said) _ _ (command_deeper table limit group said)
    (λ command heard. groups_deeper rules table limit groups (before ++ statement_of rules group command ∷ []) heard)

plan_deeper : (rules : List Entry) (table : Macros) (limit : ℕ) (goals : List Text) (nodes : List Node) (said : List Text)
    → Stays (planned rules table limit goals nodes said) (planned rules table (suc limit) goals nodes said)
unfolding planned
plan_deeper rules table limit goals nodes said = grind (arith, then_stays, groups_deeper)

-- ---- the whole

-- an outcome that is too deep means a fault that is
deep_means : (o : StepEnd Trace Plan) → growing.IsTooDeep o → IsRunTooDeep (meaning_of o).result
deep_means (Gave trace plan) deep = deep
deep_means (Stopped trace fault) deep = deep

goals_mean : (limit : ℕ) (want : WantedGoals) (trace : Trace) (m : Meaning) → (IsRunTooDeep m.result → ⊥) → MeansGoals limit want trace m
    → MeansGoals (suc limit) want trace m
goals_mean limit want trace m fine (inl plan) = grind (arith, telling_stays, plan_deeper, deep_means)
goals_mean limit want trace m fine (inr trouble) = inr trouble

after_mean : (limit : ℕ) (before after : StepEnd Trace WantedGoals) (m : Meaning) → (IsRunTooDeep m.result → ⊥) → Stays before after
    → MeansAfter limit before m → MeansAfter (suc limit) after m
after_mean limit (Gave trace want) after m fine is h = grind (arith, goals_mean)
after_mean limit (Stopped trace fault) after m fine is h = grind arith

one_more : (args : Args) (store : Store) (asked : List Text) (limit : ℕ) (m : Meaning) → Means (with_limit limit args) store asked m
    → (IsRunTooDeep m.result → ⊥) → Means (with_limit (suc limit) args) store asked m
one_more args store asked limit m means fine = grind (arith, after_mean, prepared_deeper)

-- this many more
some_more : (args : Args) (store : Store) (asked : List Text) (limit more : ℕ) (m : Meaning) → Means (with_limit limit args) store asked m
    → (IsRunTooDeep m.result → ⊥) → Means (with_limit (more + limit) args) store asked m
some_more args store asked limit zero m means fine = subst (λ (n : ℕ). Means (with_limit n args) store asked m) (omega arith) means
some_more args store asked limit (suc more) m means fine = subst (λ (n : ℕ). Means (with_limit n args) store asked m) (omega arith)
    (one_more args store asked (more + limit) m (some_more args store asked limit more m means fine) fine)

pub only_cuts : OnlyCuts
only_cuts args store asked limit larger m below means fine =
    subst (λ (n : ℕ). Means (with_limit n args) store asked m) (omega (arith, below)) (some_more args store asked limit (larger - limit) m means fine)

-- ---- a run

pub only_cuts_runs : OnlyCutsRuns
only_cuts_runs args store limit larger status old new below ends fine =
    let means = only_cuts args store old.files.names limit larger ends.meaning below ends.means fine in (
      record {
        meaning = ends.meaning;
        means = means;
        graph = graph_if_plan (with_limit larger args) store old.files.names ends.meaning means;
        sound = ends.sound;
        ends = ends.ends;
        names = ends.names;
        written = ends.written;
        told = ends.told;
      },
      refl,
    )
