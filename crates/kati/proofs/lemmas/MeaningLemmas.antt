-- The meaning of a call that comes to goals and their plan, from its result.
use Rattle.std.proofs.Common.{arith, rules, ◌≡◌, ℕ, List, [], Result, Ok, Err, refl, sym, ap, subst, inl, inr}
use Rattle.kati.proofs.Common.{Text, Entry, Fault, Stop, Trace, traced, Store, Ends, IsOfNoDevice, Gives, StepEnd, Gave, Stopped, IsSoundGraph, ReportsFirst, Node, Plan, Args, Meaning, MeansAfter, WantedGoals, meaning_of, prepared, planned}
use Rattle.kt_eval.specs.declared.stop.Stop.TheVariants as stops
use Rattle.kt_graph.specs.declared.faults.fault.GraphFault.{GraphFault}
use Rattle.kt_graph.specs.declared.faults.fault.GraphFault.TheVariants as graphs
use Rattle.kati.specs.inner.Stops.{IsFirstStop, IsStopOf}
use Rattle.kati.specs.inner.Views.{EndMeans, GoalsEnd}

abbrev pub meant : List Text → List Text → Result Plan Fault → Meaning
meant said asked result = record { messages = said; result = result; asked = asked }

-- the plan of a sound graph, as it is seen
pub seen_means : {A : Type 0} (see : A → Plan) (limit : ℕ) (want : WantedGoals) (trace : Trace) (nodes : List Node) (heard : List Text) (result : Result A Stop)
    → IsSoundGraph want.read.book want.known want.goals nodes
    → Gives see result heard (planned want.read.book want.read.table limit want.goals nodes trace.said)
    → Ends (GoalsEnd limit want) trace see result (traced heard trace.asked)
seen_means see limit want trace nodes heard (Ok plan) sound is = inl (record { nodes = nodes; graph = sound; means = rw is refl })
seen_means see limit want trace nodes heard (Err (stops.Fault fault)) sound is = inl (record { nodes = nodes; graph = sound; means = rw is refl })
seen_means see limit want trace nodes heard (Err (stops.Device name)) sound is = tt
seen_means see limit want trace nodes heard (Err stops.Memory) sound is = tt

-- the first thing that is wrong with a graph
pub first_stop : (rules : List Entry) (known goals : List Text) (fault : GraphFault) (stop : Stop) → ReportsFirst rules known goals fault → IsStopOf fault stop
    → IsFirstStop rules known goals stop
first_stop rules known goals graphs.Memory stop tells is = subst (λ (s : Stop). IsFirstStop rules known goals s) (sym is) tt
first_stop rules known goals (graphs.Refused number words) stop tells is = grind arith

pub trouble_means : {A : Type 0} (see : A → Plan) (limit : ℕ) (want : WantedGoals) (trace : Trace) (stop : Stop) → IsFirstStop want.read.book want.known want.goals stop
    → Ends (GoalsEnd limit want) trace see (Err stop) trace
trouble_means see limit want trace (stops.Fault fault) first =
    inr (record { trouble = first.0; first = first.1; means = ap (λ (f : Fault). meant trace.said trace.asked (Err f)) first.2 })
trouble_means see limit want trace (stops.Device name) first = tt
trouble_means see limit want trace stops.Memory first = tt

-- nothing that is wrong with a graph is a failure of a device
pub first_asks : (rules : List Entry) (known goals : List Text) (stop : Stop) → IsFirstStop rules known goals stop → IsOfNoDevice stop
first_asks rules known goals (stops.Fault fault) first = tt
first_asks rules known goals (stops.Device name) first = first
first_asks rules known goals stops.Memory first = tt

-- what is prepared, and then planned
pub then_means : {A : Type 0} (see : A → Plan) (args : Args) (store : Store) (asked : List Text) (left trace : Trace) (want : WantedGoals) (result : Result A Stop)
    → prepared args store (traced [] asked) ≡ Gave trace want → Ends (GoalsEnd args.limit want) trace see result left → Ends (EndMeans args store) asked see result left
then_means see args store asked left trace want (Ok plan) is h =
    subst (λ (o : StepEnd Trace WantedGoals). MeansAfter args.limit o (meaning_of (Gave left (see plan)))) (sym is) h
then_means see args store asked left trace want (Err (stops.Fault fault)) is h =
    subst (λ (o : StepEnd Trace WantedGoals). MeansAfter args.limit o (meaning_of (Stopped left fault))) (sym is) h
then_means see args store asked left trace want (Err (stops.Device name)) is h = tt
then_means see args store asked left trace want (Err stops.Memory) is h = tt
