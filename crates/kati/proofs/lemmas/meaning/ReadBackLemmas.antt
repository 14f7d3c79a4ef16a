-- Each plan that a run means can be written, and is read back.
use Rattle.std.proofs.Common.{arith, ◌≡◌, ℕ, Bool, true, false, List, [], Option, Some, None, Result, Ok, Err, refl, sym, ap, ◌∙◌, subst, inl, inr}
use Rattle.kati.proofs.Common.{option_and_then, false≢true, Text, Fault, Store, Trace, traced, StepEnd, Gave, Stopped, leaving, groups_of, Node, Plan, Statement, IsWritable, Obstacle, no_output, bad_name, bad_command, repeated, not_an_output, obstacle_of_statements, texts_exactly, printed_is_read, Args, Meaning, Means, MeansAfter, MeansGoals, WantedGoals, meaning_of, prepared, plan_groups, plan_of, plan_unless, planned, text_fault, unwritable_in, written, gave_both}
use Rattle.kati.specs.views.Plans.{PlansReadBack}
use Rattle.kati.specs.Steps.{telling}
use Rattle.kati.specs.inner.Views.{is_text_trouble}
use Rattle.kati.proofs.lemmas.plan.PlanLemmas.{can_be_written, outs_told, text_troubles}

abbrev pub plan_in : Result Plan Fault → Plan → Plan
plan_in (Ok plan) other = plan
plan_in (Err fault) other = other

abbrev pub plan_in_outcome : StepEnd (List Text) Plan → Plan → Plan
plan_in_outcome (Gave said plan) other = plan
plan_in_outcome (Stopped said fault) other = other

abbrev pub has_plan : Result Plan Fault → Bool
has_plan (Ok plan) = true
has_plan (Err fault) = false

-- a run with a plan had its goals chosen
pub record WentOn (limit : ℕ) (outcome : StepEnd Trace WantedGoals) (m : Meaning) : Type 0 where
  pub trace : Trace
  pub want : WantedGoals
  pub is : outcome ≡ Gave trace want
  pub next : MeansGoals limit want trace m

pub went_on : (limit : ℕ) (outcome : StepEnd Trace WantedGoals) (m : Meaning) (plan : Plan) → m.result ≡ Ok plan → MeansAfter limit outcome m
    → WentOn limit outcome m
went_on limit (Gave trace want) m plan ok h = record { trace = trace; want = want; is = refl; next = h }
went_on limit (Stopped trace fault) m plan ok h = absurd (false≢true (sym (ap (λ (n : Meaning). has_plan n.result) h) ∙ ap has_plan ok))

-- texts without a fault can be written
untroubled : (statements : List Statement) → unwritable_in statements ≡ None → obstacle_of_statements 0 statements ≡ None
unfolding unwritable_in
untroubled statements e = by (obstacle_of_statements 0 statements) refl e
  where
    told : (trouble : Obstacle) → is_text_trouble trouble ≡ true → text_fault statements trouble ≡ None → ⊥
    told (bad_name name) is f = absurd (cc f)
    told (bad_command number) is f = absurd (cc f)
    told (no_output number) is f = false≢true is
    told (repeated name) is f = false≢true is
    told (not_an_output name) is f = false≢true is

    by : (trouble : Option Obstacle) → obstacle_of_statements 0 statements ≡ trouble → option_and_then (text_fault statements) trouble ≡ None → trouble ≡ None
    by None is f = refl
    by (Some trouble) is f = absurd (told trouble (text_troubles 0 statements trouble (sym is)) f)

-- ---- a plan that is given

-- by its statements, of which no text is at fault
pub record IsPlanOf (limit : ℕ) (want : WantedGoals) (nodes : List Node) (said : List Text) (plan : Plan) : Type 0 where
  pub heard : List Text
  pub statements : List Statement
  pub groups : plan_groups want.read.book want.read.table limit (groups_of nodes) [] said ≡ Gave heard statements
  pub fine : unwritable_in (plan_of statements want.goals).statements ≡ None
  pub is : plan ≡ plan_of statements want.goals

plan_unless_is : (plan made : Plan) (trouble : Option Fault) (heard left : List Text) → plan_unless made trouble heard ≡ Gave left plan
    → (trouble ≡ None) × (plan ≡ made)
plan_unless_is plan made None heard left e = (refl, sym (ap (λ (o : StepEnd (List Text) Plan). plan_in_outcome o plan) e))
plan_unless_is plan made (Some fault) heard left e = absurd (cc e)

told_plan : (o : StepEnd (List Text) Plan) (trace : Trace) (plan : Plan) → (meaning_of (leaving (λ said. traced said trace.asked) o)).result ≡ Ok plan
    → (left : List Text) × (o ≡ Gave left plan)
told_plan (Gave said made) trace plan e = (said, ap (λ (r : Result Plan Fault). Gave said (plan_in r plan)) e)
told_plan (Stopped said fault) trace plan e = absurd (false≢true (ap has_plan e))

pub plan_given : (limit : ℕ) (want : WantedGoals) (nodes : List Node) (trace : Trace) (plan : Plan)
    → (meaning_of (telling (planned want.read.book want.read.table limit want.goals nodes) trace)).result ≡ Ok plan
    → IsPlanOf limit want nodes trace.said plan
unfolding planned written
plan_given limit want nodes trace plan e = grind (arith, told_plan, gave_both, plan_unless_is)

pub goals_fine : (limit : ℕ) (want : WantedGoals) (trace : Trace) (m : Meaning) (plan : Plan) → m.result ≡ Ok plan
    → MeansGoals limit want trace m → IsWritable plan
goals_fine limit want trace m plan ok (inl p) =
    let of = plan_given limit want p.nodes trace plan (sym (ap (λ (n : Meaning). n.result) p.means) ∙ ok) in
    subst IsWritable (sym of.is)
    (can_be_written want.read.book want.known want.goals p.nodes p.graph of.statements
    (outs_told want.read.book want.read.table limit (groups_of p.nodes) [] trace.said of.heard of.statements of.groups)
    ((texts_exactly (plan_of of.statements want.goals) (Ok tt) (sym (untroubled (plan_of of.statements want.goals).statements of.fine))).0 refl))
goals_fine limit want trace m plan ok (inr trouble) = grind (arith, false≢true)

writable : (args : Args) (store : Store) (asked : List Text) (m : Meaning) (plan : Plan) → Means args store asked m → m.result ≡ Ok plan → IsWritable plan
writable args store asked m plan means ok =
    let found = went_on args.limit (prepared args store (traced [] asked)) m plan ok means in
    goals_fine args.limit found.want found.trace m plan ok found.next

pub read_back : PlansReadBack
read_back args store asked m plan means ok =
    let fine = writable args store asked m plan means ok in (fine, printed_is_read plan fine)
