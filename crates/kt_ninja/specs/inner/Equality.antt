-- `==` says whether two plans are the same.
use Rattle.std.proofs.Common.{◌≡◌, ℕ, List, refl, sym, ap, subst}
use Rattle.std.proofs.lemmas.Bool.Decides.{Decides-and}
use Rattle.std.specs.Prelude.{Bool, IsTrue, ◌↔◌}
use Rattle.std.specs.Bool.{Decides}
use Rattle.std.specs.Cmp.{IsEquivalence, decided}
use Rattle.std.specs.Cmp.Lexicographic.{pointwise, pointwise_decides, bytes_decides}
use Rattle.kt_ninja.specs.Prelude.{Made, Command, Phony, Statement, Plan}
use Rattle.kt_ninja.specs.views.Plan.{same_names, same_made, same_statement, same_plan}

names_same : (a b : List (List ℕ)) → Decides (same_names a b) (a ≡ b)
names_same a b = pointwise_decides bytes_decides a b

made_same : (a b : Made) → Decides (same_made a b) (a ≡ b)
made_same (Command c) (Command d) =
    (λ e. ap Command ((bytes_decides c d).0 e), λ e. (bytes_decides c d).1 (cc e))
made_same (Command c) Phony = (λ e. absurd (cc e), λ e. absurd (cc e))
made_same Phony (Command d) = (λ e. absurd (cc e), λ e. absurd (cc e))
made_same Phony Phony = (λ _. refl, λ _. refl)

equal_statements : (a b : Statement) → a.outs ≡ b.outs → a.made ≡ b.made → a.inputs ≡ b.inputs → a.implicit ≡ b.implicit
    → a.order_only ≡ b.order_only → a ≡ b
equal_statements a b outs made inputs implicit order_only = λ i. record {
  outs = outs i;
  made = made i;
  inputs = inputs i;
  implicit = implicit i;
  order_only = order_only i;
}

equal_plans : (a b : Plan) → a.statements ≡ b.statements → a.defaults ≡ b.defaults → a ≡ b
equal_plans a b statements defaults = λ i. record { statements = statements i; defaults = defaults i }

statement_same : (a b : Statement) → Decides (same_statement a b) (a ≡ b)
statement_same a b =
    let inputs = Decides-and (same_names a.implicit b.implicit) (same_names a.order_only b.order_only)
    (names_same a.implicit b.implicit) (names_same a.order_only b.order_only) in
    let made = Decides-and (same_names a.inputs b.inputs) _ (names_same a.inputs b.inputs) inputs in
    let all = Decides-and (same_names a.outs b.outs) _ (names_same a.outs b.outs)
    (Decides-and (same_made a.made b.made) _ (made_same a.made b.made) made) in (
      λ told. let p = all.0 told in equal_statements a b p.0 p.1.0 p.1.1.0 p.1.1.1.0 p.1.1.1.1,
      λ e. all.1 (
        ap (λ s. s.outs) e,
        (
          ap (λ s. s.made) e,
          (
            ap (λ s. s.inputs) e,
            (ap (λ s. s.implicit) e, ap (λ s. s.order_only) e),
          ),
        ),
      ),
    )

plan_same : (a b : Plan) → Decides (same_plan a b) (a ≡ b)
plan_same a b =
    let all = Decides-and (pointwise same_statement a.statements b.statements) (same_names a.defaults b.defaults)
    (pointwise_decides statement_same a.statements b.statements) (names_same a.defaults b.defaults) in (
      λ told. let p = all.0 told in equal_plans a b p.0 p.1,
      λ e. all.1
          (ap (λ p. p.statements) e, ap (λ p. p.defaults) e),
    )

of_same : {K : Type 0} (E : K → K → Bool) (a b : K) (r : Bool) → ((x y : K) → Decides (E x y) (x ≡ y)) → r ≡ E a b
    → Decides r (a ≡ b)
of_same E a b r decides is = subst (λ (t : Bool). Decides t (a ≡ b)) (sym is) (decides a b)

-- as answers
pub made_decided : (a b : Made) (r : Bool) → r ≡ same_made a b → IsTrue r ↔ (a ≡ b)
made_decided a b r is = of_same same_made a b r made_same is

pub statement_decided : (a b : Statement) (r : Bool) → r ≡ same_statement a b → IsTrue r ↔ (a ≡ b)
statement_decided a b r is = of_same same_statement a b r statement_same is

pub plan_decided : (a b : Plan) (r : Bool) → r ≡ same_plan a b → IsTrue r ↔ (a ≡ b)
plan_decided a b r is = of_same same_plan a b r plan_same is

-- and as laws
pub made_laws : IsEquivalence same_made
made_laws = decided same_made made_same

pub statement_laws : IsEquivalence same_statement
statement_laws = decided same_statement statement_same

pub plan_laws : IsEquivalence same_plan
plan_laws = decided same_plan plan_same
