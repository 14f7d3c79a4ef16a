-- Whether two plans are equal, as `==` computes it (kati's own).
use Rattle.std.specs.Prelude.{ℕ, Bool, true, false, ◌&&◌, nat_eq, List}
use Rattle.std.specs.Cmp.Lexicographic.{pointwise}
use Rattle.kt_ninja.specs.Prelude.{Made, Command, Phony, Statement, Plan}

-- what `==` computes, part by part
abbrev pub same_names : List (List ℕ) → List (List ℕ) → Bool
same_names names others = pointwise (pointwise nat_eq) names others

abbrev pub same_made : Made → Made → Bool
same_made (Command c) (Command d) = pointwise nat_eq c d
same_made (Command c) Phony = false
same_made Phony (Command d) = false
same_made Phony Phony = true

abbrev pub same_statement : Statement → Statement → Bool
same_statement s t =
    same_names s.outs t.outs && (same_made s.made t.made
    && (same_names s.inputs t.inputs && (same_names s.implicit t.implicit && same_names s.order_only t.order_only)))

abbrev pub same_plan : Plan → Plan → Bool
same_plan p q = pointwise same_statement p.statements q.statements && same_names p.defaults q.defaults
