-- The value of `--depth` that clap takes is a number from 1 to 400.
use Rattle.std.proofs.Common.{◌≡◌, ◌∙◌, ◌<◌, ℕ, zero, suc, Bool, true, false, not, List, [], ◌∷◌, length, map, refl, sym, ap, subst, inl, inr, arith, codes, Option, Some, None, IfSome, slice_get, option_map, option_and_then}
use Rattle.kati_args.proofs.Common.{Bor, All, list_all, slice_index_or, bytes_eq, Entry, EntryPasses, PassesArg, args_of, groups_of, has_plain_fields, is_empty, is_simple_arg, App, IsParsedFrom, IsUnsignedIn, Rule, app_of, first_value, found_of, rule_of}
use Rattle.std.proofs.Math.ListN.{get_or-map}
use Rattle.std.proofs.lemmas.List.{length-map}
use Rattle.std.proofs.lemmas.List.Folds.{list_all-map}
use Rattle.std.proofs.lemmas.List.Sums.{AllPass-from_list_all}
use Rattle.std.proofs.lemmas.Slice.Eq.{bytes_eq-Decides}
use Rattle.clap.specs.Matches.{matched_of}
use Rattle.clap.specs.declared.builder.arg.Arg.{Arg}
use Rattle.clap.specs.declared.builder.command.Command.{Command}
use Rattle.clap.specs.declared.builder.command.Command.TheViews.{out-Command}
use Rattle.clap.specs.declared.parser.matches.ArgMatches.{ArgMatches}
use Rattle.clap.specs.declared.parser.matches.MatchedArg.{MatchedArg}
use Rattle.clap.proofs.CallerLemmas.{entry_by_id, same_rules_by_id}
use Rattle.kati_args.specs.Args.{kati_app}
use Rattle.kt_list.proofs.general.Booleans.{and_first, and_second}

-- ---- tests that are joined

no_from_not : (b : Bool) → not b ≡ true → b ≡ false
no_from_not true h = absurd (cc h)
no_from_not false h = refl

nothing_in : {X : Type 0} (xs : List X) → is_empty xs ≡ true → xs ≡ []
nothing_in [] h = refl
nothing_in (x ∷ xs) h = absurd (grind arith)

-- ---- the arguments of the command

no_groups_of : (a : Arg) → is_simple_arg a ≡ true → a.groups.items ≡ []
no_groups_of a simple = nothing_in _ (and_first _ _ (and_second _ _ (and_second _ _ simple)))

-- only the fifth argument has this id
only_fifth : (j : ℕ) (r : Rule) → j < 6 → bytes_eq (slice_index_or kati_app.top.rules j r).id (codes "depth") ≡ true → j ≡ 4
only_fifth zero r low same = absurd (cc same)
only_fifth (suc zero) r low same = absurd (cc same)
only_fifth (suc (suc zero)) r low same = absurd (cc same)
only_fifth (suc (suc (suc zero))) r low same = absurd (cc same)
only_fifth (suc (suc (suc (suc zero)))) r low same = refl
only_fifth (suc (suc (suc (suc (suc zero))))) r low same = absurd (cc same)
only_fifth (suc (suc (suc (suc (suc (suc j)))))) r low same = omega (arith, low)

module _ (command : Command) (is : app_of command ≡ kati_app) where
  rules_are : map rule_of (args_of command) ≡ kati_app.top.rules
  rules_are = ap (λ (a : App). a.top.rules) is

  six : length (args_of command) ≡ 6
  six = sym (length-map (args_of command) rule_of) ∙ ap length rules_are

  rule_at : (j : ℕ) (d : Arg) → rule_of (slice_index_or (args_of command) j d) ≡ slice_index_or kati_app.top.rules j (rule_of d)
  rule_at j d = sym (get_or-map rule_of (args_of command) j d) ∙ ap (λ rules. slice_index_or rules j (rule_of d)) rules_are

  plain : has_plain_fields (out-Command command) ≡ true
  plain = ap (λ (a : App). a.top.is_plain) is

  no_globals : (out-Command command).has_globals ≡ false
  no_globals = no_from_not _ (and_first _ _ (and_second _ _ (and_second _ _ plain)))

  no_groups : groups_of command ≡ []
  no_groups = nothing_in _ (and_first _ _ plain)

  no_groups_named : All (λ a. a.groups.items ≡ []) (args_of command)
  no_groups_named k d low =
      let all : list_all (λ a. is_simple_arg a) (args_of command) ≡ true =
      sym (list_all-map (λ (r : Rule). r.is_simple) rule_of (args_of command)) ∙ ap (list_all (λ (r : Rule). r.is_simple)) rules_are in
      no_groups_of (slice_index_or (args_of command) k d) (AllPass-from_list_all _ _ all k d low)

  -- a value of this argument has passed its parser
  value_passes : (m : ArgMatches) (parsed : IsParsedFrom command m) (v : Bor (List ℕ)) → PassesArg parsed.built (codes "depth") v.now → IsUnsignedIn 1 400 v.now
  value_passes m parsed v pass = grind (arith, slice_index_or, rule_at, codes, length, six, only_fifth, same_rules_by_id)

-- ---- the first value

first_passes : (P : Bor (List ℕ) → Type 0) (Q : List ℕ → Type 0) (values : List (Bor (List ℕ))) → All P values
    → ((v : Bor (List ℕ)) → P v → Q v.now) → IfSome (option_map (λ s. s.now) (slice_get values 0)) Q
first_passes P Q [] all so = tt
first_passes P Q (v ∷ values) all so = so v (all 0 v (omega arith))

-- the values of an entry of this id, where no argument is in a group
values_of : (c : Command) (id : List ℕ) (x : MatchedArg) → groups_of c ≡ [] → (id ≡ [] → ⊥)
    → ((e : Entry) × (e.1 ≡ x) × (bytes_eq e.0.now id ≡ true) × EntryPasses c e) → All (λ v. PassesArg c id v.now) x.vals.items
values_of c id x none named got =
    let e = got.0 in
    let key : e.0.now ≡ id = (bytes_eq-Decides e.0.now id).0 got.2 in
    let alone : e.1.is_group ≡ true → ⊥ = λ g. elim (got.3.3 g) [
      | inl empty ↦ named (sym key ∙ empty)
      | inr some ↦ let bad : 0 < 0 = rw none at some in absurd (omega arith)
    ] in
    elim got.3.0 [
      | inl g ↦ absurd (alone g)
      | inr values ↦ subst (λ (w : List ℕ). All (λ v. PassesArg c w v.now) x.vals.items) key (rw got.1 at values)
    ]

pub depth_passes : (command : Command) (m : ArgMatches) → app_of command ≡ kati_app → IsParsedFrom command m
    → IfSome (first_value (found_of m) (codes "depth")) (IsUnsignedIn 1 400)
depth_passes command m is parsed = go (matched_of (found_of m) (codes "depth")) refl
  where
    First : Option MatchedArg → Type 0
    First found = IfSome (option_and_then (λ a. option_map (λ s. s.now) (slice_get a.vals.items 0)) found) (IsUnsignedIn 1 400)

    go : (found : Option MatchedArg) → matched_of (found_of m) (codes "depth") ≡ found → First found
    go None e = tt
    go (Some x) e =
        let values = (parsed.parsed (parsed.from.globals ∙ no_globals command is)).values in
        let none : groups_of parsed.built ≡ [] = (parsed.from.same_groups (no_groups_named command is)).1 ∙ no_groups command is in
        first_passes (λ v. PassesArg parsed.built (codes "depth") v.now) (IsUnsignedIn 1 400) x.vals.items
        (values_of parsed.built (codes "depth") x none (λ empty. absurd (cc empty)) (entry_by_id (EntryPasses parsed.built) (found_of m).entries.items (codes "depth") x values e))
        (value_passes command is m parsed)
