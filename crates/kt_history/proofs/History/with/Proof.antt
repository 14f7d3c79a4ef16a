-- `with` makes a value of no bytes, at the list that its clause names.
use Rattle.std.proofs.Common.{ℕ, List, [], ◌∷◌, ◌++◌, ◌<◌, ◌^◌, length, refl}
use Rattle.kt_history.proofs.Common.{AllGo, Args, Calls, Clauses, Ended, Fn, Fun, Goes-none_ref, Goes-none_slice, Is, Logic, Loops, Meets, Memory, RattleType, Routine, SProp, Stays, Tables, Ura, Val, Walks, WpFn, WpFn-mono, a_type, agg, alive, alloc_all, and_then, closing, ends_at, ent, enter, entered, free_all, fst∗, get, inst_fn, layouts, look_at, makes, named, no_more, nothing, on_entry, owned, owns, param, pass_all, plain, returns, says, sets, stay_none_ref, stay_none_slice, tables, tables_of, triple_of, types_at, via, vptr, walk_Meets, walk_of, walked}
use base.Fml.{Fml}
use contract.Lifetimes.{AllOutlive, Lfts, Shares}
use types.Kit.{‵, raw, ◌$◌, ◌∵◌, !, qed, move, fjoin, suffices, done}
use denote.Ref.{Bor, shr_vals, shr_Tells}
use denote.Exit.{yes}
use denote.Slice.{slice_val, shr_slice_vals, shr_slice_Tells}
use denote.Triple.Entry.{Args as Passed}
use Rattle.std.specs.contracts.marker.PhantomData as Mark
use Rattle.kt_history.proofs.Walks.{none, one, one_made}
use Rattle.kt_history.specs.contracts.History as T
use Rattle.kt_history.specs.contracts.History.with.Key.{name as #it}
use Rattle.kt_history.specs.contracts.History.with as it
use Rattle.kt_history.proofs.History.with.Statement as stated
use Rattle.kt_history.proofs.History.with.Code as code

module _ (A : RattleType) where
  abbrev args : Args
  args = layouts (a_type ∷ []) (A, tt)

  abbrev item : RattleType
  item = param 0 A

  abbrev row : RattleType
  row = T.the_row item

  abbrev function : Fn
  function = inst_fn args code.function

  abbrev ended : Ended
  ended = it.ended A

  abbrev stayed : Stays ended.signature.params ended.kept
  stayed = (stay_none_ref (0 ∷ []) tt (plain (λ _. row)) yes, (stay_none_slice (1 ∷ []) tt (plain (λ _. item)) yes, tt))

  module _ {M : Type 1} {𝓤 : Ura M} (𝓛 : Logic 𝓤) (at_mem : Memory → SProp 𝓤) (run : Routine → Fun 𝓤) where
    open 𝓛 use {H}

    abbrev held : Clauses 𝓤 ended
    held = it.clauses A 𝓛 at_mem run

    module _ (C : Calls 𝓤 H) (Λ : Loops 𝓤 H) (κs : Lfts 3) (qs : Shares 3) (bounds : AllOutlive 3 ended.signature.outlives κs) (a : Passed ended.signature κs) where
      abbrev before : Val
      before = vptr a.0.ref_ptr.0 a.0.ref_ptr.1

      abbrev added : Val
      added = slice_val a.1.0.ref_ptr (length a.1.0.now)

      abbrev at : List Val × (List Val × Unit {0})
      at = (before ∷ [], (added ∷ [], tt))

      abbrev made : row.Denot
      made = record { of = record {}; items = a.0.now.items ++ a.1.0.now }

      abbrev passed : Fml
      passed = owns (types_at ended.signature.params κs) a at

      walk : length a.1.0.now < 2 ^ 64 → ent 𝓤 (on_entry 𝓛 ended.signature κs qs a at) (WpFn 𝓤 H C Λ function (before ∷ added ∷ []) ((walk_of 𝓛 ended stayed held).post ((κs, qs, bounds, a, at), tt)))
      walk fits =
          qed 𝓛 (raw (alive 𝓛 ended.signature κs qs) ∷ ‵ passed ∷ []) ∵ enter ! C Λ function (before ∷ added ∷ []) _ $
          alloc_all ! (λ l. pass_all ! refl ((tt, tt), ((tt, (tt, (record { fits = fits }, tt))), tt)) $
          sets ! (agg ! (no_more !)) refl (tt, tt) $
          sets ! (agg ! (and_then ! (get ! refl) (no_more !))) refl (tt, (tt, tt)) $
          nothing ! $ owned ! (Mark.the_row item) (Is (Mark.the_row item)) (makes (Mark.the_type item) tt 𝓛) (record {}) (none ∷ []) (tt, (refl, tt)) $
          one_made ! (Mark.the_row item) (record {}) none $ fjoin ! $
          returns ! (look_at ! 0 refl) $ free_all ! refl $
          suffices ! _ (ends_at 𝓛 ended stayed held ((κs, qs, bounds, a, at), tt) (one none) made (tt, (tt, tt)) (tt, (tt, tt))) $
          says ! refl $ move ! (1 ∷ 2 ∷ 0 ∷ []) $ done !)

    walks : (C : Calls 𝓤 H) (Λ : Loops 𝓤 H) → Walks 𝓛 ended stayed (WpFn 𝓤 H C Λ function) held
    walks C Λ = walked 𝓛 ended stayed held (WpFn 𝓤 H C Λ function) (λ κs. (shr_vals, (shr_slice_vals, tt))) (λ κs. (shr_Tells (named 0) κs.0 row, (shr_slice_Tells (named 1) κs.1.0 item, tt)))
        (λ κs qs bounds a g are. via 𝓤 _ (fst∗ 𝓤 _ ((held κs a).requires g)) (walk C Λ κs qs bounds a are.1.0.0.1.0))

    goes : AllGo 𝓛 3 ended.signature.params ended.kept stayed
    goes = (Goes-none_ref 𝓛 3 (0 ∷ []) tt (plain (λ _. row)) yes, (Goes-none_slice 𝓛 3 (1 ∷ []) tt (plain (λ _. item)) yes, tt))

    meets : (𝓣 : Tables 𝓤 H) → Meets 𝓛 ended.signature (WpFn 𝓤 H 𝓣.C 𝓣.Λ function) (closing 𝓛 ended held)
    meets 𝓣 = walk_Meets 𝓛 ended stayed goes held (WpFn 𝓤 H 𝓣.C 𝓣.Λ function) (WpFn-mono 𝓤 H 𝓛.laws 𝓣 function) (walks 𝓣.C 𝓣.Λ)

pub with_spec : {M : Type 1} → stated.statement M
unfolding tables_of
with_spec 𝓤 𝓛 𝓜 𝓡 wired A LA =
    let 𝓣 : Tables 𝓤 𝓛.H = tables_of 𝓤 𝓛.H 𝓜 (tables 𝓤 𝓛.H 𝓜 𝓡 𝓡.env) in
    entered 𝓤 𝓛.H (triple_of 𝓛 (ended A).signature (closing 𝓛 (ended A) (held A 𝓛 𝓜.mem 𝓡.returns))) 𝓣.C 𝓣.Λ (#it (args A)) (function A)
    (code.unfolded 𝓤 𝓛.H 𝓜 𝓡 wired (A, tt)) (meets A 𝓛 𝓜.mem 𝓡.returns 𝓣)
