-- The names that most proofs cite, passed on from one place. Declares nothing.
pub use base.Logic.{SProp, ent, fst∗, via}
pub use contract.Monad.{Fun}
unfoldable pub use contract.Running.{tables, tables_of}
pub use denote.Laws.{Is}
pub use denote.Param.{layouts, param}
pub use denote.RattleType.{RattleType, Valss, owns}
pub use denote.Signature.{plain, types_at}
pub use denote.Steps.{nothing, owned}
pub use denote.Struct.Laws.{makes}
pub use denote.Triple.Clauses.{Clauses, Ended, closing}
pub use denote.Triple.Entry.{alive, on_entry}
pub use denote.Triple.Spec.{Meets, triple_of}
pub use denote.Triple.Table.{entered}
pub use denote.Triple.Walked.{AllGo, Goes-none_ref, Goes-none_slice, Stays, Walks, ends_at, says, stay_none_ref}
pub use denote.Triple.Walked.{stay_none_slice, walk_Meets, walk_of, walked}
pub use mir.MapTy.{inst_fn}
pub use mir.Syntax.{Args, Fn, a_type, named}
pub use mir.Val.{Val, vcons, vnil, vptr, vstruct}
pub use prog.Memory.{Memory}
pub use prog.Routine.{Routine}
pub use prog.Wp.{Calls, Loops, Tables, WpFn}
pub use seplogic.Ra.Ura.{Ura}
pub use sound.WpLaws.{WpFn-mono}
pub use types.ByLocal.{alloc_all, free_all, get, look_at, pass_all, sets}
pub use types.Logic.{Logic}
pub use types.Part.{agg}
pub use types.Run.{and_then, enter, no_more, returns}
