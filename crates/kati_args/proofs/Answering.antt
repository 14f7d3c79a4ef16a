-- What is asked for, put together; and what is answered for an error.
use Rattle.std.proofs.Common.{arith, ◌≡◌, ◌∙◌, List, None, false, Ok, Err, inl, inr, ap, subst, sym, ⊎_elim, find, option_map, unwrap_or, codes, Result, ◌≢◌}
use Rattle.kati_args.proofs.Common.{cases_Bool, Text, HasKind, IsAmong, Row, fault_of, first_of, kind_of, matches_of, takes, Error, ErrorKind, OutOfMemory}
use Rattle.kati_args.specs.declared.args.Args.{Args}
use Rattle.kati_args.specs.declared.fault.ArgFault.{ArgFault}
use Rattle.kati_args.specs.declared.fault.ArgFault.TheVariants.{BadMacro, Help, Memory, Usage}
use Rattle.kati_args.specs.Args.{AnswersWords, AnswersFound, IsTaken, answer_to, args_in, goals_in, is_bad_macro}
use Rattle.kati_args.specs.Args.{kati_app, macros_in, number_in, unless_bad, words_in}
use Rattle.kati_args.specs.inner.Faults.{ReportsError}

pub args_are : (rows : List Row) (made : Args) → made.makefile ≡ first_of (codes "makefile") rows → made.files ≡ first_of (codes "files") rows
    → made.check ≡ first_of (codes "check") rows → made.limit ≡ unwrap_or (option_map number_in (first_of (codes "depth") rows)) 100
    → made.goals ≡ goals_in (words_in rows) → made.macros ≡ macros_in (words_in rows) → made ≡ args_in rows
args_are rows made makefile files check limit goals macros = grind arith

pub answers_args : (rows : List Row) (made : Args) → find is_bad_macro (words_in rows) ≡ None → made ≡ args_in rows → answer_to rows ≡ Ok made
answers_args rows made none is = ap (unless_bad (args_in rows)) none ∙ ap Ok (sym is)

pub answers_found : (words : List Text) (rows : List Row) (result : Result Args ArgFault) → rows ≡ matches_of kati_app words → IsTaken words
    → AnswersFound rows result → AnswersWords words result
answers_found words rows (Ok args) found taken answered = (taken, subst (λ (r : List Row). answer_to r ≡ Ok args) found answered)
answers_found words rows (Err (BadMacro word)) found taken answered = grind arith
answers_found words rows (Err Memory) found taken answered = tt
answers_found words rows (Err (Help text)) found taken answered = absurd answered
answers_found words rows (Err (Usage text)) found taken answered = absurd answered

not_taken : (words : List Text) (e : Error) → (IsTaken words → kind_of e ≡ OutOfMemory) → (kind_of e ≢ OutOfMemory) → takes kati_app words ≡ false
not_taken words e taken other = ⊎_elim (λ t. absurd (other (taken t))) (λ f. f) (cases_Bool (takes kati_app words))

pub among : (words : List Text) (e : Error) → HasKind (fault_of kati_app words) e → (kind_of e ≢ OutOfMemory) → IsAmong (kind_of e) (fault_of kati_app words)
among words e (inl memory) other = absurd (other memory)
among words e (inr one) other = one

pub answers_fault : (words : List Text) (e : Error) (fault : ArgFault) → (IsTaken words → kind_of e ≡ OutOfMemory)
    → HasKind (fault_of kati_app words) e → ReportsError e fault → AnswersWords words (Err fault)
answers_fault words e (Help text) taken kinds told =
    let other : kind_of e ≢ OutOfMemory = λ memory. absurd (cc (told, memory)) in
    (not_taken words e taken other, subst (λ (k : ErrorKind). IsAmong k (fault_of kati_app words)) told (among words e kinds other))
answers_fault words e (Usage text) taken kinds told =
    (not_taken words e taken told.0, (kind_of e, told.1, among words e kinds told.0))
answers_fault words e (BadMacro word) taken kinds told = absurd told
answers_fault words e Memory taken kinds told = tt
