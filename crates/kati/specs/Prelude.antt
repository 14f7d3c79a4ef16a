-- The names that most definitions cite, of the crates below and of the code, passed on from one place. Declares
-- nothing.
pub use Rattle.kati.specs.Devices.{Devices}
pub use Rattle.kati.specs.declared.faults.RunFault.{RunFault}
pub use Rattle.kati.specs.declared.status.Status.{Status}
pub use Rattle.kati_args.specs.declared.args.Args.{Args}
pub use Rattle.kati_args.specs.declared.fault.ArgFault.{ArgFault}
pub use Rattle.kt_eval.specs.Faults.{fault_line}
pub use Rattle.kt_eval.specs.Outcome.{Gave, StepOver, leaving}
pub use Rattle.kt_eval.specs.Step.{fault_at, fault_of}
pub use Rattle.kt_eval.specs.declared.fault.Fault.{Fault}
pub use Rattle.kt_eval.specs.files.Files.{AgreeWith, Store, look}
pub use Rattle.kt_eval.specs.macros.Macros.{Macros, put}
pub use Rattle.kt_eval.specs.reading.Machine.{Makefile, Trace, predefined, read_of, reading, traced}
pub use Rattle.kt_graph.specs.Known.{known_names}
pub use Rattle.kt_graph.specs.Reach.{ComesFirst, IsMade, Reaches, Trouble}
pub use Rattle.kt_graph.specs.faults.Faults.{IsSoundGraph, trouble_number, trouble_words}
pub use Rattle.kt_graph.specs.faults.Paths.{always_name, canon_of, is_reserved}
pub use Rattle.kt_graph.specs.nodes.Groups.{groups_of}
pub use Rattle.kt_graph.specs.nodes.Node.{Node, inputs_of, order_only_of}
pub use Rattle.kt_list.specs.Counters.{Rises}
pub use Rattle.kt_ninja.specs.Plan.{outputs}
pub use Rattle.kt_ninja.specs.Text.{plan_text}
pub use Rattle.kt_ninja.specs.Writable.{IsWritable, obstacle_of_statements}
pub use Rattle.kt_ninja.specs.Written.{GrowsByFront, SinkSeen, Takes}
pub use Rattle.kt_ninja.specs.declared.plan.Plan.{Plan}
pub use Rattle.kt_ninja.specs.declared.plan.Statement.{Statement}
pub use Rattle.kt_ninja_reader.specs.NinjaRead.{ninja_read}
pub use Rattle.kt_rules.specs.Entry.{Entry}
pub use Rattle.kt_rules.specs.declared.fault_kind.FaultKind.TheVariants.{CommandNotWritable, FileTooLarge, NameNotWritable, NoFile, NoTargets, NulByte}
pub use Rattle.kt_text.specs.Words.{Text, trimmed_start}
pub use Rattle.std.specs.List.{AllPairs, Contains, flat_map, list_any}
pub use Rattle.std.specs.Prelude.{Err, Ok, Result, string_bytes, ℕ}
