use Rattle.std.proofs.Common.{◌≡◌, ◌++◌, drop}
use Rattle.kati.specs.ErrorOutput.{messages_text}
use Rattle.kati.proofs.telling.append_messages.Given as goal

abbrev pub invariant-loop-message : goal.invariant-loop-message
invariant-loop-message l = l.text.items ++ messages_text (drop l.message-index l.messages) ≡ l.fn.text.items ++ messages_text l.messages
