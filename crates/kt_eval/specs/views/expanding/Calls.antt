-- What a reference asks for, in the code's own type (kati's own).
use Rattle.std.specs.Prelude.{ℕ, Bool, not, ◌==◌, ◌&&◌, length, map}
use Rattle.std.specs.List.{list_all}
use Rattle.kt_text.specs.Words.{Text, is_separator}
use Rattle.kt_eval.specs.Prelude.{Mark, Byte, Parentheses, Braces}
use Rattle.kt_eval.specs.declared.expanding.calls.Request.{Request as RequestType}
use Rattle.kt_eval.specs.declared.expanding.calls.Request.TheVariants as asked
use Rattle.kt_eval.specs.expanding.Calls.{Request, refers, refuses, calls}

-- what is asked for, in the code's own type
abbrev pub asked_view : RequestType → Request
asked_view (asked.Calls function arguments) = calls function (map (λ argument. argument.now) arguments.items)
asked_view (asked.Refuses name) = refuses name.now
asked_view (asked.Refers body) = refers body.now

-- whether a byte is none of a dollar, a colon and a separator
unfoldable pub is_name_byte : ℕ → Bool
is_name_byte byte = not (byte == 36) && (not (byte == 58) && not (is_separator byte))

-- whether a body is just a name: all its bytes are such
unfoldable pub names_plainly : Mark → Text → Bool
names_plainly Byte body = length body == 1 && list_all is_name_byte body
names_plainly Parentheses body = list_all is_name_byte body
names_plainly Braces body = list_all is_name_byte body
