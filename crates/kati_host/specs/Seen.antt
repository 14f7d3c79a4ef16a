-- What is seen of the host's files (kati's own).
use Rattle.std.specs.Prelude.{map, option_map, string_bytes}
use Rattle.kt_eval.specs.files.Files.{FilesSeen}
use Rattle.kati_host.specs.declared.files.HostFiles.{HostFiles}

-- what each read answered, the names that were asked for, and how often the device failed
abbrev pub files_seen : HostFiles → FilesSeen
files_seen files = record {
  answers = map (λ answer. (string_bytes answer.0, option_map (λ bytes. bytes.items) answer.1)) files.answers.items;
  names = map string_bytes files.asked.items;
  failed = files.failures;
}
