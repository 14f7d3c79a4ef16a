-- What is seen of the devices of a run (kati's own).
use Rattle.kt_eval.specs.files.Files.{FilesSeen}
use Rattle.kt_ninja.specs.Written.{SinkSeen}

-- the files, the output and the error output
pub record Devices : Type 0 where
  pub files : FilesSeen
  pub out : SinkSeen
  pub err : SinkSeen

-- the devices, from what is seen of the files, of the output and of the error output
abbrev pub devices : FilesSeen → SinkSeen → SinkSeen → Devices
devices files out err = record { files = files; out = out; err = err }
