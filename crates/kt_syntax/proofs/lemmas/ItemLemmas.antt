-- Items, and nothing behind them.
use Rattle.std.proofs.Common.{◌≡◌, refl, ap}
use Rattle.kt_syntax.specs.Blocks.{Items, none, line, fault, definition, conditional}
use Rattle.kt_syntax.specs.views.Reading.{append}

-- nothing more
pub append-none : (items : Items) → append items none ≡ items
append-none none = refl
append-none (line at next) = ap (line at) (append-none next)
append-none (fault kind at next) = ap (fault kind at) (append-none next)
append-none (definition at end next) = ap (definition at end) (append-none next)
append-none (conditional at first branches next) = ap (conditional at first branches) (append-none next)
