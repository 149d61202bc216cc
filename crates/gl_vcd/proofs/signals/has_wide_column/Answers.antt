use Rattle.std.proofs.Common.{◌∙◌, map, rules, tests}
use Rattle.std.proofs.lemmas.Iterator.{YieldsList-from_slice}
use Rattle.std.proofs.lemmas.Iterator.Search.{any_from_yields_List}
use Rattle.std.specs.Prelude.{nat_lt, ◌&&◌}
use Rattle.gl_vcd.specs.Signals.{Signal, shows_column}
use Rattle.gl_vcd.specs.Standing.{signal_of}
use Rattle.gl_vcd.proofs.Found.{any_among, any_map}
use Rattle.gl_vcd.proofs.signals.has_wide_column.Goals as goal

pub returns : goal.returns
returns c =
    any_from_yields_List (λ s. shows_column (signal_of s) && nat_lt 64 s.width) _ _ c.any.result c.any.ensures.ran (YieldsList-from_slice c.args.signals.now cc) (λ x b q k. search (rules, tests))
    ∙ any_map signal_of (λ (s : Signal). shows_column s && nat_lt 64 s.width) c.args.signals.now
    ∙ any_among shows_column (λ (s : Signal). nat_lt 64 s.width) (map signal_of c.args.signals.now)
