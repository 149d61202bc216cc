use Rattle.std.proofs.Common.{◌∙◌, rules, tests}
use Rattle.std.proofs.lemmas.Iterator.{YieldsList-from_slice}
use Rattle.std.proofs.lemmas.Iterator.Search.{any_from_yields_List}
use Rattle.std.specs.Prelude.{bytes_eq, ◌&&◌, ◌==◌}
use Rattle.gl_vcd.specs.Signals.{Signal}
use Rattle.gl_vcd.specs.Standing.{signal_of}
use Rattle.gl_vcd.proofs.Found.{any_map}
use Rattle.gl_vcd.proofs.signals.has_line.Goals as goal

pub returns : goal.returns
returns c =
    any_from_yields_List (λ s. bytes_eq s.name.now c.args.name.now && (s.width == 1)) _ _ c.any.result c.any.ensures.ran (YieldsList-from_slice c.args.signals.now cc) (λ x b q k. search (rules, tests))
    ∙ any_map signal_of (λ (s : Signal). bytes_eq s.name c.args.name.now && (s.width == 1)) c.args.signals.now
