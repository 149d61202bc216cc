use Rattle.std.proofs.Common.{◌∙◌}
use Rattle.gl_vcd.specs.Signals.{Signal}
use Rattle.gl_vcd.specs.Standing.{signals_of}
use Rattle.gl_vcd.proofs.Found.{number_is}
use Rattle.gl_vcd.proofs.signals.Signals.number_of_name.Goals as goal

pub returns : goal.returns
returns c =
    let s = c.args.self.now in
    c.get_index_of.ensures.index ∙ number_is s.names.keys (signals_of s) (λ (x : Signal). x.name) c.args.name.now c.requires.names'
