use Rattle.std.proofs.Common.{subst, sym}
use Rattle.gl_verilog.specs.View.{module_of}
use Rattle.gl_verilog.specs.Evaluate.{nets_of, memories_of}
use Rattle.gl_verilog.specs.Runnable.{SameState}
use Rattle.gl_verilog.specs.declared.start.Start.{Start}
use Rattle.gl_sim.specs.Starts.{register_at, word_at}
use Rattle.gl_sim.proofs.Fresh.{store_zero}
use Rattle.gl_sim.proofs.Draws.{started_zero}
use Rattle.gl_sim.proofs.draw.begin.Goals as goal

pub returns-in-Zero-clause-store : goal.returns-in-Zero-clause-store
returns-in-Zero-clause-store c = store_zero (module_of c.args.design.now).declarations c.args.values.now.items c.args.banks.now.items c.requires.zero_values c.requires.zero_words

pub returns-in-Zero-clause-started : goal.returns-in-Zero-clause-started
returns-in-Zero-clause-started c =
    let ds = (module_of c.args.design.now).declarations in
    subst (λ (s : Start). SameState ds (register_at s ds) (word_at s ds) (nets_of c.args.values.now.items) (memories_of c.args.banks.now.items)) (sym c.in-Zero.is)
    (started_zero ds c.args.values.now.items c.args.banks.now.items c.requires.zero_values c.requires.zero_words)

pub draw_all-requires-clause-store : goal.draw_all-requires-clause-store
draw_all-requires-clause-store c = store_zero (module_of c.args.design.now).declarations c.args.values.now.items c.args.banks.now.items c.requires.zero_values c.requires.zero_words

pub returns-in-Drawn-clause-started : goal.returns-in-Drawn-clause-started
returns-in-Drawn-clause-started c =
    let ds = (module_of c.args.design.now).declarations in
    subst (λ (s : Start). SameState ds (register_at s ds) (word_at s ds) (nets_of c.draw_all.new.values.items) (memories_of c.draw_all.new.banks.items)) (sym c.in-Drawn.is) c.draw_all.ensures.drawn
