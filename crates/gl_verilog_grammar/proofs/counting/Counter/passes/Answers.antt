-- Where no limit is passed, the counter stays within them.
use Rattle.std.proofs.Common.{◌∙◌, sym, ap}
use Rattle.gl_verilog_faults.specs.Counts.{after}
use Rattle.gl_verilog_tokens.specs.View.{token_of}
use Rattle.gl_verilog_grammar.specs.Counting.{place_of, counts_of}
use Rattle.gl_verilog_grammar.proofs.Counters.{stays_within}
use Rattle.gl_verilog_grammar.proofs.counting.Counter.passes.Goals as goal

pub returns-clause-within : goal.returns-clause-within
returns-clause-within c = λ e. stays_within c.args.self.now c.count.new.self (token_of c.args.token) c.requires
    (ap place_of c.count.ensures.place ∙ c.behind-self.ensures)
    (c.count.ensures.counts ∙ ap (after (counts_of c.args.self.now)) c.weight_at-weight.ensures)
    (sym c.is_past.ensures ∙ e)
