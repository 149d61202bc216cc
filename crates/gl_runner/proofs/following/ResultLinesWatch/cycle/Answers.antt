use Rattle.std.proofs.Common.{◌∙◌, ◌<◌, ℕ, List, ap, length, subst, suc, sym}
use Rattle.std.specs.List.{AllByRecursion}
use Rattle.gl_bits.specs.Words.{bits_of}
use Rattle.gl_outside.specs.States.{Broke, Took}
use Rattle.gl_verilog_ports.specs.Profile.{result_names}
use Rattle.gl_runner.specs.Probes.{plain_names}
use Rattle.gl_runner.specs.Watches.{module_in}
use Rattle.gl_runner.proofs.Probing.{columns_in, columns_many, end_seen, group_seen, lines_inside, seen_plain}
use Rattle.gl_tuples.proofs.Puts.{failed}
use Rattle.gl_runner.proofs.Running.{lines_told, told_behind}
use Rattle.gl_runner.proofs.following.ResultLinesWatch.cycle.Goals as goal

pub sample_of-sample-requires : goal.sample_of-sample-requires
sample_of-sample-requires g c =
    let m = module_in c.args.made.now in
    let w = c.args.self.now in
    lines_inside m (plain_names m) w.kinds.now w.shows w.row c.requires.serves

pub returns-in_err-put_cycle-clause-wrote : goal.returns-in_err-put_cycle-clause-wrote
returns-in_err-put_cycle-clause-wrote g c = λ port made before.
    let m = module_in c.args.made.now in
    let n = c.args.made.now.cycle in
    let w = c.args.self.now in
    let seen = seen_plain m c.args.made.now.sim.now port (suc n) w.kinds.now w.shows c.as_slice.result.now w.row c.set_row.new.row c.sample_of-sample.result made.ports' made.others' c.requires.serves c.sample_of-sample.ensures c.as_slice.ensures.value c.set_row.ensures.bits in
    failed _ _ _ _ c.from_residual.result c.from_residual.ensures.1
    (subst (λ (x : List ℕ). Broke (g.K.Sink.state c.args.out.now) (g.K.Sink.state c.put_cycle.new.out) x) (lines_told m port n w.kinds.now w.told w.ended c.sample_of-sample.result (bits_of c.set_row.new.row) seen before) c.in_err-put_cycle.ensures)

pub returns-clause-wrote : goal.returns-clause-wrote
returns-clause-wrote g c = λ port made before.
    let m = module_in c.args.made.now in
    let n = c.args.made.now.cycle in
    let w = c.args.self.now in
    let seen = seen_plain m c.args.made.now.sim.now port (suc n) w.kinds.now w.shows c.as_slice.result.now w.row c.set_row.new.row c.sample_of-sample.result made.ports' made.others' c.requires.serves c.sample_of-sample.ensures c.as_slice.ensures.value c.set_row.ensures.bits in
    subst (λ (x : List ℕ). Took (g.K.Sink.state c.args.out.now) (g.K.Sink.state c.put_cycle.new.out) x) (lines_told m port n w.kinds.now w.told w.ended c.sample_of-sample.result (bits_of c.set_row.new.row) seen before) c.in_ok-put_cycle.ensures

pub returns-clause-stands : goal.returns-clause-stands
returns-clause-stands g c = λ port made before.
    let m = module_in c.args.made.now in
    let n = c.args.made.now.cycle in
    let w = c.args.self.now in
    let seen = seen_plain m c.args.made.now.sim.now port (suc n) w.kinds.now w.shows c.as_slice.result.now w.row c.set_row.new.row c.sample_of-sample.result made.ports' made.others' c.requires.serves c.sample_of-sample.ensures c.as_slice.ensures.value c.set_row.ensures.bits in
    let row = bits_of c.set_row.new.row in
    told_behind w.told w.ended m port n c.sample_of-sample.result.group c.sample_of-sample.result.end before
    (group_seen port (result_names m) n c.sample_of-sample.result row seen) (end_seen port (result_names m) n c.sample_of-sample.result row seen)

pub set_row-requires-clause-inside : goal.set_row-requires-clause-inside
set_row-requires-clause-inside g c =
    let m = module_in c.args.made.now in
    let w = c.args.self.now in
    subst (AllByRecursion (λ n. n < length m.declarations)) (sym c.as_slice.ensures.value) (columns_in m w.shows.columns.items c.requires.serves.columns')

pub set_row-requires-clause-lengths : goal.set_row-requires-clause-lengths
set_row-requires-clause-lengths g c =
    let m = module_in c.args.made.now in
    let w = c.args.self.now in
    ap length c.as_slice.ensures.value ∙ columns_many m (plain_names m) w.kinds.now w.shows w.row c.requires.serves
