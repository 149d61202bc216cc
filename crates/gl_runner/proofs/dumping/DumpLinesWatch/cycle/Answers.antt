use Rattle.std.proofs.Common.{◌≡◌, ◌∙◌, ◌<◌, ℕ, List, ap, length, refl, sym, subst}
use Rattle.std.specs.List.{AllByRecursion}
use Rattle.gl_bits.specs.Words.{widths_of}
use Rattle.gl_outside.specs.States.{Broke, Took}
use Rattle.gl_runner.proofs.Probing.{end_had}
use Rattle.gl_tuples.proofs.Puts.{failed}
use Rattle.gl_runner.proofs.Running.{ended_kept}
use Rattle.gl_vcd.specs.Written.{ports_of}
use Rattle.gl_schema.specs.Ports.{out_eos}
use Rattle.gl_testbench.proofs.Outputs.{line_inside}
use Rattle.gl_runner.specs.Dumping.{end_in, numbers_of, widths_in}
use Rattle.gl_runner.specs.Watches.{module_in}
use Rattle.gl_runner.proofs.DumpRows.{cycle_is, numbers_inside, numbers_many, row_kept, row_made}
use Rattle.gl_runner.proofs.dumping.DumpLinesWatch.cycle.Goals as goal

pub set_row-requires-clause-inside : goal.set_row-requires-clause-inside
set_row-requires-clause-inside g c =
    let m = module_in c.args.made.now in
    let same : c.as_slice.result.now ≡ numbers_of m = c.as_slice.ensures.value ∙ c.requires.serves.room.ports' in
    subst (AllByRecursion (λ n. n < length m.declarations)) (sym same) (numbers_inside m)

pub set_row-requires-clause-lengths : goal.set_row-requires-clause-lengths
set_row-requires-clause-lengths g c =
    let m = module_in c.args.made.now in
    let same : c.as_slice.result.now ≡ numbers_of m = c.as_slice.ensures.value ∙ c.requires.serves.room.ports' in
    let wide : widths_of c.args.self.now.now ≡ widths_in m = c.requires.serves.room.now' in
    ap length same ∙ numbers_many m c.args.self.now.now wide

pub returns-in_err-cycle-clause-wrote : goal.returns-in_err-cycle-clause-wrote
returns-in_err-cycle-clause-wrote g c = λ port made stands.
    let m = module_in c.args.made.now in
    let n = c.args.made.now.cycle in
    let same : c.as_slice.result.now ≡ numbers_of m = c.as_slice.ensures.value ∙ c.requires.serves.room.ports' in
    let wide : widths_of c.args.self.now.now ≡ widths_in m = c.requires.serves.room.now' in
    let row = row_made m c.args.made.now.sim.now port n c.as_slice.result.now c.args.self.now.now c.set_row.new.row c.requires.serves.plain made.ports' same wide c.set_row.ensures.widths c.set_row.ensures.bits in
    failed _ _ _ _ c.from_residual.result c.from_residual.ensures.1
    (subst (λ (x : List ℕ). Broke (g.K.Sink.state c.args.out.now) (g.K.Sink.state c.cycle.new.out) x) (cycle_is m port n _ c.args.self.now.before c.set_row.new.row stands.before' c.row_before-before.ensures row) c.in_err-cycle.ensures)

pub returns-clause-wrote : goal.returns-clause-wrote
returns-clause-wrote g c = λ port made stands.
    let m = module_in c.args.made.now in
    let n = c.args.made.now.cycle in
    let same : c.as_slice.result.now ≡ numbers_of m = c.as_slice.ensures.value ∙ c.requires.serves.room.ports' in
    let wide : widths_of c.args.self.now.now ≡ widths_in m = c.requires.serves.room.now' in
    let row = row_made m c.args.made.now.sim.now port n c.as_slice.result.now c.args.self.now.now c.set_row.new.row c.requires.serves.plain made.ports' same wide c.set_row.ensures.widths c.set_row.ensures.bits in
    subst (λ (x : List ℕ). Took (g.K.Sink.state c.args.out.now) (g.K.Sink.state c.cycle.new.out) x) (cycle_is m port n _ c.args.self.now.before c.set_row.new.row stands.before' c.row_before-before.ensures row) c.in_ok-cycle.ensures

pub returns-clause-stands : goal.returns-clause-stands
returns-clause-stands g c = λ port made stands.
    let m = module_in c.args.made.now in
    let n = c.args.made.now.cycle in
    let same : c.as_slice.result.now ≡ numbers_of m = c.as_slice.ensures.value ∙ c.requires.serves.room.ports' in
    let wide : widths_of c.args.self.now.now ≡ widths_in m = c.requires.serves.room.now' in
    let row = row_made m c.args.made.now.sim.now port n c.as_slice.result.now c.args.self.now.now c.set_row.new.row c.requires.serves.plain made.ports' same wide c.set_row.ensures.widths c.set_row.ensures.bits in
    let found : c.args.self.now.end ≡ end_in m = c.requires.serves.room.end' in
    let last = end_had m c.args.made.now.sim.now port n c.args.self.now.end c.is_high-self.result made.ports' made.others' c.requires.serves.line' found c.is_high-self.ensures in
    record {
      next' = refl;
      before' = λ k e. row_kept (ports_of m) port n c.swap.new.x (c.swap.ensures.x_after ∙ row) k e;
      ended' = λ k e. ended_kept m port n c.is_high-self.result last k e;
    }

pub is_high-self-requires : goal.is_high-self-requires
is_high-self-requires g c =
    let m = module_in c.args.made.now in
    line_inside m out_eos c.args.self.now.end (c.requires.serves.room.end')
