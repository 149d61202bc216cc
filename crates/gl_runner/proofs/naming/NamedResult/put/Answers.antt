use Rattle.std.proofs.Common.{◌∙◌, ◌<◌, ℕ, List, ap, length, refl, subst, suc, sym}
use Rattle.std.specs.List.{AllByRecursion}
use Rattle.gl_bits.specs.Words.{bits_of}
use Rattle.gl_testbench.specs.Views.{seen_as}
use Rattle.gl_outside.specs.States.{Broke, Took}
use Rattle.gl_runner.specs.Naming.{names_of}
use Rattle.gl_runner.specs.Several.{outs_of}
use Rattle.gl_runner.specs.Watches.{module_in}
use Rattle.gl_runner.proofs.Named.{lines_as_named, lines_named, seen_named, stands_behind}
use Rattle.gl_runner.proofs.Probing.{columns_in, columns_many, end_seen, group_seen, lines_inside}
use Rattle.gl_tuples.specs.Pieces.{sampled}
use Rattle.gl_tuples.proofs.Puts.{failed}
use Rattle.gl_runner.proofs.naming.NamedResult.put.Goals as goal

pub sample_of-sample-requires : goal.sample_of-sample-requires
sample_of-sample-requires g c =
    let m = module_in c.args.made.now in
    let w = c.args.self.now in
    lines_inside m (names_of c.args.face.now) w.kinds.items w.shows w.row c.requires.serves.probe

pub returns-in_err-put_lines-clause-wrote : goal.returns-in_err-put_lines-clause-wrote
returns-in_err-put_lines-clause-wrote g c = λ port made before.
    let m = module_in c.args.made.now in
    let n = c.args.made.now.cycle in
    let w = c.args.self.now in
    let f = c.args.face.now in
    let sample = c.sample_of-sample.result in
    let row = bits_of c.set_row.new.row in
    let seen = seen_named m c.args.made.now.sim.now port (suc n) f w.kinds.items w.shows c.as_slice.result.now w.row c.set_row.new.row sample made.ports' made.others' c.requires.serves.probe c.sample_of-sample.ensures c.as_slice.ensures.value c.set_row.ensures.bits in
    let lines = lines_as_named c.as_slice-name.result.now c.as_slice-kinds.result.now w.told (sampled sample n row) ∙ lines_named f port n c.as_slice-name.result.now c.as_slice-kinds.result.now w.told sample row c.as_slice-name.ensures (c.as_slice-kinds.ensures.value ∙ c.requires.serves.kinds') before.told' seen in
    failed _ _ _ _ c.from_residual.result c.from_residual.ensures.1
    (subst (λ (x : List ℕ). Broke (g.K.Sink.state c.args.out.now) (g.K.Sink.state c.put_lines.new.out) x) lines c.in_err-put_lines.ensures)

pub returns-clause-wrote : goal.returns-clause-wrote
returns-clause-wrote g c = λ port made before.
    let m = module_in c.args.made.now in
    let n = c.args.made.now.cycle in
    let w = c.args.self.now in
    let f = c.args.face.now in
    let sample = c.sample_of-sample.result in
    let row = bits_of c.set_row.new.row in
    let seen = seen_named m c.args.made.now.sim.now port (suc n) f w.kinds.items w.shows c.as_slice.result.now w.row c.set_row.new.row sample made.ports' made.others' c.requires.serves.probe c.sample_of-sample.ensures c.as_slice.ensures.value c.set_row.ensures.bits in
    let lines = lines_as_named c.as_slice-name.result.now c.as_slice-kinds.result.now w.told (sampled sample n row) ∙ lines_named f port n c.as_slice-name.result.now c.as_slice-kinds.result.now w.told sample row c.as_slice-name.ensures (c.as_slice-kinds.ensures.value ∙ c.requires.serves.kinds') before.told' seen in
    subst (λ (x : List ℕ). Took (g.K.Sink.state c.args.out.now) (g.K.Sink.state c.put_lines.new.out) x) lines c.in_ok-put_lines.ensures

pub returns-clause-stands : goal.returns-clause-stands
returns-clause-stands g c = λ port made before.
    let m = module_in c.args.made.now in
    let n = c.args.made.now.cycle in
    let w = c.args.self.now in
    let f = c.args.face.now in
    let sample = c.sample_of-sample.result in
    let row = bits_of c.set_row.new.row in
    let seen = seen_named m c.args.made.now.sim.now port (suc n) f w.kinds.items w.shows c.as_slice.result.now w.row c.set_row.new.row sample made.ports' made.others' c.requires.serves.probe c.sample_of-sample.ensures c.as_slice.ensures.value c.set_row.ensures.bits in
    stands_behind c.args.last port n f w _ sample.group sample.end c.is_late.result before refl refl c.is_late.ensures
    (group_seen (seen_as f.name port) (outs_of f) n sample row seen) (end_seen (seen_as f.name port) (outs_of f) n sample row seen)

pub set_row-requires-clause-inside : goal.set_row-requires-clause-inside
set_row-requires-clause-inside g c =
    let m = module_in c.args.made.now in
    let w = c.args.self.now in
    subst (AllByRecursion (λ n. n < length m.declarations)) (sym c.as_slice.ensures.value) (columns_in m w.shows.columns.items c.requires.serves.probe.columns')

pub set_row-requires-clause-lengths : goal.set_row-requires-clause-lengths
set_row-requires-clause-lengths g c =
    let m = module_in c.args.made.now in
    let w = c.args.self.now in
    ap length c.as_slice.ensures.value ∙ columns_many m (names_of c.args.face.now) w.kinds.items w.shows w.row c.requires.serves.probe
