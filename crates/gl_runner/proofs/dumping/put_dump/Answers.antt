use Rattle.std.proofs.Common.{◌≡◌, ◌≤◌, ◌∙◌, true, false, ap, arith, length, sym, subst}
use Rattle.std.proofs.lemmas.Result.{err_from_is_err_and}
use Rattle.gl_outside.specs.States.{Broke, Took}
use Rattle.gl_bits.proofs.AllLists.{length_map}
use Rattle.gl_verilog.specs.Module.{Module}
use Rattle.gl_verilog.specs.View.{declaration_of, module_of}
use Rattle.gl_vcd.specs.Written.{ports_of}
use Rattle.gl_runner.proofs.Dumps.{came_through, dump_cut_among, dump_cut_in_front, dump_written, front_of}
use Rattle.gl_runner.proofs.dumping.put_dump.Goals as goal
use Rattle.gl_runner.proofs.dumping.put_dump.Goals.{in-WriteFault, in_default}

pub header-requires-clause-ports : goal.header-requires-clause-ports
header-requires-clause-ports g c =
    rw c.design.ensures (omega (arith, c.requires.plain.inside, length_map declaration_of c.args.drive.now.sim.design.declarations))

pub header-requires-clause-few : goal.header-requires-clause-few
header-requires-clause-few g c = subst (λ (m : Module). length (ports_of m) ≤ 8836) (sym (ap module_of c.design.ensures)) c.requires.few

pub returns-in_err-header : goal.returns-in_err-header
returns-in_err-header g c =
    let old = g.K.Sink.state c.args.out.now in
    let mid = g.K.Sink.state c.header.new.out in
    let p = err_from_is_err_and c.from_residual.result c.from_residual.ensures.1 in
    rw p.1 (dump_cut_in_front c.args.drive.now old mid (subst (λ (m : Module). Broke old mid (front_of m)) (ap module_of c.design.ensures) c.in_err-header.ensures))

pub returns-then-matches : goal.returns-then-matches
returns-then-matches g c =
    let old = g.K.Sink.state c.args.out.now in
    let mid = g.K.Sink.state c.header.new.out in
    let new = g.K.Sink.state c.follow-ending.new.out in
    (elim c.match-matches.branch [
      | in-WriteFault w ↦ dump_cut_among c.args.drive.now c.follow-ending.new.watch old mid new c.follow-ending.result w.in-WriteFault.is (subst (λ (m : Module). Took old mid (front_of m)) (ap module_of c.design.ensures) c.in_ok-header.ensures) c.follow-ending.ensures
      | in_default w ↦ absurd (let no' : true ≡ false = sym c.if-matches.true ∙ w.matches-is in cc)
    ])

pub returns : goal.returns
returns g c =
    let d = c.args.drive.now in
    let lines = c.follow-ending.new.watch in
    let old = g.K.Sink.state c.args.out.now in
    let mid = g.K.Sink.state c.header.new.out in
    let late = g.K.Sink.state c.follow-ending.new.out in
    let new = g.K.Sink.state c.last_time.new.out in
    (elim c.match-matches.branch [
      | in-WriteFault w ↦ absurd (let no' : true ≡ false = sym w.matches-is ∙ c.if-matches.false in cc)
      | in_default w ↦ dump_written d lines old mid late new c.last_time.result (subst (λ (m : Module). Took old mid (front_of m)) (ap module_of c.design.ensures) c.in_ok-header.ensures) (came_through d lines mid late c.follow-ending.result w.in_default.not-WriteFault c.follow-ending.ensures) c.last_time.ensures
    ])
