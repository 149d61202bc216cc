use Rattle.std.proofs.Common.{take}
use Rattle.gl_bits.proofs.AllLists.{taken_next}
use Rattle.gl_verilog.specs.View.{module_of}
use Rattle.gl_runner.specs.Naming.{IsNew}
use Rattle.gl_runner.proofs.Named.{zip_push}
use Rattle.gl_runner.proofs.naming.NamedLines.new.Goals as goal

pub loop-face-preserved : goal.loop-face-preserved
loop-face-preserved c =
    let m = module_of c.args.design.now in
    let at = c.loop-face.face-index in
    rw (taken_next c.args.faces.now at c.face-item.result c.loop-face-test.true c.face-item.is, c.in_ok-push.ensures.items)
    (zip_push (IsNew m) (take at c.args.faces.now) c.loop-face.results.items c.face-item.result c.in_ok-new.field-0 c.loop-face.invariant c.in_ok-new.ensures)
