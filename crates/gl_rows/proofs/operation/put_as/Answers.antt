use Rattle.std.proofs.Common.{ap, arith, sym, subst, ◌∙◌}
use Rattle.std.specs.Prelude.{IsTrue}
use Rattle.gl_algebra.specs.Columns.{kind_of_operand}
use Rattle.gl_algebra.specs.Values.{value_of_operand}
use Rattle.gl_values.specs.Kinds.{can_cast, width_of}
use Rattle.gl_values.specs.Operators.{cast_of}
use Rattle.gl_values.specs.declared.kind.Kind.{Kind}
use Rattle.gl_wire.specs.Wire.{row_at}
use Rattle.gl_rows.specs.Made.{IsCast}
use Rattle.gl_rows.proofs.MadeLemmas.{carries_then, carries_within}
use Rattle.gl_rows.proofs.operation.put_as.Goals as goal

pub put_cast-requires : goal.put_cast-requires
put_cast-requires c = record {
  bus = c.in_ok-arg.ensures.bus;
  width = c.in_ok-arg.ensures.same_width ∙ ap width_of (sym c.kind_of_operand-from.ensures);
  can = subst (λ (k : Kind). IsTrue (can_cast k c.args.kind)) (sym c.kind_of_operand-from.ensures) c.requires.fits.1;
}

pub returns : goal.returns
returns c =
    let columns = c.args.source.columns.now in
    let from = kind_of_operand c.args.source.kinds.now c.args.operand in
    let arg = c.in_ok-arg.ensures in
    carries_within c.args.net.now c.put_cast.new.net 6 7 (width_of c.args.kind) (λ run t. cast_of from c.args.kind (value_of_operand run.held (row_at run t columns) c.args.operand))
    c.in_ok-bus.bus (omega arith)
    (carries_then c.args.net.now c.put_operand.new.net c.put_cast.new.net 1 5 (width_of from) (width_of c.args.kind)
    (λ run t. value_of_operand run.held (row_at run t columns) c.args.operand) (cast_of from c.args.kind) c.in_ok-arg.arg c.in_ok-bus.bus arg
    (subst (λ (k : Kind). IsCast c.put_operand.new.net c.put_cast.new.net k c.args.kind c.in_ok-arg.arg c.in_ok-bus.bus) c.kind_of_operand-from.ensures c.in_ok-bus.ensures))
