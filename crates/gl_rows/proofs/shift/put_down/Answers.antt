use Rattle.std.proofs.Common.{ℕ, ◌<◌, ap, sym, subst, ◌∙◌}
use Rattle.gl_algebra.specs.Columns.{kind_of_operand}
use Rattle.gl_algebra.specs.Values.{value_of_operand}
use Rattle.gl_values.specs.Kinds.{shifted_down, width_of}
use Rattle.gl_values.specs.declared.kind.Kind.{Kind}
use Rattle.gl_wire.specs.Wire.{row_at}
use Rattle.gl_rows.specs.Made.{IsShiftedDown}
use Rattle.gl_rows.proofs.MadeLemmas.{carries_then}
use Rattle.gl_rows.proofs.shift.put_down.Goals as goal

pub put_shifted-requires : goal.put_shifted-requires
put_shifted-requires c =
    let wide = c.in_ok-arg.ensures.same_width in
    record {
      bus = c.in_ok-arg.ensures.bus;
      same_width = wide ∙ ap width_of (sym c.kind_of_operand-kind.ensures);
      near = subst (λ (n : ℕ). n < c.in_ok-arg.arg.width) (sym c.places_in-places.ensures)
          (subst (λ (w : ℕ). c.args.by.bits < w) (c.requires.width ∙ sym wide) c.requires.near);
    }

pub returns : goal.returns
returns c =
    let columns = c.args.source.columns.now in
    let kind = kind_of_operand c.args.source.kinds.now c.args.operand in
    let mid = c.put_operand.new.net in
    let new = c.put_shifted.new.net in
    let of_kind = subst (λ (k : Kind). IsShiftedDown mid new k c.places_in-places.result c.in_ok-arg.arg c.in_ok-bus.bus) c.kind_of_operand-kind.ensures c.in_ok-bus.ensures in
    carries_then c.args.net.now mid new 1 6 (width_of kind) (width_of kind) (λ run t. value_of_operand run.held (row_at run t columns) c.args.operand)
    (λ x. shifted_down kind x c.args.by.bits) c.in_ok-arg.arg c.in_ok-bus.bus c.in_ok-arg.ensures
    (subst (λ (n : ℕ). IsShiftedDown mid new kind n c.in_ok-arg.arg c.in_ok-bus.bus) c.places_in-places.ensures of_kind)
