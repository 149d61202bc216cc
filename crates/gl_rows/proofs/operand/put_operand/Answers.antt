use Rattle.std.proofs.Common.{sym, subst}
use Rattle.gl_algebra.specs.declared.node.Operand.{Operand}
use Rattle.gl_algebra.specs.Columns.{OperandFits}
use Rattle.gl_algebra.specs.Known.{OperandKnown}
use Rattle.gl_net.specs.declared.node.Bus.{Bus}
use Rattle.std.specs.Prelude.{slice_index_or}
use Rattle.gl_rows.specs.Made.{IsOperand}
use Rattle.gl_wire.specs.Wire.{widths}
use Rattle.gl_rows.proofs.MadeLemmas.{column_carries, word_carries}
use Rattle.gl_rows.proofs.operand.put_operand.Goals as goal

pub returns-in-Column : goal.returns-in-Column
returns-in-Column c =
    let net = c.args.net.now in
    let columns = c.args.source.columns.now in
    let kinds = c.args.source.kinds.now in
    let none : Bus = record { node = 0; width = 0 } in
    subst (λ (o : Operand). IsOperand net net columns kinds o (slice_index_or columns c.in-Column.column none)) (sym c.in-Column.is)
    (column_carries net columns kinds c.args.source.words.now c.in-Column.column none c.requires.source (subst (OperandFits kinds) c.in-Column.is c.requires.fits))

pub returns-in-Parameter : goal.returns-in-Parameter
returns-in-Parameter c =
    let net = c.args.net.now in
    let columns = c.args.source.columns.now in
    let kinds = c.args.source.kinds.now in
    let words = c.args.source.words.now in
    let number = c.in-Parameter.number in
    let none : Bus = record { node = 0; width = 0 } in
    subst (λ (o : Operand). IsOperand net net columns kinds o (slice_index_or words number none)) (sym c.in-Parameter.is)
    (word_carries net columns kinds words number c.in-Parameter.kind none c.requires.source.held (subst (OperandKnown (widths words)) c.in-Parameter.is c.requires.known))
