-- The kinds and widths of operands.
use Rattle.std.proofs.Common.{◌≤◌, List}
use Rattle.std.specs.Prelude.{All}
use Rattle.gl_values.specs.Kinds.{IsKind, width_of}
use Rattle.gl_values.specs.declared.kind.Kind.{Kind}
use Rattle.gl_values.proofs.KindLemmas.{kind_width}
use Rattle.gl_algebra.specs.declared.node.Operand.{Operand}
use Rattle.gl_algebra.specs.declared.node.Operand.TheVariants.{Column, Literal, Parameter}
use Rattle.gl_algebra.specs.Columns.{OperandFits, bit_kind, kind_of_operand}

pub operand_kind : (kinds : List Kind) (operand : Operand) → All IsKind kinds → OperandFits kinds operand → IsKind (kind_of_operand kinds operand)
operand_kind kinds (Column column) all fits = all column bit_kind fits
operand_kind kinds (Literal word kind) all fits = fits.1
operand_kind kinds (Parameter number kind) all fits = fits

pub operand_width : (kinds : List Kind) (operand : Operand) → All IsKind kinds → OperandFits kinds operand → width_of (kind_of_operand kinds operand) ≤ 64
operand_width kinds operand all fits = kind_width (kind_of_operand kinds operand) (operand_kind kinds operand all fits)
