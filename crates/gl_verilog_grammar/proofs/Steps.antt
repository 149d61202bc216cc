-- Tokens one after the other.
use Rattle.std.proofs.Common.{List, [], ◌∷◌, Option, Some, refl}
use Rattle.gl_verilog.specs.Tokens.{Token}
use Rattle.gl_verilog.specs.Written.{WrittenExpr}
use Rattle.gl_verilog_grammar.specs.Machine.{State, WantOperand, HaveOperand, Frame, step}
use Rattle.gl_bits.proofs.Machines.{IsMachine}
use Rattle.std.specs.Prelude.{option_and_then}

-- the state behind tokens that can stand there
unfoldable pub steps : State → List Token → Option State
steps s [] = Some s
steps s (t ∷ ts) = option_and_then (λ s'. steps s' ts) (step s t)

-- the steps are those of a machine
pub is-machine : IsMachine step steps
unfolding steps
is-machine = record { none_left = λ s. refl; goes = λ s x t ts e. rw e refl; stops = λ s t ts e. rw e refl }

-- ---- states inside an expression

abbrev pub wanting : State → List Frame → State
wanting s fs = record s { stage = WantOperand; frames = fs }

abbrev pub having : State → List Frame → WrittenExpr → State
having s fs e = record s { stage = HaveOperand e; frames = fs }
