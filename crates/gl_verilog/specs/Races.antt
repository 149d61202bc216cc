-- Why a register may be assigned in one block only: in two, what it takes depends on the order of events.
use Rattle.std.specs.Prelude.{◌≢◌, ℕ, false, [], ◌∷◌}
use Rattle.gl_verilog.specs.Module.{Module, Register, Literal, Put}
use Rattle.gl_verilog.specs.Events.{State, at_edge, IsSettledRest}
use Rattle.gl_verilog.specs.Laws.{Rests}

-- from one state, two schedules of an edge rest with two values in one net
pub record Races (m : Module) : Type 0 where
  pub before : State
  pub stands : IsSettledRest m before
  pub one : Rests m (at_edge m before)
  pub other : Rests m (at_edge m before)
  pub net : ℕ
  pub differ : one.last.nets net ≢ other.last.nets net

-- reg r; always @(posedge clk) r <= 1'd0; always @(posedge clk) r <= 1'd1;
abbrev pub twice_assigned : Module
twice_assigned = record {
  name = [];
  ports = 0;
  declarations = record { name = []; width = 1; is_vector = false; kind = Register } ∷ [];
  assignments = [];
  blocks = Put 0 (Literal 0 1) ∷ Put 0 (Literal 1 1) ∷ [];
}
