-- Input ports column by column and stream by stream.
use Rattle.std.proofs.Common.{◌≡◌, ℕ, zero, suc, ◌<◌, List, [], ◌∷◌, ◌++◌, ◌∙◌, length, get_or, sym, subst, arith}
use Rattle.std.specs.List.{AllByRecursion}
use Rattle.gl_values.specs.Kinds.{IsKind}
use Rattle.gl_schema.specs.declared.schema.Column.{Column}
use Rattle.gl_schema.specs.Ports.{in_column}
use Rattle.gl_schema.specs.Schemas.{IsColumn}
use Rattle.gl_schema.proofs.KindTable.{written_is}
use Rattle.gl_net.specs.declared.node.Bus.{Bus}
use Rattle.gl_net.specs.declared.node.Direction.TheVariants.{In}
use Rattle.gl_net.specs.Net.{Net, IsBus, IsPort}
use Rattle.gl_wiring.specs.Emitted.{Extends, AreInputs}

-- each column of a stream has a kind
pub kind_there : (cs : List Column) (i : ℕ) (c : Column) → AllByRecursion IsColumn cs → i < length cs → c ≡ get_or cs i c → IsKind c.kind
kind_there [] i c all lt is = absurd (omega arith)
kind_there (d ∷ cs) zero c all lt is = subst (λ (x : Column). IsKind x.kind) (sym is) (written_is d.kind all.0.kind)
kind_there (d ∷ cs) (suc i) c all lt is = kind_there cs i c all.1 (omega arith) is

-- what was an input stays one
pub inputs_stay : (old new : Net) (s : List ℕ) (cs : List Column) (bs : List Bus) → Extends old new → AreInputs old s cs bs → AreInputs new s cs bs
inputs_stay old new s [] [] x h = tt
inputs_stay old new s [] (b ∷ bs) x h = absurd h
inputs_stay old new s (c ∷ cs) [] x h = absurd h
inputs_stay old new s (c ∷ cs) (b ∷ bs) x h = ((x.ports In (in_column s c.name) b.node h.0.0, x.buses b h.0.1), inputs_stay old new s cs bs x h.1)

-- one more column
pub inputs_push : (net : Net) (s : List ℕ) (cs : List Column) (bs : List Bus) (c : Column) (b : Bus) → AreInputs net s cs bs → IsPort net In (in_column s c.name) b.node → IsBus net b → AreInputs net s (cs ++ c ∷ []) (bs ++ b ∷ [])
inputs_push net s [] [] c b h p q = ((p, q), tt)
inputs_push net s [] (d ∷ bs) c b h p q = absurd h
inputs_push net s (d ∷ cs) [] c b h p q = absurd h
inputs_push net s (d ∷ cs) (e ∷ bs) c b h p q = (h.0, inputs_push net s cs bs c b h.1 p q)

-- what has been added stays behind what is added next
pub extends_then : (a b c : Net) → Extends a b → Extends b c → Extends a c
extends_then a b c x y = record {
  runs = λ run h. x.runs run (y.runs run h);
  buses = λ b h. y.buses b (x.buses b h);
  undriven = λ n. y.undriven n ∙ x.undriven n;
  ports = λ d name n h. y.ports d name n (x.ports d name n h);
  module_name = y.module_name ∙ x.module_name;
}
