-- What a node's circuit gives over one stream, and the circuit of a root that has no spare copies: its node's own.
use Rattle.std.proofs.Common.{◌≡◌, ℕ, ◌+◌, ◌*◌, ◌<◌, ◌≤◌, List, length, Option, Some, None, refl, sym, subst, arith}
use Rattle.std.specs.Prelude.{unwrap_or}
use Rattle.gl_bits.proofs.AllLists.{get_there}
use Rattle.gl_algebra.specs.declared.figures.Figures.{Figures}
use Rattle.gl_algebra.specs.declared.node.PlanNode.{PlanNode}
use Rattle.gl_algebra.specs.FigureTable.{figures_of}
use Rattle.gl_algebra.specs.Fits.{IsPlan}
use Rattle.gl_algebra.specs.Results.{IsPlanResult}
use Rattle.gl_algebra.specs.Roots.{root_figures, spare_at}
use Rattle.gl_root_gaps.specs.declared.TickGaps.{TickGaps}
use Rattle.gl_root_gaps.specs.Roots.{gap_with, tick_gaps_at, ticks_with}
use Rattle.gl_root_gaps.specs.Together.{ticks_alone}
use Rattle.gl_figures.proofs.RootLemmas.{figures_there}
use Rattle.gl_net.specs.declared.node.Bit.{Bit}
use Rattle.gl_net.specs.Net.{Net, Run, IsRun}
use Rattle.gl_wire.specs.declared.emitted.Emitted.{Emitted}
use Rattle.gl_wire.specs.declared.wire.Wire.{Wire}
use Rattle.gl_wire.specs.Faults.{line_of, lines_of}
use Rattle.gl_wire.specs.Serving.{inputs_at}
use Rattle.gl_wire.specs.Wire.{carried}
use Rattle.gl_algebra.specs.Cost.{keys_of, lean_of}
use Rattle.gl_algebra.specs.Roots.{further_keys, further_lean}
use Rattle.gl_wire.proofs.OnceLemmas.{serving_once}
use Rattle.gl_wiring.specs.Below.{LawsBelow}
use Rattle.gl_wiring.specs.Leaves.{leaf}
use Rattle.gl_wiring.specs.Put.{Gives, IsPut}
use Rattle.gl_wiring.specs.Roots.{GivesOnce, IsRootPut, ServesAlone, ServesOnceBy, ServesOnceIn, alone_figures, gapped}
use Rattle.gl_wiring.proofs.CanLemmas.{put_columns}

-- what a plan counts for a root is no less than for its node
behind : (new old own further : ℕ) → new ≤ old + own → new ≤ old + (own + further)
behind new old own further h = omega (arith, h)

bits_behind : (new old own further keys more : ℕ) → new ≤ old + (64 * own + keys) → new ≤ old + (64 * (own + further) + (keys + more))
bits_behind new old own further keys more h = omega (arith, h)

-- what gives a node's results over all beats does so over one stream, however far apart ticks are
pub once_by : LawsBelow → (nodes : List PlanNode) (id ticks : ℕ) (net : Net) (tick : Option Bit) (leaves : List Wire) (e : Emitted) → IsPlan nodes → id < length nodes
    → Gives nodes id net tick leaves e → (run : Run) → IsRun net run → ServesOnceBy (figures_of nodes id) ticks nodes id tick leaves e run
once_by laws nodes id ticks net tick leaves e plan within gives run is beats last one spaced has apart =
    serving_once (figures_of nodes id) (λ t. IsPlanResult nodes id (inputs_at run.held (line_of run tick) (leaf run leaves) (leaf run leaves 0) t)) (lines_of run e.faults)
    beats (carried run e.wire) last (laws.figures_are_sound nodes id plan within) spaced one (gives.serving run is beats spaced has)

-- and so it does over ticks that are farther apart than tuples, where the node's are
pub serves_alone : LawsBelow → (nodes : List PlanNode) (id : ℕ) (net : Net) (tick : Option Bit) (leaves : List Wire) (e : Emitted) → IsPlan nodes → id < length nodes
    → Gives nodes id net tick leaves e → GivesOnce nodes id net tick leaves e → (run : Run) → IsRun net run → ServesAlone nodes id tick leaves e run
serves_alone laws nodes id net tick leaves e plan within gives once run is = by (tick_gaps_at nodes id) refl
  where
    by : (o : Option TickGaps) → tick_gaps_at nodes id ≡ o → ServesAlone nodes id tick leaves e run
    by None h =
        let alike : alone_figures nodes id ≡ figures_of nodes id = λ i. gapped (h i) (figures_of nodes id) in
        subst (λ (g : Figures). ServesOnceBy g (ticks_alone nodes id) nodes id tick leaves e run) (sym alike)
        (once_by laws nodes id (ticks_alone nodes id) net tick leaves e plan within gives run is)
    by (Some it) h = once.serves (it, h) run is

pub root_alone : LawsBelow → (nodes : List PlanNode) (root : ℕ) (old new : Net) (tick : Option Bit) (leaves : List Wire) (e : Emitted) → IsPlan nodes → root < length nodes
    → spare_at nodes root ≡ None → IsPut nodes root old new tick leaves e → GivesOnce nodes root new tick leaves e → IsRootPut nodes root old new tick leaves e
root_alone laws nodes root old new tick leaves e plan within none put over =
    record {
      keeps = put.keeps;
      cost = record {
        nodes = behind _ _ _ _ put.cost.nodes;
        registers = bits_behind _ _ (lean_of nodes root) (further_lean nodes root) (keys_of nodes root) (further_keys nodes root) put.cost.registers;
        memories = behind _ _ _ _ put.cost.memories;
      };
      columns = put_columns nodes root old new tick leaves e put;
      once = once;
    }
  where
    same : root_figures nodes root ≡ figures_of nodes root
    same = let here = get_there nodes root within in figures_there nodes root here.0 None here.1 none

    once : (run : Run) → IsRun new run → ServesOnceIn nodes root tick leaves e run
    once run is =
        subst (λ (f : Figures). ServesOnceBy (gapped (tick_gaps_at nodes root) f)
        (unwrap_or (ticks_with (tick_gaps_at nodes root)) (gap_with (tick_gaps_at nodes root) f.gt)) nodes root tick leaves e run) (sym same)
        (serves_alone laws nodes root new tick leaves e plan within put.gives over run is)
