-- What stands around a machine over copies of a body, behind a source whose rows are far enough apart.
use Rattle.std.proofs.Common.{◌≡◌, ℕ, ◌<◌, ◌≤◌, List, ◌∷◌, length, Option, refl, sym, ap, ◌∙◌, subst, arith}
use Rattle.std.specs.Prelude.{slice_index}
use Rattle.gl_values.specs.Kinds.{width_of}
use Rattle.gl_values.specs.declared.kind.Kind.{Kind}
use Rattle.gl_bits.proofs.AllLists.{get_there}
use Rattle.gl_algebra.specs.Columns.{kind_of_column}
use Rattle.gl_algebra.specs.declared.figures.Figures.{Figures}
use Rattle.gl_algebra.specs.declared.node.PlanNode.{PlanNode}
use Rattle.gl_algebra.specs.FigureTable.{figures_of, spaced}
use Rattle.gl_algebra.specs.Fits.{IsBodyFor, IsPlan}
use Rattle.gl_algebra.specs.Results.{IsPlanArrival, IsPlanResult}
use Rattle.gl_algebra.specs.Shapes.{kinds_of, shape_of}
use Rattle.gl_net.specs.declared.node.Bit.{Bit}
use Rattle.gl_net.specs.Net.{Net, Run, IsRun, Keeps}
use Rattle.gl_net.proofs.Determined.{keeps_then}
use Rattle.gl_wire.specs.declared.emitted.Emitted.{Emitted}
use Rattle.gl_wire.specs.declared.wire.Wire.{Wire}
use Rattle.gl_wire.specs.Apart.{CarriesApart}
use Rattle.gl_wire.specs.Beats.{Beats, Spaced, beats_of}
use Rattle.gl_wire.specs.Costs.{CostsAtMost}
use Rattle.gl_wire.specs.Faults.{line_of, lines_of}
use Rattle.gl_wire.specs.Serving.{Serving, inputs_at}
use Rattle.gl_wire.specs.Wire.{carried, widths}
use Rattle.gl_wire.proofs.DelayLemmas.{spaced_closer}
use Rattle.gl_wire_registers.specs.Fronts.{Machine}
use Rattle.gl_wire_registers.specs.Joins.{columns_of, gives_of, told_of}
use Rattle.gl_wire_registers.specs.Lines.{carried_of}
use Rattle.gl_wiring.specs.Below.{LawsBelow}
use Rattle.gl_wiring.specs.Copies.{AreBodies, IsPutOver, IsSpacedSource, LeavesRoom, cost_from, paceless}
use Rattle.gl_wiring.specs.Leaves.{LeavesFit, leaf, widths_of}
use Rattle.gl_wiring.specs.Put.{GivesAs}
use Rattle.gl_wiring.proofs.BodyLemmas.{CopyServes, columns_between, copies_serve, source_apart, source_cost, source_gives, source_keeps}
use Rattle.gl_wiring.proofs.CopyLemmas.{bodies_columns}
use Rattle.gl_wiring.proofs.GroupCosts.{key_width_is}

-- the copies have the columns of the body
pub over_columns : (nodes : List PlanNode) (body : ℕ) (m : Machine) (source : Emitted) (old new : Net) (e : Emitted) (o : IsPutOver nodes body m source old new e) → 1 ≤ m.count
    → columns_of o.copies ≡ widths_of (kinds_of nodes body)
over_columns nodes body m source old new e o some =
    let first = get_there o.copies 0 (omega (arith, some, o.bodies.as_many)) in
    let all : AreBodies nodes body o.mid o.behind o.front.wires (length o.front.wires) o.copies =
    subst (λ (n : ℕ). AreBodies nodes body o.mid o.behind o.front.wires n o.copies) (sym o.fronted.fronts.as_many) o.bodies in
    bodies_columns nodes body o.mid o.behind o.front.wires o.copies all 0 first.0 first.1

-- the column of keys, and those of the copies
pub keyed_columns : (source : List Kind) (key : ℕ) → key < length source → (body : List Kind) (columns copies : List ℕ) → columns ≡ widths_of source → copies ≡ widths_of body
    → slice_index columns key ∷ copies ≡ widths_of (kind_of_column source key ∷ body)
keyed_columns source key within body columns copies of_source of_body =
    let own : slice_index columns key ≡ width_of (kind_of_column source key) = ap (λ (ws : List ℕ). slice_index ws key) of_source ∙ key_width_is source key within in
    rw (own, of_body) refl

-- in a run over beats of the whole: what the source gives, how far apart, and what each copy gives
pub record InRun (nodes : List PlanNode) (source body gap : ℕ) (m : Machine) (between : Emitted) (mid new : Net) (tick : Option Bit) (leaves : List Wire) (e : Emitted)
    (o : IsPutOver nodes body m between mid new e) (run : Run) (beats : Beats) : Type 0 where
  pub source' : Serving (spaced gap (figures_of nodes source))
      (λ t. IsPlanResult nodes source (inputs_at run.held (line_of run tick) (leaf run leaves) (leaf run leaves 0) t))
      (lines_of run o.front.source.faults) beats (carried run o.front.source.wire)
  pub apart : CarriesApart gap (carried run o.front.source.wire)
  pub copies : (k : ℕ) → k < m.count → Spaced (figures_of nodes body) (beats_of (carried_of run o.front.wires k))
      → CopyServes run.held nodes body (figures_of nodes body) (carried_of run o.front.wires k) (told_of run o.copies k) (gives_of run o.copies k)

-- what stands around such a machine
pub record Around (nodes : List PlanNode) (source body gap : ℕ) (g : Figures) (m : Machine) (between : Emitted) (old mid new : Net) (tick : Option Bit) (leaves : List Wire) (e : Emitted)
    (o : IsPutOver nodes body m between mid new e) : Type 0 where
  pub keeps : Keeps old new
  pub cost : CostsAtMost old o.mid (cost_from nodes source gap (m.front_cost (widths_of (kinds_of nodes source))))
  pub columns : widths o.front.source.wire.columns ≡ widths_of (kinds_of nodes source)
  pub in_run : (run : Run) → IsRun new run → (beats : Beats) → Spaced g beats → LeavesFit run tick leaves beats
      → InRun nodes source body gap m between mid new tick leaves e o run beats

pub around : LawsBelow → (nodes : List PlanNode) (source body gap : ℕ) (g : Figures) (m : Machine) (between : Emitted) (old mid new : Net) (tick : Option Bit) (leaves : List Wire) (e : Emitted)
    → IsPlan nodes → body < length nodes → IsBodyFor (shape_of nodes source) (shape_of nodes body) → LeavesRoom gap (spaced gap (figures_of nodes source)) g
    → IsSpacedSource nodes source gap old mid tick leaves between → (o : IsPutOver nodes body m between mid new e)
    → Around nodes source body gap g m between old mid new tick leaves e o
around laws nodes source body gap g m between old mid new tick leaves e plan in_body for room sp o =
    let f : Figures = spaced gap (figures_of nodes source) in
    let columns = columns_between nodes source gap g room old mid o.mid tick leaves sp.below between sp.gives sp.spaced' o.fronted.keeps in
    let fore : CostsAtMost mid o.mid (m.front_cost (widths_of (kinds_of nodes source))) =
    subst (λ (cs : List ℕ). CostsAtMost mid o.mid (m.front_cost cs)) columns o.fronted.cost in
    let given : GivesAs (paceless (shape_of nodes source)) f (IsPlanArrival nodes source) (IsPlanResult nodes source) o.mid tick leaves o.front.source =
    subst (GivesAs (paceless (shape_of nodes source)) f (IsPlanArrival nodes source) (IsPlanResult nodes source) o.mid tick leaves) (sym o.fronted.same)
    (source_gives nodes source gap g room old mid o.mid tick leaves sp.below between sp.gives sp.spaced' o.fronted.keeps) in
    record {
      keeps = keeps_then old o.mid new (source_keeps nodes source gap g room old mid o.mid tick leaves sp.below between sp.gives sp.spaced' o.fronted.keeps)
          (keeps_then o.mid o.behind new o.bodies.keeps o.backed.keeps);
      cost = source_cost nodes source gap g room old mid o.mid tick leaves sp.below between sp.gives sp.spaced' o.fronted.keeps _ fore;
      columns = given.same_widths;
      in_run = λ run r beats spaced_beats has.
          let run_behind = o.backed.keeps.runs run r in
          let run_mid = o.bodies.keeps.runs run run_behind in
          record {
            source' = given.serving run run_mid beats (spaced_closer f g beats room.closer spaced_beats) has;
            apart = subst (λ (x : Emitted). CarriesApart gap (carried run x.wire)) (sym o.fronted.same)
                (source_apart nodes source gap g room old mid o.mid tick leaves sp.below between sp.gives sp.spaced' o.fronted.keeps run run_mid beats spaced_beats has);
            copies = λ k l own.
                copies_serve laws nodes source body plan in_body for o.mid o.behind run o.front.wires m.count o.copies run_behind o.bodies o.fronted.fronts.as_many k l own;
          };
    }
