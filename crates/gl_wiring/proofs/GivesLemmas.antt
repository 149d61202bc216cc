-- The circuit of a node from those of its children, whatever the node.
use Rattle.std.proofs.Common.{◌≡◌, ℕ, List, Some, Bool, true, false, ◌||◌, refl, sym, ap, ◌∙◌, subst, Option}
use Rattle.std.specs.Prelude.{IsTrue}
use Rattle.gl_algebra.specs.declared.figures.Figures.{Figures}
use Rattle.gl_algebra.specs.FigureTable.{NoCloser}
use Rattle.gl_algebra.specs.Results.{Arriving, Inputs, Meaning}
use Rattle.gl_algebra.specs.Values.{Sets}
use Rattle.gl_algebra.specs.Shapes.{Shape}
use Rattle.gl_values.specs.Results.{Row}
use Rattle.gl_net.specs.declared.node.Bit.{Bit}
use Rattle.gl_net.specs.Net.{Net, Run, IsRun, Keeps}
use Rattle.gl_wire.specs.declared.emitted.Emitted.{Emitted}
use Rattle.gl_wire.specs.declared.emitted.Faults.{Faults}
use Rattle.gl_wire.specs.declared.wire.Wire.{Wire}
use Rattle.gl_wire.specs.Beats.{Beats, Spaced}
use Rattle.gl_wire.specs.Blocks.{IsBehind, IsBehind2, IsBehindLines}
use Rattle.gl_wire.specs.Costs.{Cost}
use Rattle.gl_wire.specs.Faults.{AreLines, line_of, lines_of}
use Rattle.gl_wire.specs.Pace.{KeepsPace}
use Rattle.gl_wire.specs.Serves as block
use Rattle.gl_wire.specs.Serves.{Fits, HasEnd, Served}
use Rattle.gl_wire.specs.Serving.{Serving, inputs_at, through_lines}
use Rattle.gl_wire.specs.Spills.{Condition, Lines, Relation, Relation2, SameLines, ServedWithLines, both_lines}
use Rattle.gl_wire.specs.Wire.{Carried, carried, stream}
use Rattle.gl_wire.proofs.ColumnLemmas.{wire_kept}
use Rattle.gl_wire.proofs.DelayLemmas.{spaced_closer}
use Rattle.gl_wire.proofs.FaultLemmas.{lines_kept}
use Rattle.gl_wire.proofs.ServingLemmas.{serving_as, serving_lines, serving_then, serving_then2, serving_through}
use Rattle.gl_turns.specs.Dated.{Dated}
use Rattle.gl_wiring.specs.Leaves.{LeavesFit, leaf, widths_of}
use Rattle.gl_wiring.specs.Put.{GivesAs}
use Rattle.gl_wiring.proofs.DatedServing.{WithSpill, WithStream, dated_alone, results_alone, serving_right, with_spill, with_stream}

-- what a circuit gives it gives in every larger netlist
pub gives_kept : (s : Shape) (f : Figures) (arrivals : Arriving) (means : Meaning) (old new : Net) (tick : Option Bit) (leaves : List Wire) (e : Emitted) → Keeps old new
    → GivesAs s f arrivals means old tick leaves e → GivesAs s f arrivals means new tick leaves e
gives_kept s f arrivals means old new tick leaves e g h = record {
  wire = wire_kept old new e.wire g h.wire;
  same_widths = h.same_widths;
  lines = lines_kept old new e.faults g h.lines;
  paced = λ run r. h.paced run (g.runs run r);
  serving = λ run r. h.serving run (g.runs run r);
  dated = λ run r. h.dated run (g.runs run r);
}

-- lines that tell the same
same_faults : (run : Run) (x y : Faults) → x ≡ y → SameLines (lines_of run x) (lines_of run y)
same_faults run x y e = record {
  passed = λ c. ap (λ (z : Faults). (lines_of run z).passed c) e;
  further = λ c. ap (λ (z : Faults). (lines_of run z).further c) e;
}

-- where each row behind a node comes of one row that came, so does each row of the node, and it is brought by the same
-- beat
pub record ComesBehind (s s' : Shape) (f g : Figures) (arrivals arrivals' : Arriving) (Between : Sets → Carried → Carried → Type 0) : Type 0 where
  pub before : IsTrue s'.arrives → IsTrue s.arrives
  pub dates : IsTrue s'.arrives → (sets : Sets) (i : ℕ → Inputs) → ((t : ℕ) → (i t).sets ≡ sets) → (p : ℕ → Bool) (beats : Beats) (a b : Carried) → Between sets a b
      → Dated f (λ t. arrivals (i t)) (λ t n. n) p beats a → Dated g (λ t. arrivals' (i t)) (λ t n. n) p beats b

-- one operator without lines behind a node
module _ (s s' : Shape) (f g : Figures) (arrivals arrivals' : Arriving) (means means' : Meaning) (mid new : Net) (tick : Option Bit) (leaves : List Wire) (below e : Emitted)
    (Between : Sets → Carried → Carried → Type 0) (columns : List ℕ) (most : Cost) (n : Sets → block.Meaning)
    (h : GivesAs s f arrivals means mid tick leaves below) (b : IsBehind mid new Between columns most below e) (same : columns ≡ widths_of s'.kinds) (closer : NoCloser f g)
    (law : (sets : Sets) (a b : Carried) → Between sets a b → (beats : Beats) → Spaced g beats → Fits f beats a → Served f g (λ t. n sets) beats a b)
    (pace : (sets : Sets) (a b : Carried) (leaves : ℕ → Carried) → Between sets a b → KeepsPace s.pace f.a leaves a → KeepsPace s'.pace g.a leaves b)
    (results : (i : Inputs) (xs ys : List Row) (p : Bool) → means i xs p → n i.sets xs ys → means' i ys p)
    (comes : ComesBehind s s' f g arrivals arrivals' Between) where
  module _ (run : Run) (r : IsRun new run) (beats : Beats) (spaced : Spaced g beats) (fits : LeavesFit run tick leaves beats) where
    abbrev ins : ℕ → Inputs
    ins = inputs_at run.held (line_of run tick) (leaf run leaves) (leaf run leaves 0)

    abbrev before : Serving f (λ t. means (ins t)) (lines_of run below.faults) beats (carried run below.wire)
    before = h.serving run (b.keeps.runs run r) beats (spaced_closer f g beats closer spaced) fits

    -- with the choice of spill of what stands before
    abbrev chosen : Serving g (WithSpill (λ t. means' (ins t)) before.spill) (lines_of run e.faults) beats (carried run e.wire)
    chosen =
        serving_lines g (WithSpill (λ t. means' (ins t)) before.spill) (lines_of run e.faults) (lines_of run below.faults) beats (carried run e.wire) (same_faults run e.faults below.faults b.faults)
        (serving_as g _ (WithSpill (λ t. means' (ins t)) before.spill) (lines_of run below.faults) beats (carried run e.wire)
        (λ t ys p x. (results (ins t) x.0 ys p x.1.0 x.2, x.1.1))
        (serving_through f g (WithSpill (λ t. means (ins t)) before.spill) (n run.held) (lines_of run below.faults) beats (carried run below.wire) (carried run e.wire)
        (with_spill f (lines_of run below.faults) beats (carried run below.wire) (λ t. means (ins t)) before)
        (law run.held (carried run below.wire) (carried run e.wire) (b.shape run r) beats spaced before.fits)))

    abbrev served : Serving g (λ t. means' (ins t)) (lines_of run e.faults) beats (carried run e.wire)
    served = results_alone g (lines_of run e.faults) beats (carried run e.wire) (λ t. means' (ins t)) before.spill chosen

    comes_then : IsTrue s'.arrives → Dated g (λ t. arrivals' (ins t)) (λ t n. n) served.spill beats (carried run e.wire)
    comes_then came =
        dated_alone g (lines_of run e.faults) beats (carried run e.wire) (λ t. means' (ins t)) before.spill chosen (λ t. arrivals' (ins t)) (λ t n. n)
        (comes.dates came run.held ins (λ t. refl) before.spill beats (carried run below.wire) (carried run e.wire) (b.shape run r)
        (h.dated run (b.keeps.runs run r) beats (spaced_closer f g beats closer spaced) fits (comes.before came)))

  pub behind : GivesAs s' g arrivals' means' new tick leaves e
  behind = record {
    wire = b.wire;
    same_widths = b.same_widths ∙ same;
    lines = subst (AreLines new) (sym b.faults) (lines_kept mid new below.faults b.keeps h.lines);
    paced = λ run r. pace run.held (carried run below.wire) (carried run e.wire) (leaf run leaves) (b.shape run r) (h.paced run (b.keeps.runs run r));
    serving = λ run r beats spaced fits. served run r beats spaced fits;
    dated = λ run r beats spaced fits came. comes_then run r beats spaced fits came;
  }

-- one operator with lines of its own behind a node, whose spill is said of the rows that come in
module _ (s s' : Shape) (f g : Figures) (arrivals arrivals' : Arriving) (means means' : Meaning) (mid new : Net) (tick : Option Bit) (leaves : List Wire) (below e : Emitted) (columns : List ℕ)
    (most : Cost) (n : Sets → Relation) (h : GivesAs s f arrivals means mid tick leaves below) (b : IsBehindLines mid new f g n columns most below e) (same : columns ≡ widths_of s'.kinds)
    (closer : NoCloser f g) (pace : (run : Run) → IsRun new run → KeepsPace s'.pace g.a (leaf run leaves) (carried run e.wire))
    (results : (i : Inputs) (xs ys : List Row) (q r : Bool) → means i xs q → n i.sets xs ys r → means' i ys (q || r))
    (said : List Row → Bool) (says : (sets : Sets) (xs ys : List Row) (r : Bool) → n sets xs ys r → r ≡ said xs)
    (comes : (run : Run) (r : IsRun new run) (beats : Beats) (spaced : Spaced g beats) (fits : Fits f beats (carried run below.wire)) → IsTrue s'.arrives
    → IsTrue s.arrives × ((i : ℕ → Inputs) → ((t : ℕ) → (i t).sets ≡ run.held) → (p : ℕ → Bool) → Dated f (λ t. arrivals (i t)) (λ t n. n) p beats (carried run below.wire)
    → Dated g (λ t. arrivals' (i t)) (λ t n. n) (λ t. p t || ((b.serves run r).2 beats spaced fits).spill t) beats (carried run e.wire))) where
  module _ (run : Run) (r : IsRun new run) (beats : Beats) (spaced : Spaced g beats) (fits : LeavesFit run tick leaves beats) where
    abbrev given : ℕ → Inputs
    given = inputs_at run.held (line_of run tick) (leaf run leaves) (leaf run leaves 0)

    abbrev source : Serving f (λ t. means (given t)) (lines_of run below.faults) beats (carried run below.wire)
    source = h.serving run (b.keeps.runs run r) beats (spaced_closer f g beats closer spaced) fits

    abbrev lane : ServedWithLines f g (n run.held) (b.serves run r).0 beats (carried run below.wire) (carried run e.wire)
    lane = (b.serves run r).2 beats spaced source.fits

    abbrev joined : Serving g (λ t. through_lines (WithStream (λ t. means (given t)) source.spill f (carried run below.wire) t) (n run.held)) (lines_of run e.faults) beats (carried run e.wire)
    joined =
        serving_lines g _ (lines_of run e.faults) (both_lines (lines_of run below.faults) (b.serves run r).0) beats (carried run e.wire) (b.serves run r).1
        (serving_then f g (WithStream (λ t. means (given t)) source.spill f (carried run below.wire)) (n run.held) (lines_of run below.faults) (b.serves run r).0 beats
        (carried run below.wire) (carried run e.wire)
        (with_stream f (lines_of run below.faults) beats (carried run below.wire) (λ t. means (given t)) source) lane)

    -- with the choice of either
    right_by_either : (t k : ℕ) → beats t ≡ Some true → HasEnd g (carried run e.wire) t k
        → WithSpill (λ t. means' (given t)) (λ t. source.spill t || lane.spill t) t (stream (carried run e.wire) k) (joined.spill t)
    right_by_either t k is here =
        let x = joined.right t k is here in
        let o = source.fits.end t is in
        let ys : List Row = stream (carried run e.wire) k in
        let told : lane.spill t ≡ said x.0 =
        says run.held (stream (carried run below.wire) o.at) ys (lane.spill t) (lane.served.results t o.at k is o.here here) ∙ ap said (sym (x.3.2 o.at o.here)) in (
          subst (means' (given t) ys) (sym x.5) (results (given t) x.0 ys x.1 x.2 x.3.0 x.4),
          x.5 ∙ ap (λ (q : Bool). q || x.2) x.3.1 ∙ ap (λ (q : Bool). source.spill t || q) (says run.held x.0 ys x.2 x.4 ∙ sym told),
        )

    abbrev by_either : Serving g (WithSpill (λ t. means' (given t)) (λ t. source.spill t || lane.spill t)) (lines_of run e.faults) beats (carried run e.wire)
    by_either =
        serving_right g (lines_of run e.faults) beats (carried run e.wire) (λ t. through_lines (WithStream (λ t. means (given t)) source.spill f (carried run below.wire) t) (n run.held))
        (WithSpill (λ t. means' (given t)) (λ t. source.spill t || lane.spill t)) joined right_by_either

    abbrev served_lines : Serving g (λ t. means' (given t)) (lines_of run e.faults) beats (carried run e.wire)
    served_lines = results_alone g (lines_of run e.faults) beats (carried run e.wire) (λ t. means' (given t)) (λ t. source.spill t || lane.spill t) by_either

    comes_by_either : IsTrue s'.arrives → Dated g (λ t. arrivals' (given t)) (λ t n. n) served_lines.spill beats (carried run e.wire)
    comes_by_either came =
        let c = comes run r beats spaced source.fits came in
        dated_alone g (lines_of run e.faults) beats (carried run e.wire) (λ t. means' (given t)) (λ t. source.spill t || lane.spill t) by_either (λ t. arrivals' (given t)) (λ t n. n)
        (c.1 given (λ t. refl) source.spill (h.dated run (b.keeps.runs run r) beats (spaced_closer f g beats closer spaced) fits c.0))

  pub behind_lines : GivesAs s' g arrivals' means' new tick leaves e
  behind_lines = record {
    wire = b.wire;
    same_widths = b.same_widths ∙ same;
    lines = b.lines;
    paced = pace;
    serving = λ run r beats spaced fits. served_lines run r beats spaced fits;
    dated = λ run r beats spaced fits came. comes_by_either run r beats spaced fits came;
  }

-- one operator behind two nodes
pub behind2 : (s s' t : Shape) (f g h : Figures) (v v' arrivals : Arriving) (m m' means : Meaning) (n : Relation2) (Cond : Condition)
    (Pace : Carried → Carried → Carried → Type 0) (mid new : Net) (tick : Option Bit) (leaves : List Wire) (a b e : Emitted) (columns : List ℕ) (most : Cost)
    → GivesAs s f v m mid tick leaves a → GivesAs s' g v' m' mid tick leaves b → IsBehind2 mid new Cond Pace f g h n columns most a b e
    → columns ≡ widths_of t.kinds → NoCloser f h → NoCloser g h
    → ((leaves : ℕ → Carried) (beats : Beats) (x y : Carried) → Fits f beats x → Fits g beats y
    → KeepsPace s.pace f.a leaves x → KeepsPace s'.pace g.a leaves y → Cond beats x y)
    → ((leaves : ℕ → Carried) (x y o : Carried) → Pace x y o → KeepsPace s.pace f.a leaves x → KeepsPace s'.pace g.a leaves y
    → KeepsPace t.pace h.a leaves o)
    → ((i : Inputs) (xs ys zs : List Row) (q r p : Bool) → m i xs q → m' i ys r → n xs ys zs p → means i zs ((q || r) || p))
    → t.arrives ≡ false
    → GivesAs t h arrivals means new tick leaves e
behind2 s s' t f g h v v' arrivals m m' means n Cond Pace mid new tick leaves a b e columns most left right join same closer closer' cond pace results none = record {
  wire = join.wire;
  same_widths = join.same_widths ∙ same;
  lines = join.lines;
  paced = λ run r. let before = join.keeps.runs run r in
      pace (leaf run leaves) (carried run a.wire) (carried run b.wire) (carried run e.wire) (join.paced run r) (left.paced run before) (right.paced run before);
  serving = λ run r beats spaced fits.
      let before = join.keeps.runs run r in
      let x = left.serving run before beats (spaced_closer f h beats closer spaced) fits in
      let y = right.serving run before beats (spaced_closer g h beats closer' spaced) fits in
      let alike = cond (leaf run leaves) beats (carried run a.wire) (carried run b.wire) x.fits y.fits (left.paced run before) (right.paced run before) in
      let z = join.serves run r in
      let ins : ℕ → Inputs = inputs_at run.held (line_of run tick) (leaf run leaves) (leaf run leaves 0) in
      let lines : Lines = both_lines (both_lines (lines_of run a.faults) (lines_of run b.faults)) z.0 in
      serving_lines h (λ t. means (ins t)) (lines_of run e.faults) lines beats (carried run e.wire) z.1
      (serving_as h _ (λ t. means (ins t)) lines beats (carried run e.wire)
      (λ t zs p w. subst (means (ins t) zs) (sym w.8) (results (ins t) w.0 w.1 zs w.2 w.3 w.4 w.5 w.6 w.7))
      (serving_then2 f g h (λ t. m (ins t)) (λ t. m' (ins t)) n (lines_of run a.faults) (lines_of run b.faults) z.0 beats
      (carried run a.wire) (carried run b.wire) (carried run e.wire) x y (z.2 beats spaced x.fits y.fits alike)));
  dated = λ run r beats spaced fits came. absurd (let z : true ≡ false = sym came ∙ none in cc);
}
