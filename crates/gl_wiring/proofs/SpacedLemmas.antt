-- A source that is spaced where its tuples may come too fast, with a spacer or without one.
use Rattle.std.proofs.Common.{◌≡◌, ℕ, List, Some, Bool, true, false, ◌||◌, refl, sym, ap, ◌∙◌, subst, arith, Option}
use Rattle.std.specs.Prelude.{if◌then◌else◌}
use Rattle.gl_values.specs.Results.{Row}
use Rattle.gl_bits.proofs.Bools.{or_none}
use Rattle.gl_algebra.specs.declared.figures.Figures.{Figures}
use Rattle.gl_algebra.specs.FigureTable.{IsSound, NoCloser, needs_spacer, spaced, spacer_figures}
use Rattle.gl_algebra.specs.Results.{Arriving, Inputs, Meaning}
use Rattle.gl_algebra.specs.Shapes.{Shape}
use Rattle.gl_net.specs.declared.node.Bit.{Bit}
use Rattle.gl_net.specs.Net.{Net}
use Rattle.gl_net.proofs.Growth.{same_keeps}
use Rattle.gl_wire.specs.Counted.{AreNarrow}
use Rattle.gl_queue.specs.Spacers.{IsSpacerOf}
use Rattle.gl_wire.specs.declared.emitted.Emitted.{Emitted}
use Rattle.gl_wire.specs.declared.wire.Wire.{Wire}
use Rattle.gl_wire.specs.Blocks.{IsBehindLines}
use Rattle.gl_wire.specs.Costs.{Cost, CostsAtMost}
use Rattle.gl_wire.specs.Faults.{AreLines, line_of, lines_of}
use Rattle.gl_wire.specs.Serves.{HasEnd}
use Rattle.gl_wire.specs.Serving.{inputs_at}
use Rattle.gl_wire.specs.Shapes.{Same}
use Rattle.gl_wire.specs.Spills.{Lines, SameLines, ServesWithLines, both_lines, never, no_lines}
use Rattle.gl_wire.specs.Wire.{Carried, IsWire, carried, stream, widths}
use Rattle.gl_wire.proofs.DelayLemmas.{spaced_closer}
use Rattle.gl_wire.proofs.ServingLemmas.{serving_as, serving_lines, serving_then}
use Rattle.gl_wiring.specs.Below.{LawsBelow}
use Rattle.gl_wiring.specs.Leaves.{leaf, widths_of}
use Rattle.gl_wiring.specs.Put.{GivesAs}
use Rattle.gl_wiring.specs.Copies.{IsSpacedFor, LeavesRoom, cost_of_spaced, paceless}

-- where one is needed, a spacer stands
module _ (laws : LawsBelow) (old new : Net) (gap : ℕ) (f : Figures) (a b : Emitted) (needed : needs_spacer gap f ≡ true) (narrow : AreNarrow (widths a.wire.columns))
    (s : IsSpacerOf old new gap f a b) where
  with_spacer : spaced gap f ≡ spacer_figures gap f
  with_spacer = rw needed refl

  cost_within : CostsAtMost old new (cost_of_spaced gap f (widths a.wire.columns))
  cost_within =
      let c = laws.spacers_are_counted gap f (widths a.wire.columns) needed narrow in
      record {
        nodes = omega (arith, s.behind.cost.nodes, c.nodes);
        registers = omega (arith, s.behind.cost.registers, c.registers);
        memories = omega (arith, s.behind.cost.memories, c.memories);
      }

  pub spacer_put : IsSpacedFor old new gap f a b
  spacer_put = record {
    behind = record {
      keeps = s.behind.keeps;
      cost = cost_within;
      wire = s.behind.wire;
      same_widths = s.behind.same_widths;
      lines = s.behind.lines;
      serves = λ run r.
          let z = s.behind.serves run r in
          (z.0, z.1, subst (λ (g : Figures). ServesWithLines f g (never Same) z.0 (carried run a.wire) (carried run b.wire)) (sym with_spacer) z.2);
    };
    apart = λ run r g room beats apart fits.
        s.apart run r beats
        (spaced_closer (spacer_figures gap f) g beats (subst (λ (h : Figures). NoCloser h g) with_spacer room.closer) apart) fits;
  }

-- a wire serves its own rows
own_rows : (f : Figures) (a : Carried) → ServesWithLines f f (never Same) no_lines a a
own_rows f a beats apart fits = record {
  spill = λ t. false;
  served = record {
    fits = fits;
    results = λ t d e p h k. (ap (stream a) (sym (one t d e p h k)), refl);
    later = λ t d e p h k. let same = one t d e p h k in omega (arith, same);
  };
  low = λ c. refl;
  told = λ en t p q. absurd (cc);
  so = λ en c q. absurd (cc);
  late = λ en c q. absurd (cc);
}
  where
    one : (t d e : ℕ) → beats t ≡ Some true → HasEnd f a t d → HasEnd f a t e → d ≡ e
    one t d e p h k = let o = fits.end t p in o.only d h ∙ sym (o.only e k)

same_lines : (p : Lines) → SameLines p (both_lines p no_lines)
same_lines p = record { passed = λ c. sym (or_none (p.passed c)); further = λ c. sym (or_none (p.further c)) }

-- and none elsewhere
pub none_put : LawsBelow → (net : Net) (gap : ℕ) (f : Figures) (a : Emitted) → needs_spacer gap f ≡ false → IsSound f → IsWire net a.wire → AreLines net a.faults
    → IsSpacedFor net net gap f a a
none_put laws net gap f a none sound wire lines =
    let same : spaced gap f ≡ f = rw none refl in
    record {
      behind = record {
        keeps = same_keeps net;
        cost = record { nodes = omega arith; registers = omega arith; memories = omega arith };
        wire = wire;
        same_widths = refl;
        lines = lines;
        serves = λ run r. (
          no_lines,
          same_lines (lines_of run a.faults),
          subst (λ (g : Figures). ServesWithLines f g (never Same) no_lines (carried run a.wire) (carried run a.wire)) (sym same) (own_rows f (carried run a.wire)),
        );
      };
      apart = λ run r g room beats apart fits.
          let rests = subst (λ (h : Figures). LeavesRoom gap h g) same room in
          laws.unspaced_is_apart gap f g beats (carried run a.wire) sound rests.after rests.after_end none apart fits;
    }

pub no_closer : (gap : ℕ) (f : Figures) → NoCloser f (spaced gap f)
no_closer gap f = by (needs_spacer gap f)
  where
    by : (b : Bool) → NoCloser f (if b then spacer_figures gap f else f)
    by true = record { gt = omega arith; ge = omega arith }
    by false = record { gt = omega arith; ge = omega arith }

-- a node's results behind a block with lines that changes no rows
pub behind_same : (s : Shape) (f g : Figures) (arrivals : Arriving) (means : Meaning) (mid new : Net) (tick : Option Bit) (leaves : List Wire) (below e : Emitted) (columns : List ℕ) (most : Cost)
    → GivesAs s f arrivals means mid tick leaves below → IsBehindLines mid new f g (λ sets. never Same) columns most below e → columns ≡ widths_of s.kinds → NoCloser f g
    → GivesAs (paceless s) g arrivals means new tick leaves e
behind_same s f g arrivals means mid new tick leaves below e columns most h b same closer = record {
  wire = b.wire;
  same_widths = b.same_widths ∙ same;
  lines = b.lines;
  paced = λ run r. tt;
  serving = λ run r beats apart fits.
      let before = h.serving run (b.keeps.runs run r) beats (spaced_closer f g beats closer apart) fits in
      let z = b.serves run r in
      let ins : ℕ → Inputs = inputs_at run.held (line_of run tick) (leaf run leaves) (leaf run leaves 0) in
      let lines : Lines = both_lines (lines_of run below.faults) z.0 in
      serving_lines g (λ t. means (ins t)) (lines_of run e.faults) lines beats (carried run e.wire) z.1
      (serving_as g _ (λ t. means (ins t)) lines beats (carried run e.wire)
      (λ t ys p w.
      let n = w.4 in
      subst (λ (x : List Row). means (ins t) x p) (sym n.0) (subst (means (ins t) w.0) (sym (w.5 ∙ ap (λ (q : Bool). w.1 || q) n.1 ∙ or_none w.1)) w.3))
      (serving_then f g (λ t. means (ins t)) (never Same) (lines_of run below.faults) z.0 beats (carried run below.wire) (carried run e.wire)
      before (z.2 beats apart before.fits)));
  dated = λ run r beats apart fits came. absurd (cc);
}
