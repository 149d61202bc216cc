-- A text that meets its statement can be run over beats that keep the gaps, and what is compiled of texts is such a one.
use Rattle.std.proofs.Common.{◌≡◌, ℕ, ◌≤◌, ◌^◌, List, length, map, refl, sym, ap, subst, arith, ◌∙◌}
use Rattle.std.specs.List.{AllByRecursion}
use Rattle.gl_bits.proofs.AllLists.{length_map}
use Rattle.gl_values.specs.declared.kind.Kind.{Kind}
use Rattle.gl_values.specs.Kinds.{IsKind, width_of}
use Rattle.gl_schema.specs.declared.schema.Column.{Column}
use Rattle.gl_gaps.specs.declared.Gaps.{Gaps}
use Rattle.gl_schema.specs.declared.schema.Schema.{Schema}
use Rattle.gl_schema.specs.Schemas.{IsSchema, kinds_of}
use Rattle.gl_schema.specs.Beats.{Beats, AreBeats}
use Rattle.gl_gaps.specs.Keeps.{KeepsGaps}
use Rattle.gl_query.specs.declared.tree.Statement.{Statement}
use Rattle.gl_query.specs.Laws.{AcceptedHaveRealColumns}
use Rattle.gl_query.specs.Shapes.{query_shape}
use Rattle.gl_outside.specs.States.{SinkState}
use Rattle.gl_verilog.specs.declared.start.Start.{Start}
use Rattle.gl_figures.specs.declared.Printed.{Printed}
use Rattle.gl_compiler.specs.declared.compiling.Compiled.{Compiled}
use Rattle.gl_compiler.specs.Built.{printed_gaps}
use Rattle.gl_compiler.specs.Compiles.{IsCompiled}
use Rattle.gl_compiler.specs.Meets.{Meets, result_columns}
use Rattle.gl_compiler.proofs.KnownOf.{all_kinds}
use Rattle.gl_compiler.proofs.Ports.{ports_fit, widths_are}
use Rattle.gl_compiler.specs.Texts.{IsCompiledText}
use Rattle.gl_runner.specs.declared.executing.Outcome.{Outcome}
use Rattle.gl_runner.specs.Dumps.{Dumped, OfEachPorts}
use Rattle.gl_runner.specs.Prints.{CanRun, OfEachRun, Ran}
use Rattle.gl_compiler.specs.Runnable.{IsRunnable}

can_run : AcceptedHaveRealColumns → (schema : Schema) (statement : Statement) (latency : ℕ) (gaps : Gaps) (text : List ℕ) (kinds : List Kind) (beats : Beats) (start : Start)
    → IsSchema schema → Meets schema statement latency gaps text → kinds ≡ kinds_of (result_columns schema statement) → latency ≤ 2 ^ 32 → AreBeats schema beats → KeepsGaps gaps beats → CanRun text schema kinds beats latency start
can_run real_columns schema statement latency gaps text kinds beats start fine m e short are keeps = record {
  design = m.design;
  has = m.has;
  fits = ports_fit schema statement latency gaps text real_columns fine m;
  widths = widths_are schema statement latency gaps text m ∙ ap (λ (ks : List Kind). map width_of ks) (sym e);
  short = short;
  ends = λ value word over. let right = m.right beats value word (record { are = are; keep = keeps; run = over.run; stimulus = over.stimulus }) in record { ended = right.ended; soonest = right.soonest; in_time = right.in_time; ends = right.ends };
}

-- the text of a compiled query, with its schema and its kinds
pub can_run_compiled : AcceptedHaveRealColumns → (c : Compiled) (beats : Beats) (text : List ℕ) (schema : Schema) (kinds : List Kind) (printed : Printed) (start : Start) → IsRunnable c → AreBeats c.schema beats → KeepsGaps (printed_gaps c.printed) beats
    → text ≡ c.text.items → schema ≡ c.schema → kinds ≡ c.kinds → printed ≡ c.printed → CanRun text schema kinds beats printed.latency start
can_run_compiled real_columns c beats text schema kinds printed start is are gaps a b d e =
    let p : printed.latency ≡ c.printed.latency = ap (λ (x : Printed). x.latency) e in
    let run : CanRun c.text.items c.schema c.kinds beats c.printed.latency start = can_run real_columns c.schema c.statement c.printed.latency (printed_gaps c.printed) c.text.items c.kinds beats start is.fine is.meets is.columns is.short are gaps in
    subst (λ (x : List ℕ). CanRun x schema kinds beats printed.latency start) (sym a) (
    subst (λ (x : Schema). CanRun c.text.items x kinds beats printed.latency start) (sym b) (
    subst (λ (x : List Kind). CanRun c.text.items c.schema x beats printed.latency start) (sym d) (
    subst (λ (x : ℕ). CanRun c.text.items c.schema c.kinds beats x start) (sym p) run)))

-- how its run ended
pub ran_compiled : (c : Compiled) (beats : Beats) (text : List ℕ) (schema : Schema) (kinds : List Kind) (start : Start) (old new : SinkState) (r : Outcome) → IsRunnable c → text ≡ c.text.items → schema ≡ c.schema → kinds ≡ c.kinds
    → Ran (OfEachRun text schema beats start) kinds beats old new r → Ran (OfEachRun c.text.items c.schema beats start) (kinds_of (result_columns c.schema c.statement)) beats old new r
ran_compiled c beats text schema kinds start old new r is a b d h =
    subst (λ (x : List ℕ). Ran (OfEachRun x c.schema beats start) (kinds_of (result_columns c.schema c.statement)) beats old new r) a (
    subst (λ (x : Schema). Ran (OfEachRun text x beats start) (kinds_of (result_columns c.schema c.statement)) beats old new r) b (
    subst (λ (x : List Kind). Ran (OfEachRun text schema beats start) x beats old new r) (d ∙ is.columns) h))

-- how its dump ended
pub dumped_compiled : (c : Compiled) (beats : Beats) (text : List ℕ) (schema : Schema) (start : Start) (old new : SinkState) (r : Outcome) → text ≡ c.text.items → schema ≡ c.schema
    → Dumped (OfEachPorts text schema beats start) beats old new r → Dumped (OfEachPorts c.text.items c.schema beats start) beats old new r
dumped_compiled c beats text schema start old new r a b h =
    subst (λ (x : List ℕ). Dumped (OfEachPorts x c.schema beats start) beats old new r) a (
    subst (λ (x : Schema). Dumped (OfEachPorts text x beats start) beats old new r) b h)

over : AcceptedHaveRealColumns → (c : Compiled) (schema : Schema) (statement : Statement) → c.schema ≡ schema → c.statement ≡ statement → IsSchema schema → IsCompiled schema statement c → IsRunnable c
over real_columns c schema statement e s fine m =
    let real = real_columns schema (query_shape statement.query) fine m.built.accepted in
    record {
      fine = subst IsSchema (sym e) fine;
      meets = subst (λ (x : Schema). Meets x c.statement c.printed.latency (printed_gaps c.printed) c.text.items) (sym e) (subst (λ (x : Statement). Meets schema x c.printed.latency (printed_gaps c.printed) c.text.items) (sym s) m.meets);
      columns = m.kinds ∙ sym (ap (λ (x : Schema). kinds_of (result_columns x c.statement)) e ∙ ap (λ (x : Statement). kinds_of (result_columns schema x)) s);
      many = omega (arith, ap length m.kinds, length_map (λ (x : Column). x.kind) (result_columns schema statement), real.result.most);
      kinds = subst (AllByRecursion IsKind) (sym m.kinds) (all_kinds (result_columns schema statement) real.kinds);
      short = m.short;
    }

-- what is compiled of texts can be run
pub runnable : AcceptedHaveRealColumns → (text query : List ℕ) (c : Compiled) → IsCompiledText text query c → IsRunnable c
runnable real_columns text query c t = over real_columns c c.schema c.statement refl refl t.schema.schema' t.compiled
