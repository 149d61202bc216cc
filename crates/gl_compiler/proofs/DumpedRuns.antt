-- The dump of a run of a text that meets a statement is read back as a dump of that run, and shows its lines.
use Rattle.std.proofs.Common.{◌≡◌, ℕ, ◌+◌, ◌≤◌, true, List, sym, subst, arith, inl, inr, ◌∙◌}
use Rattle.std.proofs.lemmas.Bool.{cases_lt}
use Rattle.gl_bits.specs.Limits.{latest_time}
use Rattle.gl_bits.proofs.Bools.{not_both}
use Rattle.gl_gaps.specs.declared.Gaps.{Gaps}
use Rattle.gl_schema.specs.declared.schema.Schema.{Schema}
use Rattle.gl_schema.specs.Beats.{Beats, AreBeats, last_cycle}
use Rattle.gl_gaps.specs.Keeps.{KeepsGaps}
use Rattle.gl_schema.specs.Schemas.{IsSchema}
use Rattle.gl_schema.specs.Seen.{shown}
use Rattle.gl_query.specs.declared.tree.Statement.{Statement}
use Rattle.gl_query.specs.Laws.{AcceptedHaveRealColumns}
use Rattle.gl_verilog.specs.Module.{Module, Nets, Memories}
use Rattle.gl_verilog.specs.Run.{port_of}
use Rattle.gl_verilog.specs.Text.{HasModule}
use Rattle.gl_verilog.specs.Events.{IsEventRun}
use Rattle.gl_verilog.specs.declared.start.Start.{Start}
use Rattle.gl_verilog.proofs.EventRuns.{is_run}
use Rattle.gl_verilog_ports.specs.Profile.{HasProfile, result_names}
use Rattle.gl_vcd.specs.RoundTrip.{DumpsReadBack}
use Rattle.gl_vcd.specs.Written.{dump_text, ports_of}
use Rattle.gl_testbench.specs.Driven.{Drives}
use Rattle.gl_compiler.specs.Meets.{Meets, result_columns, takes_ticks}
use Rattle.gl_runner.specs.Prints.{IsEnd, IsRunOver}
use Rattle.gl_runner.specs.Watches.{rows_to}
use Rattle.gl_compiler.specs.Dumpable.{DumpsTell, TellsRun}
use Rattle.gl_compiler.proofs.Dumpable.{OneModule, dumpable_where_met}
use Rattle.gl_compiler.proofs.DumpLines.{lines_are}
use Rattle.gl_compiler.proofs.ReadBack.{read_rows, with_clock}

module _ (real_columns : AcceptedHaveRealColumns) (one_module : OneModule) (reads_back : DumpsReadBack) (schema : Schema) (statement : Statement) (latency : ℕ) (gaps : Gaps) (text : List ℕ) (fine : IsSchema schema) (meets : Meets schema statement latency gaps text) where
  -- the module has the statement's profile
  faced : (m : Module) → HasModule text m → HasProfile (takes_ticks statement) m schema (result_columns schema statement)
  faced m has = subst (λ (x : Module). HasProfile (takes_ticks statement) x schema (result_columns schema statement)) (one_module text meets.design m meets.has has) meets.face

  -- up to each cycle that a dump has room for
  tells_run : (m : Module) (value : ℕ → Nets) (word : ℕ → Memories) (n : ℕ) → HasModule text m → IsEventRun m value word → n + 1 ≤ latest_time
      → TellsRun m (port_of m value) n (dump_text m.name (ports_of m) (rows_to (ports_of m) (port_of m value) n))
  tells_run m value word n has run short =
      let bytes = dump_text m.name (ports_of m) (rows_to (ports_of m) (port_of m value) n) in
      let back = read_rows m value reads_back word (dumpable_where_met real_columns one_module schema statement latency gaps text m fine meets has) has.valid.names (is_run m has.valid value word run).fits n short in
      record {
        dumped = with_clock m value bytes (n + 1) back.dumped;
        shows = record {
          dump = back.shows.dump;
          reads = back.shows.reads;
          is = back.shows.is ∙ lines_are (takes_ticks statement) m schema (result_columns schema statement) has.valid.names (faced m has) (port_of m value) n;
        };
      }

  -- the end is seen within the latency
  ends_by : (beats : Beats) (start : Start) (m : Module) (value : ℕ → Nets) (word : ℕ → Memories) (n : ℕ) → AreBeats schema beats → KeepsGaps gaps beats → HasModule text m
      → IsRunOver m schema beats start value word → IsEnd beats (result_names m) (port_of m value) n → n ≤ last_cycle beats + latency
  ends_by beats start m value word n are keeps has over end =
      let same : meets.design ≡ m = one_module text meets.design m meets.has has in
      let drives : Drives m schema gaps beats value word = record { are = are; keep = keeps; run = over.run; stimulus = over.stimulus } in
      let right = meets.right beats value word (subst (λ (x : Module). Drives x schema gaps beats value word) (sym same) drives) in
      let seen_there = subst (λ (x : Module). (shown (port_of x value) (result_names x) right.ended).end ≡ true) same right.ends in
      elim (cases_lt right.ended n) [
        | inl later ↦ absurd (not_both (shown (port_of m value) (result_names m) right.ended).end seen_there (end.first right.ended right.soonest later))
        | inr by ↦ omega (arith, by, right.in_time)
      ]

-- so up to its end, where that comes in time
pub dumps_tell : AcceptedHaveRealColumns → OneModule → DumpsReadBack → DumpsTell
dumps_tell real_columns one_module reads_back schema statement latency gaps text beats start fine meets are keeps short = λ m value word has over bytes dump.
    let by = ends_by real_columns one_module reads_back schema statement latency gaps text fine meets beats start m value word dump.ended are keeps has over dump.is in
    subst (λ (x : List ℕ). TellsRun m (port_of m value) dump.ended x) (sym dump.all) (tells_run real_columns one_module reads_back schema statement latency gaps text fine meets m value word dump.ended has over.run (omega (arith, by, short)))
