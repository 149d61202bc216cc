-- The compiled query of the load, run, and what is told of its runs.
use Rattle.std.proofs.Common.{◌≡◌, ◌↔◌, ℕ, ◌≤◌, List, [], ◌∷◌, Some, Result, Ok, Err, refl, sym, ap, subst, ◌∙◌}
use Rattle.std.specs.Prelude.{IfOk, IsOk}
use Rattle.gl_values.specs.declared.kind.Kind.{Kind}
use Rattle.gl_values.specs.declared.kind.Kind.TheVariants.{Unsigned}
use Rattle.gl_gaps.specs.declared.Gaps.{Gaps}
use Rattle.gl_schema.specs.declared.schema.Schema.{Schema}
use Rattle.gl_schema.specs.Schemas.{kinds_of}
use Rattle.gl_schema.specs.Beats.{Beats, inputs_of}
use Rattle.gl_gaps.specs.Keeps.{KeepsGaps}
use Rattle.gl_schema.specs.Ports.{PortValues}
use Rattle.gl_schema.specs.Right.{IsRight}
use Rattle.gl_schema.specs.Seen.{lines, rows_of, seen, shown}
use Rattle.gl_query.specs.declared.tree.Statement.{Statement}
use Rattle.gl_query.specs.Alike.{query_alike}
use Rattle.gl_query.specs.Results.{IsResult, env_of}
use Rattle.gl_query.specs.Shapes.{query_shape}
use Rattle.gl_verilog.specs.Module.{Module}
use Rattle.gl_verilog.specs.Run.{port_of}
use Rattle.gl_verilog.specs.Text.{HasModule}
use Rattle.gl_verilog.specs.declared.start.Start.TheVariants.{Zero}
use Rattle.gl_verilog_ports.specs.Profile.{result_names}
use Rattle.gl_compiler.specs.declared.compiling.Compiled.{Compiled}
use Rattle.gl_runner.specs.declared.executing.Outcome.TheVariants.{Done}
use Rattle.gl_compiler.specs.Below.{LawsBelow}
use Rattle.gl_compiler.specs.Built.{gaps_of, latency_of}
use Rattle.gl_compiler.specs.Meets.{result_columns}
use Rattle.gl_compiler.specs.Queries.{IsQuery}
use Rattle.gl_runner.specs.Prints.{AreLinesOf, IsRunOver, OfEachRun, Ran, Writes}
use Rattle.gl_load.specs.Query.{load_schema, query_text}
use Rattle.gl_load.specs.Loads.{IsLoad, TellsRun}
use Rattle.gl_load.specs.Steps.{AreRunLines, IsCompiledLoad, Kept, kept_state}
use Rattle.gl_load.specs.Told as spec
use Rattle.gl_load.specs.Tuples.{load_beats}
use Rattle.gl_load.specs.Tallies.{summary_of}
use Rattle.gl_load.proofs.Beating.{are_beats, keep_gaps}
use Rattle.gl_load.proofs.Compiling.{gaps_are, meets_load, query_is}
use Rattle.gl_load.proofs.Constants.{load_tree}
use Rattle.gl_load.proofs.Counting.{are_counted, are_numbers}
use Rattle.gl_load.proofs.Telling.{told_seen}

-- the sink was empty before, and has the lines now
pub ran_load : (c : Compiled) (beats : Beats) (old new : Kept) → IsCompiledLoad c → old.bytes ≡ []
    → Ran (OfEachRun c.text.items c.schema beats Zero) (kinds_of (result_columns c.schema c.statement)) beats (kept_state old) (kept_state new) Done → AreRunLines c beats new.bytes
ran_load c beats old new is none h = λ m value word has over.
    let w = all m value word has over in
    let e : Some new.bytes ≡ Some w.bytes = w.taken in
    (w.bytes, w.are, cc)
  where
    all : OfEachRun c.text.items load_schema beats Zero (λ outs port. Writes (kinds_of (result_columns load_schema c.statement)) beats outs port (Some []) (Some new.bytes))
    all =
        subst (λ (s : Schema). OfEachRun c.text.items s beats Zero (λ outs port. Writes (kinds_of (result_columns s c.statement)) beats outs port (Some []) (Some new.bytes))) is.schema (
        subst (λ (x : List ℕ). OfEachRun c.text.items c.schema beats Zero (λ outs port. Writes (kinds_of (result_columns c.schema c.statement)) beats outs port (Some x) (Some new.bytes))) none h.1)

-- what holds of the sink of a run that came to its end
pub where_ended : {E D : Type 0} (P : Kept → Type 0) (r : Result Kept E) (sink : Kept) → (IsOk r ↔ D) → IfOk r (λ kept. kept ≡ sink) → (D → P sink) → IfOk r P
where_ended P (Ok kept) sink done same h = subst P (sym same) (h (done.0 refl))
where_ended P (Err e) sink done same h = tt

-- ---- what is told of the lines is told of each run

-- a text has one module
abbrev pub HasOne : List ℕ → Type 0
HasOne text = (m n : Module) → HasModule text m → HasModule text n → m ≡ n

-- each run is right
right_of : LawsBelow → (count : ℕ) (c : Compiled) → 1 ≤ count → HasOne c.text.items → IsCompiledLoad c
    → OfEachRun c.text.items load_schema (load_beats count) Zero (IsRight (IsResult load_schema c.statement) (latency_of load_schema c.statement) (load_beats count))
right_of laws count c some one is m value word has over =
    let beats = load_beats count in
    let meets = meets_load c is in
    let same : m ≡ meets.design = one m meets.design has meets.has in
    let run : IsRunOver meets.design load_schema beats Zero value word = subst (λ (x : Module). IsRunOver x load_schema beats Zero value word) same over in
    let near : KeepsGaps (gaps_of load_schema c.statement) beats = subst (λ (g : Gaps). KeepsGaps g beats) (sym (gaps_are laws c.statement is.made.query'.has)) (keep_gaps count) in
    subst (λ (x : Module). IsRight (IsResult load_schema c.statement) (latency_of load_schema c.statement) beats (result_names x) (port_of x value)) (sym same)
    (meets.right beats value word (record { are = are_beats count some; keep = near; run = run.run; stimulus = run.stimulus }))

-- of the end's cycle there is one, so what is seen up to it is the result
tells_run : (count : ℕ) (s : Statement) (latency : ℕ) (outs : List (List ℕ)) (port : PortValues) (bytes summary : List ℕ) → query_shape s.query ≡ query_alike load_tree.query
    → IsRight (IsResult load_schema s) latency (load_beats count) outs port → AreLinesOf (kinds_of (result_columns load_schema s)) (load_beats count) outs port bytes
    → summary ≡ summary_of count bytes → TellsRun s count summary outs port
tells_run count s latency outs port bytes summary query right are told =
    let n = are.ended in
    let same : right.ended ≡ n = sym (right.once n are.is.ends) in
    let result : IsResult load_schema s (inputs_of (load_beats count)) (rows_of (seen port outs n)) (shown port outs n).group =
    subst (λ (k : ℕ). IsResult load_schema s (inputs_of (load_beats count)) (rows_of (seen port outs k)) (shown port outs k).group) same right.meets
    in
    let numbers = are_numbers (query_shape s.query) query in
    let counted = are_counted (query_shape s.query) (env_of load_schema (inputs_of (load_beats count))) (rows_of (seen port outs n)) (shown port outs n).group query result in
    record {
      ended = n;
      is = are.is;
      result = result;
      told = told ∙ ap (summary_of count) are.all
          ∙ subst (λ (ks : List Kind). summary_of count (lines ks (seen port outs n)) ≡ spec.summary_of count ks (seen port outs n) n) (sym numbers) (told_seen 32 32 (Unsigned 32 ∷ []) tt count outs port n are.is.ends counted);
    }

pub loaded : LawsBelow → (count : ℕ) (c : Compiled) (lines kept summary : List ℕ) → 1 ≤ count → HasOne c.text.items → IsCompiledLoad c → AreRunLines c (load_beats count) kept → lines ≡ kept → summary ≡ summary_of count lines → IsLoad count summary c.text.items
loaded laws count c lines kept summary some one is run same told = record {
  statement = c.statement;
  query' = subst (λ (x : Schema). IsQuery x query_text c.statement) is.schema is.made.query';
  meets = meets_load c is;
  told = λ m value word has over.
      let r = run m value word has over in
      tells_run count c.statement (latency_of load_schema c.statement) (result_names m) (port_of m value) r.0 summary (query_is laws c.statement is.made.query'.has) (right_of laws count c some one is m value word has over) r.1 (told ∙ ap (summary_of count) (same ∙ r.2));
}
