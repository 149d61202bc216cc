use Rattle.std.proofs.Common.{Bor, List, ℕ, ◌∙◌, ap, length, sym, subst, refl, arith, inl, inr, Some, Ok, ◌++◌, ◌∷◌, []}
use Rattle.std.proofs.lemmas.Result.{err_from_is_err_and}
use Rattle.std.proofs.lemmas.List.{length-append}
use Rattle.csv.specs.Reading.{Reached, default_config, strip_bom}
use Rattle.csv.specs.Records.{fields_of}
use Rattle.csv.specs.declared.parser.State.TheVariants as st
use Rattle.csv.proofs.ReadFacts.{rows-end, rows-more}
use Rattle.gl_tuple_reader.specs.Entries.{Fails, Gives}
use Rattle.gl_tuple_reader.specs.Filing.{CurrentFit}
use Rattle.gl_tuple_reader.specs.Settings.{no_progress, beats_of}
use Rattle.gl_tuple_reader.proofs.Texts.{begins, are_all, rows_counted}
use Rattle.gl_tuple_reader.proofs.Columns.{shape_long}
use Rattle.gl_tuple_reader.proofs.Steps.{stays, progress_more, progress_fails, all_taken}
use Rattle.gl_tuple_reader.proofs.reading.read.Goals as goal

pub loop-fields-init : goal.loop-fields-init
unfolding Reached
loop-fields-init c =
    let fr = c.from_reader-reader.ensures in
    let start = c.into_iter-fields-iterator.ensures.into_iter_gives ∙ refl in
    let rdr = c.into_byte_records-fields-items.ensures.rdr in
    let left = c.into_byte_records-fields-items.ensures.left in
    rw (start, rdr) (
      rw (c.flexible.ensures, c.has_headers.ensures) at fr.trim ∙ c.new.ensures.trim,
      inr (inr (rw (c.flexible.ensures, c.has_headers.ensures) at fr.has_headers, fr.headers)),
      left,
      rw (c.flexible.ensures, c.has_headers.ensures) at fr.config ∙ c.new.ensures.config,
      strip_bom c.args.text.now,
      fr.source,
      [],
      (sym fr.state, refl),
      ap Ok (sym c.requires.empty),
    )

pub take-requires-clause-counted : goal.take-requires-clause-counted
take-requires-clause-counted c =
    let inv = c.loop-fields.invariant in
    let s = rw (c.in-Some.is, c.in-Ok.is) at ((c.next.ensures.steps inv.2 inv.0).0 inv.1) in
    let m = rows-more (λ (s : Bor (List ℕ)). Some s.now) c.loop-fields.fields-iterator.rdr c.next.new.self.rdr (fields_of c.in-Ok.fields) default_config st.StartRecord (strip_bom c.args.text.now) inv.4 inv.6 inv.3 inv.5 inv.7 s.0 in
    let counted = rows_counted c.args.text.now (inv.6 ++ fields_of c.in-Ok.fields ∷ []) c.next.new.self.rdr.state m.0 m.2 in
    omega (arith, counted, length-append inv.6 (fields_of c.in-Ok.fields ∷ []), (stays c.args.schema.now inv.6 c.loop-fields.progress inv.8).counted)

pub take-requires-clause-columns : goal.take-requires-clause-columns
take-requires-clause-columns c = let inv = c.loop-fields.invariant in (stays c.args.schema.now inv.6 c.loop-fields.progress inv.8).columns

pub take-requires-clause-rows : goal.take-requires-clause-rows
take-requires-clause-rows c =
    let inv = c.loop-fields.invariant in
    let st = stays c.args.schema.now inv.6 c.loop-fields.progress inv.8 in
    subst (λ (columns : List (List ℕ)). CurrentFit columns c.loop-fields.progress.filing.current) (sym st.columns) st.rows

pub take-requires-clause-sets : goal.take-requires-clause-sets
take-requires-clause-sets c = let inv = c.loop-fields.invariant in (stays c.args.schema.now inv.6 c.loop-fields.progress inv.8).long

pub end-requires-clause-counted : goal.end-requires-clause-counted
end-requires-clause-counted c =
    let inv = c.loop-fields.invariant in
    let counted = rows_counted c.args.text.now inv.6 c.loop-fields.fields-iterator.rdr.state inv.4 inv.7 in
    omega (arith, counted, (stays c.args.schema.now inv.6 c.loop-fields.progress inv.8).counted)

pub end-requires-clause-many : goal.end-requires-clause-many
end-requires-clause-many c = let inv = c.loop-fields.invariant in
    shape_long c.args.schema.now ∙ ap length (sym (stays c.args.schema.now inv.6 c.loop-fields.progress inv.8).columns)

pub end-requires-clause-rows : goal.end-requires-clause-rows
end-requires-clause-rows c =
    let inv = c.loop-fields.invariant in
    let st = stays c.args.schema.now inv.6 c.loop-fields.progress inv.8 in
    subst (λ (columns : List (List ℕ)). CurrentFit columns c.loop-fields.progress.filing.current) (sym st.columns) st.rows

pub returns-in_err-progress : goal.returns-in_err-progress
returns-in_err-progress c =
    let inv = c.loop-fields.invariant in
    let s = rw (c.in-Some.is, c.in-Ok.is) at ((c.next.ensures.steps inv.2 inv.0).0 inv.1) in
    let m = rows-more (λ (s : Bor (List ℕ)). Some s.now) c.loop-fields.fields-iterator.rdr c.next.new.self.rdr (fields_of c.in-Ok.fields) default_config st.StartRecord (strip_bom c.args.text.now) inv.4 inv.6 inv.3 inv.5 inv.7 s.0 in
    let first = begins c.args.text.now (inv.6 ++ fields_of c.in-Ok.fields ∷ []) c.next.new.self.rdr.state m.0 m.2 in
    let failed = subst (λ (rs : List (List (List ℕ))). Fails c.in_err-progress.field-0.0 (beats_of c.args.schema.now rs)) (sym first.1) (progress_fails c.args.schema.now inv.6 first.0 (fields_of c.in-Ok.fields) c.loop-fields.progress c.in_err-progress.field-0.0 inv.8 c.in_err-progress.ensures) in
    let p = err_from_is_err_and c.from_residual.result c.from_residual.ensures.1 in rw (p.1, p.2) failed

pub loop-fields-preserved : goal.loop-fields-preserved
loop-fields-preserved c =
    let inv = c.loop-fields.invariant in
    let s = rw (c.in-Some.is, c.in-Ok.is) at ((c.next.ensures.steps inv.2 inv.0).0 inv.1) in
    let m = rows-more (λ (s : Bor (List ℕ)). Some s.now) c.loop-fields.fields-iterator.rdr c.next.new.self.rdr (fields_of c.in-Ok.fields) default_config st.StartRecord (strip_bom c.args.text.now) inv.4 inv.6 inv.3 inv.5 inv.7 s.0 in
    (s.0.3 ∙ inv.0, inl s.1, s.2, s.0.2 ∙ inv.3, m.0, m.1, inv.6 ++ fields_of c.in-Ok.fields ∷ [], m.2, progress_more c.args.schema.now inv.6 (fields_of c.in-Ok.fields) (no_progress c.args.schema.now) c.loop-fields.progress c.in_ok-progress.progress inv.8 c.in_ok-progress.ensures)

pub returns : goal.returns
returns c =
    let inv = c.loop-fields.invariant in
    let s = rw c.in-None.is at ((c.next.ensures.steps inv.2 inv.0).0 inv.1) in
    let none = rows-end (λ (s : Bor (List ℕ)). Some s.now) c.loop-fields.fields-iterator.rdr c.next.new.self.rdr [] default_config inv.4 inv.3 inv.5 s in
    let all = ap (beats_of c.args.schema.now) (are_all c.args.text.now inv.6 c.loop-fields.fields-iterator.rdr.state inv.4 inv.7 none) ∙ all_taken c.args.schema.now inv.6 c.loop-fields.progress inv.8 in
    subst (Gives c.end.result) (sym all) c.end.ensures
