use Rattle.std.proofs.Common.{◌∙◌, ap, sym, refl, subst, arith, List, ℕ, Option}
use Rattle.gl_bits.specs.Words.{Word}
use Rattle.gl_tuples.specs.declared.beats.Beat.{Beat}
use Rattle.gl_tuples.specs.Flat.{RowsAdded, beats_in}
use Rattle.gl_tuples.specs.Growing.{Fit, Grown, grown_by}
use Rattle.gl_tuples.proofs.Flats.{beats_pushed}
use Rattle.gl_tuples.proofs.beats.GrowingBeats.push.Goals as goal

pub push_rows-requires-clause-fit : goal.push_rows-requires-clause-fit
push_rows-requires-clause-fit c =
    let columns = ap (λ (g : Grown). g.columns) c.self.view_is in
    subst (λ (rows : List (Option (List Word))). Fit c.as_slice.result.now rows) (sym c.as_slice-rows.ensures)
    (subst (λ (shape : List (List ℕ)). Fit shape c.args.beat.now.rows) (sym (c.as_slice.ensures ∙ columns)) c.requires)

pub returns : goal.returns
returns c =
    let shape = c.self.inside.shape in
    let old = c.self.inside.numbers.items in
    let new = c.push_rows.new.numbers.items in
    let present = c.in_ok-present.present in
    let beat = c.args.beat.now in
    let added = subst (λ (sh : List (List ℕ)). RowsAdded sh beat.rows old new present) c.as_slice.ensures
    (subst (λ (rows : List (Option (List Word))). RowsAdded c.as_slice.result.now rows old new present) c.as_slice-rows.ensures c.in_ok-present.ensures.added) in
    let beats = ap (beats_in shape new) c.in_ok-push.ensures.items
    ∙ beats_pushed shape beat old new c.self.inside.heads.items _ c.self.invariant.2 (omega (arith, c.in_ok-first.ensures, c.len.ensures, c.self.inside.numbers.ok.0)) added refl c.in_ok-number.ensures refl refl in
    ap (λ (bs : List Beat). record { columns = shape; beats = bs }) beats ∙ ap (λ (g : Grown). grown_by g beat) c.self.view_is
