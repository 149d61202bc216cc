use Rattle.std.proofs.Common.{ℕ, List, ◌∙◌, ap, sym, subst}
use Rattle.gl_schema.specs.Schemas.{IsSchema}
use Rattle.gl_tuples.specs.Growing.{Fit, Grown}
use Rattle.gl_load.proofs.Beating.{more_beats}
use Rattle.gl_load.proofs.Constants.{is_schema}
use Rattle.gl_load.proofs.tuples.load_beats.Goals as goal

pub new-requires : goal.new-requires
new-requires c = subst IsSchema (sym c.requires) is_schema

pub push-requires : goal.push-requires
push-requires c =
    subst (λ (columns : List (List ℕ)). Fit columns c.in_ok-load_beat.field-0.rows) (sym c.loop-index.invariant.columns) c.in_ok-load_beat.ensures.fits

pub loop-index-preserved : goal.loop-index-preserved
loop-index-preserved c = record {
  plain = more_beats c.args.count c.loop-index.index c.loop-index.beats.beats c.push.new.self.beats c.in_ok-load_beat.field-0 c.loop-index.invariant.plain c.in_ok-load_beat.ensures.plain (ap (λ (g : Grown). g.beats) c.in_ok-push.ensures);
  columns = ap (λ (g : Grown). g.columns) c.in_ok-push.ensures ∙ c.loop-index.invariant.columns;
}
