use Rattle.gl_algebra.specs.Shapes.{kinds_of}
use Rattle.gl_wire.proofs.CountLemmas.{narrow_kinds}
use Rattle.gl_wiring.proofs.TableLemmas.{is_there, taken_gives}
use Rattle.gl_wiring.proofs.apart.put_source.Goals as goal

pub circuit_at-requires : goal.circuit_at-requires
circuit_at-requires c = is_there c.requires.there

pub put_apart-requires-clause-sound : goal.put_apart-requires-clause-sound
put_apart-requires-clause-sound c = rw c.figures_at.ensures.value (c.laws_below.ensures.figures_are_sound c.args.site.plan.now c.args.source c.args.site.planned c.requires.within)

pub put_apart-requires-clause-wire : goal.put_apart-requires-clause-wire
put_apart-requires-clause-wire c = (taken_gives c.requires.there c.in_ok-below.ensures).wire

pub put_apart-requires-clause-lines : goal.put_apart-requires-clause-lines
put_apart-requires-clause-lines c = (taken_gives c.requires.there c.in_ok-below.ensures).lines

pub put_apart-requires-clause-narrow : goal.put_apart-requires-clause-narrow
put_apart-requires-clause-narrow c =
    rw (taken_gives c.requires.there c.in_ok-below.ensures).same_widths (narrow_kinds (kinds_of c.args.site.plan.now c.args.source)
    (c.laws_below.ensures.columns_have_kinds c.args.site.plan.now c.args.source c.args.site.planned c.requires.within))

pub returns : goal.returns
returns c = record {
  below = c.in_ok-below.below;
  gives = taken_gives c.requires.there c.in_ok-below.ensures;
  spaced' = rw c.figures_at.ensures.value at c.in_ok-e.ensures;
}
