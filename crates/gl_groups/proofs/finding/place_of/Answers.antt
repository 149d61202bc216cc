use Rattle.std.proofs.Common.{List, subst, sym}
use Rattle.gl_net.specs.declared.node.Bus.{Bus}
use Rattle.gl_net.specs.declared.node.Bit.{Bit}
use Rattle.gl_wire_registers.specs.Lines.{AreBits}
use Rattle.gl_wire_registers.proofs.LineLemmas.{bits_kept}
use Rattle.gl_groups.specs.Finding.{AddsPlace}
use Rattle.gl_groups.proofs.finding.place_of.Goals as goal

pub numbers-requires-clause-width : goal.numbers-requires-clause-width
numbers-requires-clause-width c = c.requires.base.width

pub find_place-requires-clause-hits : goal.find_place-requires-clause-hits
find_place-requires-clause-hits c =
    subst (λ (bs : List Bit). AreBits c.numbers.new.net bs) (sym c.as_slice.ensures) (bits_kept c.args.net.now c.numbers.new.net c.args.hits.now c.in_ok-places.ensures.keeps c.requires.hits)

pub returns : goal.returns
returns c = record {
  mid = c.numbers.new.net;
  numbers = c.in_ok-places.places;
  counts = c.in_ok-places.ensures;
  place = subst (λ (bs : List Bus). AddsPlace c.numbers.new.net c.find_place.new.net c.args.choice.one c.args.choice.moved c.args.hits.now c.args.choice.base bs c.in_ok-place.place) c.as_slice-2.ensures
      (subst (λ (bs : List Bit). AddsPlace c.numbers.new.net c.find_place.new.net c.args.choice.one c.args.choice.moved bs c.args.choice.base c.as_slice-2.result.now c.in_ok-place.place) c.as_slice.ensures c.in_ok-place.ensures);
}
