use Rattle.std.proofs.Common.{rules}
use Rattle.gl_bits.proofs.AllLists.{taken_next}
use Rattle.gl_wiring.specs.Emitted.{IsSourceOf}
use Rattle.gl_wiring.proofs.Inputs.{extends_then}
use Rattle.gl_wiring.proofs.OutputLemmas.{nothing_more, nothing_then}
use Rattle.gl_wiring.proofs.Shapes.{puts_nothing, streams_next}
use Rattle.gl_wiring.proofs.StreamLemmas.{sources_push}
use Rattle.gl_wiring.proofs.leaves.put_sources.Goals as goal

pub loop-stream-init : goal.loop-stream-init
loop-stream-init c = record {
  extends = search rules;
  ports = puts_nothing c.args.net.now;
  cost = nothing_more c.args.net.now;
  sources = search rules;
}

pub loop-stream-preserved : goal.loop-stream-preserved
loop-stream-preserved c =
    let e = c.in_ok-source.ensures in
    let inv = c.loop-stream.invariant in
    let old = c.args.net.now in
    let mid = c.loop-stream.net in
    let net = c.put_stream.new.net in
    let ss = c.args.streams.now in
    let i = c.loop-stream.stream-index in
    let s = c.stream-item.result in
    let is : IsSourceOf net s c.in_ok-source.source = record { port = e.port; bus = e.bus; bit = e.bit; inputs = e.inputs; widths = e.widths } in
    record {
      extends = extends_then old mid net inv.extends e.extends;
      ports = streams_next old mid net ss i s c.loop-stream-test.true c.stream-item.is inv.ports e.ports;
      cost = nothing_then old mid net inv.cost e.cost;
      sources = rw (taken_next ss i s c.loop-stream-test.true c.stream-item.is, c.in_ok-push.ensures.items) (sources_push mid net _ _ s _ e.extends inv.sources is);
    }
