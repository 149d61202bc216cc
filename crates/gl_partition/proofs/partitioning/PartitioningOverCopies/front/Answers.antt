use Rattle.std.proofs.Common.{ℕ, ◌<◌, subst}
use Rattle.gl_bits.proofs.AllLists.{length_map}
use Rattle.gl_net.specs.declared.node.Bus.{Bus}
use Rattle.gl_partition.proofs.PartitionNet.{is_fronted}
use Rattle.gl_partition.proofs.partitioning.PartitioningOverCopies.front.Goals as goal

pub put_front-requires-clause-key : goal.put_front-requires-clause-key
put_front-requires-clause-key c = subst (λ (n : ℕ). c.args.self.now.key < n) (length_map (λ (b : Bus). b.width) c.args.source.wire.columns) c.requires.key

pub returns : goal.returns
returns c =
    is_fronted c.args.net.now c.put_front.new.net c.close_line.new.net c.args.self.now c.args.source c.in_ok-front.front c.in_ok-close.close c.stride.result c.cycles-cycles.result c.mark_bits.result
    c.stride.ensures c.cycles-cycles.ensures c.mark_bits.ensures.value c.requires.numbers c.requires.wire c.requires.lines c.requires.key c.in_ok-front.ensures c.in_ok-close.ensures
