use Rattle.std.proofs.Common.{sym, ◌∙◌}
use Rattle.gl_wire.proofs.ColumnLemmas.{bit_kept}
use Rattle.gl_wire.proofs.FaultLemmas.{lines_kept}
use Rattle.gl_wiring.proofs.LaneLemmas.{gathered_put}
use Rattle.gl_wiring.proofs.groups.GroupOf.gather.Goals as goal

pub gather-requires-clause-keys_count : goal.gather-requires-clause-keys_count
gather-requires-clause-keys_count c = rw c.grouping-grouping.ensures.value c.requires.lane.keys_count

pub gather-requires-clause-nexts_count : goal.gather-requires-clause-nexts_count
gather-requires-clause-nexts_count c = rw c.grouping-grouping.ensures.value c.requires.lane.nexts_count

pub gather-requires-clause-slot_width : goal.gather-requires-clause-slot_width
gather-requires-clause-slot_width c = rw c.grouping-grouping.ensures.value c.requires.slot_width

pub both_faults-requires-clause-left : goal.both_faults-requires-clause-left
both_faults-requires-clause-left c = lines_kept c.args.net.now c.gather.new.net c.args.laned.now.source.faults c.in_ok-wire.ensures.keeps c.requires.lane.lines

pub both_faults-requires-clause-right : goal.both_faults-requires-clause-right
both_faults-requires-clause-right c = record {
  passed = tt;
  further = bit_kept c.args.net.now c.gather.new.net c.args.laned.now.lane.further c.in_ok-wire.ensures.keeps c.requires.lane.further;
}

pub returns : goal.returns
returns c = λ old mid tick leaves is direct t.
    gathered_put c.laws_below.ensures c.args.site.plan.now c.args.self.now c.args.site.planned c.requires.node old mid c.args.net.now c.gather.new.net c.both_faults.new.net tick leaves
    c.args.laned.now c.args.out.now c.in_ok-wire.wire c.in_ok-faults.faults is direct t
    c.stores-stored.result (λ e. sym (c.stores-stored.ensures t.child t.aggs t.at) ∙ e) (rw c.grouping-grouping.ensures.value at c.in_ok-wire.ensures) c.in_ok-faults.ensures
