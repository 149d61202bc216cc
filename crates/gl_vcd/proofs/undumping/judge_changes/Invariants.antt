use Rattle.std.proofs.Common.{◌-◌, ◌≤◌, length}
use Rattle.gl_vcd.specs.Reading.{Reading}
use Rattle.gl_vcd.specs.Standing.{IsReady, Keeps}
use Rattle.gl_vcd.proofs.Went.{IsReadTo}
use Rattle.gl_vcd.proofs.undumping.judge_changes.Given as goal

abbrev pub invariant-loop-token : goal.invariant-loop-token
invariant-loop-token l = record {
  inside : l.at ≤ length l.text;
  ready : IsReady l.changing;
  reads : (r : Reading) → Keeps r l.initial.changing → IsReadTo l.text l.from r l.at l.changing;
}

abbrev pub decreases-loop-token : goal.decreases-loop-token
decreases-loop-token l = length l.text - l.at
