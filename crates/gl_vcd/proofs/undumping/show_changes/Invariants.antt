use Rattle.std.proofs.Common.{◌≡◌, ◌-◌, ◌≤◌, length, Ok}
use Rattle.gl_vcd.specs.Lexing.{tokens_behind}
use Rattle.gl_vcd.specs.Reading.{Reading, dump_from}
use Rattle.gl_vcd.specs.Showings.{IsShowing}
use Rattle.gl_vcd.specs.Signals.{Dump}
use Rattle.gl_vcd.specs.Standing.{IsJudged, IsReady, Keeps}
use Rattle.gl_vcd.proofs.Went.{IsShownTo}
use Rattle.gl_vcd.proofs.undumping.show_changes.Given as goal

abbrev pub invariant-loop-token : goal.invariant-loop-token
invariant-loop-token g l = record {
  inside : l.at ≤ length l.text;
  shows : IsShowing l.showing;
  ready : IsReady l.changing;
  same : l.showing.signals ≡ l.changing.signals;
  judged : IsJudged (length l.text) (tokens_behind l.text l.at) l.changing;
  way : (r : Reading) (dump : Dump) → Keeps r l.initial.changing → dump_from (length l.text) (tokens_behind l.text l.from) r ≡ Ok dump
      → IsShownTo (g.K.Sink.state l.initial.out) (g.K.Sink.state l.out) l.text dump l.initial.showing.told r l.at l.showing.told l.changing;
}

abbrev pub decreases-loop-token : goal.decreases-loop-token
decreases-loop-token g l = length l.text - l.at
