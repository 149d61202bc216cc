use Rattle.std.proofs.Common.{◌≤◌, ◌-◌, vec_len}
use Rattle.gl_outside.specs.States.{IsCalm, Stays}
use Rattle.gl_outside.proofs.Readings.{IsFrontOf}
use Rattle.gl_outside.proofs.reading.read_into.Given as goal

abbrev pub invariant-loop-n : goal.invariant-loop-n
invariant-loop-n g l = record {
  front : IsFrontOf ((g.S.Shelf.state l.initial.shelf).told l.name) l.text.items;
  size : vec_len l.text ≤ 67108864;
  calm : IsCalm (g.S.Shelf.state l.initial.shelf) (g.S.Shelf.state l.shelf);
  stays : Stays (g.S.Shelf.state l.initial.shelf) (g.S.Shelf.state l.shelf);
}

abbrev pub decreases-loop-n : goal.decreases-loop-n
decreases-loop-n g l = 67108864 - vec_len l.text
