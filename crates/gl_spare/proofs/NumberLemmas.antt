-- The spare copies that windows have make a rotation that suits their source.
use Rattle.std.proofs.Common.{sym, subst, arith}
use Rattle.gl_algebra.specs.FigureTable.{stride_of}
use Rattle.gl_wire.proofs.NumberLemmas.{all_turns}
use Rattle.gl_algebra.specs.declared.figures.Spare.{Spare}
use Rattle.gl_algebra.specs.Spares.{IsSpare}
use Rattle.gl_figures.proofs.SpareLemmas.{spare_is, spare_numbers_suffice}
use Rattle.gl_spare.specs.Laws.{SparesRotate}
use Rattle.gl_spare.specs.Rotations.{Suits, turns_in}

pub spares_rotate : SparesRotate
spares_rotate r f sound_f sound closing rows step is =
    let has = spare_is r.size r.advance f r.body r.spare is in
    let numbers = spare_numbers_suffice f r.body r.size r.advance sound_f has.1.at_once rows step in
    let suits : Suits r f =
    subst (λ (it : Spare). IsSpare f r.body r.size r.advance (turns_in r) it.copies it.gap it.shift) (sym has.0) numbers.are in
    let turns = all_turns (turns_in r) (stride_of r.body) suits.turns_some in
    let soon = has.1.soon in (
      record {
        rows = rows;
        step = step;
        a_copy = omega (arith, suits.turns_some, suits.enough);
        sound = sound;
        closing = closing;
        timed = omega (arith, soon, turns, sound.tuples_last, sound.end_last);
        wide = omega (arith, soon, sound.tuples_last, sound.end_last);
      },
      suits,
    )
