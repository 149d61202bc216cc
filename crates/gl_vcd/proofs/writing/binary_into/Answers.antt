use Rattle.std.proofs.Common.{◌<◌, length, arith, rules}
use Rattle.gl_vcd.specs.Written.{binary}
use Rattle.gl_vcd.proofs.Digits.{digit_first, digit_put, digits_first, half_fits, room_left}
use Rattle.gl_vcd.proofs.writing.binary_into.Goals as goal

pub loop-rest-init : goal.loop-rest-init
loop-rest-init c = record {
  room = omega arith;
  long = c.told-into;
  small = c.ranges.value.fits;
  written = digits_first c.args.value c.args.into.now c.told-into;
}

pub overflow_sub-at : goal.overflow_sub-at
overflow_sub-at c = room_left c.loop-rest.at c.loop-rest.rest c.loop-rest-test.true c.loop-rest.invariant.small

pub loop-rest-smaller : goal.loop-rest-smaller
loop-rest-smaller c =
    let room = room_left c.loop-rest.at c.loop-rest.rest c.loop-rest-test.true c.loop-rest.invariant.small in omega (arith, room)

pub loop-rest-preserved : goal.loop-rest-preserved
loop-rest-preserved c =
    let i = c.loop-rest.invariant in
    let room = room_left c.loop-rest.at c.loop-rest.rest c.loop-rest-test.true i.small in
    let inside : c.loop-rest.at < length c.loop-rest.into = omega (arith, i.room, i.long) in
    record {
      room = omega (arith, i.room);
      long = search (rules, i.long);
      small = half_fits c.loop-rest.at c.loop-rest.rest room i.small;
      written = digit_put c.loop-rest.at c.loop-rest.rest c.loop-rest.into (binary c.args.value) inside room c.loop-rest-test.true i.written;
    }

pub returns-clause-written : goal.returns-clause-written
returns-clause-written c =
    let i = c.loop-rest.invariant in
    digit_first c.loop-rest.at c.loop-rest.rest c.loop-rest.into (binary c.args.value) (omega (arith, i.room, i.long)) (omega (arith, c.loop-rest-test.false)) i.written
