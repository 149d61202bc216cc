use Rattle.std.proofs.Common.{rules, sym}
use Rattle.gl_tuples.specs.Values.{number_of}
use Rattle.gl_values.proofs.KindLemmas.{kind_some, range_below}
use Rattle.gl_tuples.proofs.Numbers.{in_range_fits, none_fits, past_range_fits, word_made}
use Rattle.gl_tuples.proofs.value.plain_word.Goals as goal

pub returns-in_err-number : goal.returns-in_err-number
returns-in_err-number c =
    let h = none_fits c.args.kind (number_of c.args.digits.now) in
    search rules

pub returns-then-has_number : goal.returns-then-has_number
returns-then-has_number c =
    let x = c.in_ok-number.number in
    let some = kind_some c.args.kind c.requires in
    let below = range_below c.args.kind x (sym c.if-has_number.ensures) in
    let made = word_made c.new.result x c.width.result c.new.ensures.given c.new.ensures.bits c.new.ensures.width in
    let fits = in_range_fits c.args.kind (number_of c.args.digits.now) x c.requires in
    search rules

pub returns-else-has_number : goal.returns-else-has_number
returns-else-has_number c =
    past_range_fits c.args.kind (number_of c.args.digits.now) c.in_ok-number.number c.requires c.in_ok-number.ensures c.if-has_number.ensures
