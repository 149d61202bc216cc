use Rattle.std.proofs.Common.{rules}
use Rattle.std.specs.Prelude.{neg_ℤ, pos}
use Rattle.gl_tuples.specs.Values.{number_of}
use Rattle.gl_values.specs.Kinds.{width_of}
use Rattle.gl_values.proofs.KindLemmas.{kind_some}
use Rattle.gl_values.proofs.Signs.{word_fits}
use Rattle.gl_tuples.proofs.Numbers.{negative_fits, none_negative, past_negative, word_made}
use Rattle.gl_tuples.proofs.value.negative_word.Goals as goal

pub returns-in_err-number : goal.returns-in_err-number
returns-in_err-number c =
    let h = none_negative c.args.kind (number_of c.args.digits.now) in
    search rules

pub returns-then-has_negative : goal.returns-then-has_negative
returns-then-has_negative c =
    let x = c.in_ok-number.number in
    let some = kind_some c.args.kind c.requires in
    let below = word_fits (width_of c.args.kind) (neg_ℤ (pos x)) in
    let made = word_made c.new.result c.negative_word.result c.width.result c.new.ensures.given c.new.ensures.bits c.new.ensures.width in
    let fits = negative_fits c.args.kind (number_of c.args.digits.now) x c.requires in
    search rules

pub returns-else-has_negative : goal.returns-else-has_negative
returns-else-has_negative c =
    past_negative c.args.kind (number_of c.args.digits.now) c.in_ok-number.number c.requires c.in_ok-number.ensures c.if-has_negative.ensures
