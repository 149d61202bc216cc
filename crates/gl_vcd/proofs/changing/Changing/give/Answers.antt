use Rattle.std.proofs.Common.{◌<◌, List, Some, length, sym, ap, refl, ◌∙◌, arith}
use Rattle.std.specs.Prelude.{◌^◌, bytes_eq, nat_lt, not, slice_get}
use Rattle.std.proofs.Math.ListN.{length-set}
use Rattle.gl_bits.specs.Words.{IsWidth}
use Rattle.gl_bits.proofs.AllLists.{all_at}
use Rattle.gl_vcd.specs.Reading.{binary_in}
use Rattle.gl_vcd.specs.Signals.{Signal, number_of_code}
use Rattle.gl_vcd.specs.Standing.{signal_of, signals_of}
use Rattle.gl_vcd.proofs.Kept.{code_here, given_fits, given_wide, kept, place_below, room_set, some_time, word_is, word_none}
use Rattle.gl_vcd.proofs.changing.Changing.give.Goals as goal

pub word_in-requires-clause-width : goal.word_in-requires-clause-width
word_in-requires-clause-width c =
    let s = c.args.self.now.signals.now in
    let x = c.index.result.now in
    all_at (λ (y : Signal). IsWidth y.width) (signals_of s) c.in-Some.number (signal_of x)
    (code_here s.list.items c.args.code.now c.number_of_code.result c.in-Some.number x c.number_of_code.ensures c.in-Some.is c.index.ensures)
    c.requires.ready.indexed.widths'

pub returns-in_default-word_in-clause-reads : goal.returns-in_default-word_in-clause-reads
returns-in_default-word_in-clause-reads c = λ r h.
    let s = c.args.self.now.signals.now in
    let x = c.index.result.now in
    let t = some_time c.args.self.now.time (c.is_none.ensures ∙ ap not c.if-is_none.false) in
    given_wide r c.args.at (binary_in c.args.digits.now) c.args.code.now t.0 c.in-Some.number (signal_of x) (h.time' ∙ t.1)
    (ap (λ (ss : List Signal). number_of_code ss c.args.code.now) h.signals' ∙ sym c.number_of_code.ensures ∙ c.in-Some.is)
    (ap (λ (ss : List Signal). slice_get ss c.in-Some.number) h.signals'
    ∙ code_here s.list.items c.args.code.now c.number_of_code.result c.in-Some.number x c.number_of_code.ensures c.in-Some.is c.index.ensures)
    (word_none (nat_lt (binary_in c.args.digits.now) (2 ^ x.width)) (binary_in c.args.digits.now) x.width (sym c.in_default-word_in.is ∙ c.word_in.ensures))

pub returns-clause-reads : goal.returns-clause-reads
returns-clause-reads c = λ r h.
    let self = c.args.self.now in
    let s = self.signals.now in
    let x = c.index.result.now in
    let n = c.in-Some.number in
    let value = binary_in c.args.digits.now in
    let t = some_time self.time (c.is_none.ensures ∙ ap not c.if-is_none.false) in
    let w = word_is (nat_lt value (2 ^ x.width)) value x.width c.in-Some-word_in.word (sym c.in-Some-word_in.is ∙ c.word_in.ensures) in
    let below : n < length (signals_of s) = place_below (λ (y : Signal). bytes_eq y.code c.args.code.now) (signals_of s) n (sym c.number_of_code.ensures ∙ c.in-Some.is) in
    record {
      read = _;
      says = given_fits r c.args.at value c.args.code.now t.0 n (signal_of x) (h.time' ∙ t.1)
          (ap (λ (ss : List Signal). number_of_code ss c.args.code.now) h.signals' ∙ sym c.number_of_code.ensures ∙ c.in-Some.is)
          (ap (λ (ss : List Signal). slice_get ss n) h.signals'
          ∙ code_here s.list.items c.args.code.now c.number_of_code.result n x c.number_of_code.ensures c.in-Some.is c.index.ensures)
          w.0;
      keeps = record { stage' = refl; holds = kept r self t.0 n value c.in-Some-word_in.word h (h.time' ∙ t.1) (let long = c.requires.ready.long in omega (arith, below, long)) w.1 };
    }

pub returns-clause-goes : goal.returns-clause-goes
returns-clause-goes c =
    let self = c.args.self.now in
    let s = self.signals.now in
    let x = c.index.result.now in
    let n = c.in-Some.number in
    let value = binary_in c.args.digits.now in
    let w = word_is (nat_lt value (2 ^ x.width)) value x.width c.in-Some-word_in.word (sym c.in-Some-word_in.is ∙ c.word_in.ensures) in
    let below : n < length (signals_of s) = place_below (λ (y : Signal). bytes_eq y.code c.args.code.now) (signals_of s) n (sym c.number_of_code.ensures ∙ c.in-Some.is) in
    let long = c.requires.ready.long in
    record {
      signals' = refl;
      later = omega arith;
      ready = record {
        indexed = c.requires.ready.indexed;
        long = length-set self.values.items n (Some c.in-Some-word_in.word) ∙ long;
        room = room_set (signals_of s) self.values.items n (signal_of x) c.in-Some-word_in.word (omega (arith, below, long))
            (code_here s.list.items c.args.code.now c.number_of_code.result n x c.number_of_code.ensures c.in-Some.is c.index.ensures)
            (ap (λ v. nat_lt v (2 ^ x.width)) w.1 ∙ w.0) c.requires.ready.room;
        bits = tt;
      };
    }
