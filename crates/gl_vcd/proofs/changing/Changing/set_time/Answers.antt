use Rattle.std.proofs.Common.{◌≡◌, ℕ, ◌<◌, ◌≤◌, Some, Option, sym, ap, refl, ◌∙◌, arith}
use Rattle.std.specs.Prelude.{unwrap_or}
use Rattle.gl_bits.proofs.AllLists.{all_weaker}
use Rattle.gl_vcd.specs.Standing.{now_of}
use Rattle.gl_vcd.specs.Signals.{Change}
use Rattle.gl_vcd.proofs.Changed.{time_comes, value_same}
use Rattle.gl_vcd.proofs.changing.Changing.set_time.Goals as goal

pub returns-clause-reads : goal.returns-clause-reads
returns-clause-reads c = λ r k.
    let time = c.in-Some.time in
    let next = c.in-Some-number_in.next in
    let come : r.time ≡ Some time = k.holds.time' ∙ c.in-Some.is in
    let now : now_of r ≡ time = ap (λ (o : Option ℕ). unwrap_or o 0) come in
    let lt : time < next = omega arith in
    let le : now_of r ≤ next = omega (arith, now, lt) in
    record {
      read = record r { time = Some next };
      says = time_comes r c.args.at time c.args.digits.now come next (sym c.in-Some-number_in.is ∙ c.number_in.ensures) lt
          (sym (c.lacks_value.ensures r time k.holds come) ∙ c.if-lacks_value.false) c.if-next-gt-LATEST_TIME.false;
      keeps = record {
        stage' = k.stage';
        holds = record {
          signals' = k.holds.signals';
          time' = refl;
          early = all_weaker (λ (x : Change). x.time ≤ now_of r) (λ (x : Change). x.time ≤ next) (λ x h. omega (arith, h, le)) r.changes k.holds.early;
          late = c.if-next-gt-LATEST_TIME.false;
          values' = λ i below. k.holds.values' i below ∙ value_same r.changes i (now_of r) next k.holds.early le;
        };
      };
    }
