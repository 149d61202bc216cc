use Rattle.std.proofs.Common.{◌≡◌, ℕ, Bool, true, Option, length, sym, ap, ◌∙◌}
use Rattle.std.specs.Prelude.{◌&&◌, is_none, nat_eq, not, unwrap_or}
use Rattle.std.specs.List.{list_any}
use Rattle.std.proofs.lemmas.Bool.{eqb-true}
use Rattle.gl_vcd.specs.Signals.{all_given, value_at}
use Rattle.gl_vcd.specs.Standing.{now_of}
use Rattle.gl_vcd.proofs.Kept.{lacking}
use Rattle.gl_vcd.proofs.changing.Changing.lacks_value.Goals as goal

pub returns-then-is_zero : goal.returns-then-is_zero
returns-then-is_zero c = λ r time h come.
    let items = c.args.self.now.values.items in
    let first : nat_eq time 0 ≡ true = sym (c.is_zero.ensures time (sym h.time' ∙ come)) ∙ c.if-is_zero.true in
    let now : now_of r ≡ 0 = ap (λ (o : Option ℕ). unwrap_or o 0) come ∙ eqb-true time 0 first in
    c.lack_one.ensures ∙ ap (list_any is_none) c.as_slice.ensures.value
    ∙ lacking r.changes items (length r.signals) (c.requires.long ∙ sym (ap length h.signals')) (λ i lt. h.values' i lt ∙ ap (value_at r.changes i) now)
    ∙ sym (ap (λ (b : Bool). b && not (all_given r.changes (length r.signals))) first)
