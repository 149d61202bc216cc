-- The worked stream, and wires with late ends.
use Rattle.std.proofs.Common.{◌≡◌, ℕ, ◌+◌, ◌-◌, None, Bool, ◌&&◌, refl, ap, ◌∙◌, arith}
use Rattle.std.specs.Prelude.{if◌then◌else◌}
use Rattle.std.proofs.lemmas.Bool.{le-leb, lt-leb}
use Rattle.gl_wire.specs.Wire.{Carried}
use Rattle.gl_spare.specs.LateEnds.{IsLate}
use Rattle.gl_spare.specs.Worked.{WorkedSpare, late_at, late_wire}

late_is : (shift : ℕ) (a : Carried) → IsLate shift a (late_wire shift a)
late_is shift a = record {
  no_end = λ c l. ap (λ (b : Bool). b && a.ends (c - shift)) (lt-leb shift c l);
  ends = λ c. at c;
  with_end = λ c h.
      let e : c + shift - shift ≡ c = omega arith in
      ap (λ (b : Bool). if b then a.tuple (c + shift - shift) else (if a.ends (c + shift) then None else a.tuple (c + shift))) (at c ∙ h) ∙ ap a.tuple e;
  alone = λ c h. ap (λ (b : Bool). if b then a.tuple (c - shift) else (if a.ends c then None else a.tuple c)) h;
}
  where
    at : (c : ℕ) → late_at shift a (c + shift) ≡ a.ends c
    at c =
        let e : c + shift - shift ≡ c = omega arith in
        ap (λ (b : Bool). b && a.ends (c + shift - shift)) (le-leb shift (c + shift) (omega arith)) ∙ ap a.ends e

pub worked_spare : WorkedSpare
worked_spare = record { spare = refl; late = late_is }
