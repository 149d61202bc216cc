-- The sides of nodes that stand beside each other: what a joiner asks of them, and the pace of what comes out.
use Rattle.std.proofs.Common.{◌≡◌, ℕ, ◌+◌, ◌<◌, [], Option, Some, None, Bool, true, false, ◌&&◌, refl, sym, ap, ◌∙◌, subst, arith}
use Rattle.std.specs.Prelude.{◌≢◌, is_some, nat_eq}
use Rattle.std.proofs.lemmas.Bool.{eqb-true}
use Rattle.gl_bits.proofs.Bools.{and_left, and_right}
use Rattle.gl_values.specs.Results.{Row}
use Rattle.gl_algebra.specs.declared.figures.Figures.{Figures}
use Rattle.gl_algebra.specs.FigureTable.{beside_figures, delayed, is_fixed, wait_of}
use Rattle.gl_algebra.specs.Laws.{IsFixed, PaceFixes}
use Rattle.gl_algebra.specs.Shapes.{Pace, unsteady, once, with_stream, with_body}
use Rattle.gl_algebra.proofs.PaceLemmas.{is_fixed-is, delayed_fixed}
use Rattle.gl_queue.specs.Joiners.{joined_pace, joins_when}
use Rattle.gl_wire.specs.Beats.{Beats}
use Rattle.gl_wire.specs.Pace.{InStep, KeepsPace, WithEnds}
use Rattle.gl_wire.specs.Serves.{Fits}
use Rattle.gl_wire.specs.Wire.{Carried}
use Rattle.gl_wiring.specs.Below.{LawsBelow}

-- a beat with the end
abbrev is_end : Option Bool → Bool
is_end None = false
is_end (Some e) = e

-- a tuple with each beat that has the end
abbrev with_end : Bool → Option Row
with_end true = Some []
with_end false = None

abbrev with_each_end : Beats → Carried
with_each_end beats = record { tuple = λ c. with_end (is_end (beats c)); ends = λ c. false }

shown_end : (e : Bool) → is_some (with_end e) ≡ e
shown_end true = refl
shown_end false = refl

module _ (f : Figures) (beats : Beats) (x : Carried) (fits : Fits f beats x) (h : is_fixed f ≡ true) (w : WithEnds x) where
  first : f.a ≡ f.lt
  first = eqb-true f.a f.lt (and_left (nat_eq f.a f.lt) (nat_eq f.lt f.le) h)

  second : f.lt ≡ f.le
  second = eqb-true f.lt f.le (and_right (nat_eq f.a f.lt) (nat_eq f.lt f.le) h)

  -- where figures are fixed, ends come exactly that long after beats with the end
  fixed_end : (c : ℕ) → x.ends (c + f.a) ≡ is_end (beats c)
  fixed_end c = by (x.ends (c + f.a)) refl (beats c) refl
    where
      by : (b : Bool) → x.ends (c + f.a) ≡ b → (o : Option Bool) → beats c ≡ o → b ≡ is_end o
      by true e o p =
          let i = fits.ends (c + f.a) e in
          let l = i.low in let m = i.high in
          let same : i.beat ≡ c = omega (arith, l, m, first, second) in
          sym (ap is_end (sym p ∙ sym (ap beats same) ∙ i.is))
      by false e None p = refl
      by false e (Some false) p = refl
      by false e (Some true) p =
          let o = fits.end c p in
          let l = o.here.low in let m = o.here.high in
          let same : o.at ≡ c + f.a = omega (arith, l, m, first, second) in
          sym e ∙ sym (ap x.ends same) ∙ o.here.is

  -- none comes before
  early : (c : ℕ) → c < f.a → x.ends c ≡ false
  early c l = by (x.ends c) refl
    where
      by : (b : Bool) → x.ends c ≡ b → b ≡ false
      by true e = absurd (let i = fits.ends c e in let low = i.low in omega (arith, l, low))
      by false e = refl

  -- and a tuple comes with each
  end_in_step : InStep f.a (with_each_end beats) x
  end_in_step = record {
    before = λ c l. w c ∙ early c l;
    each = λ c. w (c + f.a) ∙ fixed_end c ∙ sym (shown_end (is_end (beats c)));
  }

both_fixed : (p q : Figures) → IsFixed p → IsFixed q → (is_fixed p && is_fixed q) ≡ true
both_fixed p q h h' = rw (is_fixed-is p h, is_fixed-is q h') refl

-- two sides of one pace are what a joiner asks for
pub sides_alike : (pace : Pace) (p q : Figures) → pace ≢ unsteady → PaceFixes pace p → PaceFixes pace q → (leaves : ℕ → Carried) (beats : Beats) (x y : Carried)
    → Fits p beats x → Fits q beats y → KeepsPace pace p.a leaves x → KeepsPace pace q.a leaves y
    → (b : Bool) → (is_fixed p && is_fixed q) ≡ b → joins_when p q b beats x y
sides_alike unsteady p q steady fp fq leaves beats x y fx fy px py b e = absurd (steady refl)
sides_alike once p q steady fp fq leaves beats x y fx fy px py true e = (
  with_each_end beats,
  end_in_step p beats x fx (and_left (is_fixed p) (is_fixed q) e) px,
  end_in_step q beats y fy (and_right (is_fixed p) (is_fixed q) e) py,
)
sides_alike once p q steady fp fq leaves beats x y fx fy px py false e = (px, py)
sides_alike (with_stream k) p q steady fp fq leaves beats x y fx fy px py true e = (leaves k, px, py)
sides_alike (with_stream k) p q steady fp fq leaves beats x y fx fy px py false e = absurd (let z = sym (both_fixed p q fp fq) ∙ e in cc)
sides_alike with_body p q steady fp fq leaves beats x y fx fy px py true e = (leaves 0, px, py)
sides_alike with_body p q steady fp fq leaves beats x y fx fy px py false e = absurd (let z = sym (both_fixed p q fp fq) ∙ e in cc)

-- two sides in step begin as late as the slower one
beside_first : (p q : Figures) → IsFixed p → IsFixed q → (beside_figures p q).a ≡ p.a + wait_of p q
beside_first p q h h' =
    rw (is_fixed-is (delayed (wait_of p q) p) (delayed_fixed (wait_of p q) p h), is_fixed-is (delayed (wait_of q p) q) (delayed_fixed (wait_of q p) q h')) refl

-- what a joiner gives keeps the pace of its sides
pub joins_pace : LawsBelow → (pace : Pace) (p q : Figures) → PaceFixes pace p → PaceFixes pace q → (leaves : ℕ → Carried) (x y o : Carried)
    → (b : Bool) → (is_fixed p && is_fixed q) ≡ b → joined_pace p q b x y o → KeepsPace pace p.a leaves x → KeepsPace pace (beside_figures p q).a leaves o
joins_pace laws unsteady p q fp fq leaves x y o b e j px = tt
joins_pace laws once p q fp fq leaves x y o true e j px = laws.followers_keep_pace (wait_of p q) x o j once 0 leaves px
joins_pace laws once p q fp fq leaves x y o false e j px = j
joins_pace laws (with_stream k) p q fp fq leaves x y o true e j px =
    subst (λ (a : ℕ). InStep a (leaves k) o) (sym (beside_first p q fp fq)) (laws.followers_keep_pace (wait_of p q) x o j (with_stream k) p.a leaves px)
joins_pace laws (with_stream k) p q fp fq leaves x y o false e j px = absurd (let z = sym (both_fixed p q fp fq) ∙ e in cc)
joins_pace laws with_body p q fp fq leaves x y o true e j px =
    subst (λ (a : ℕ). InStep a (leaves 0) o) (sym (beside_first p q fp fq)) (laws.followers_keep_pace (wait_of p q) x o j with_body p.a leaves px)
joins_pace laws with_body p q fp fq leaves x y o false e j px = absurd (let z = sym (both_fixed p q fp fq) ∙ e in cc)
