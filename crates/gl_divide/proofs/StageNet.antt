-- Stages behind one another.
use Rattle.std.proofs.Common.{◌≡◌, ◌≢◌, ℕ, zero, suc, ◌+◌, ◌<◌, false, refl, sym, ap, ◌∙◌, subst, arith}
use Rattle.gl_net.specs.declared.node.Bus.{Bus}
use Rattle.gl_net.specs.declared.node.Bit.{Bit}
use Rattle.gl_net.specs.Net.{Net, Run, IsBus}
use Rattle.gl_net.proofs.Determined.{keeps_then}
use Rattle.gl_net.proofs.Values.{bus_fits}
use Rattle.gl_wire.specs.Wire.{line_at}
use Rattle.gl_wire.proofs.StageLemmas.{line_first}
use Rattle.gl_divide.specs.declared.stage.Stage.{Stage}
use Rattle.gl_divide.specs.Division.{Division, digits_on, fits, highest, left, one_digit, undivided, with_bit}
use Rattle.gl_divide.specs.Divider.{IsBehindDigits, IsDivider, IsLineBehind, IsStage, IsStep, division_at}
use Rattle.gl_divide.proofs.DivisionLemmas.{divided}
use Rattle.gl_divide.proofs.RestLemmas.{is_whole}

-- ---- lines

pub line_behind_one : (run : Run) (source out : Bit) → ((t : ℕ) → line_at run out (suc t) ≡ line_at run source t) → IsLineBehind run 1 source out
line_behind_one run source out next = record {
  before = λ c lt. let first : c ≡ 0 = omega arith in ap (line_at run out) first ∙ line_first run out;
  line = λ t. let e : t + 1 ≡ suc t = omega arith in ap (line_at run out) e ∙ next t;
}

pub line_behind_more : (run : Run) (n m : ℕ) (source mid out : Bit) → m ≡ suc n → IsLineBehind run n source mid → ((t : ℕ) → line_at run out (suc t) ≡ line_at run mid t)
    → IsLineBehind run m source out
line_behind_more run n m source mid out e h next = record { before = before; line = line }
  where
    before : (c : ℕ) → c < m → line_at run out c ≡ false
    before zero lt = line_first run out
    before (suc c) lt = next c ∙ h.before c (omega arith)

    line : (t : ℕ) → line_at run out (t + m) ≡ line_at run source t
    line t = let s : t + m ≡ suc (t + n) = omega arith in ap (line_at run out) s ∙ next (t + n) ∙ h.line t

-- ---- divisions

abbrev pub division_of : ℕ → ℕ → ℕ → Division
division_of digits rest bottom = record { digits = digits; rest = rest; bottom = bottom }

pub same_division : (digits digits' rest rest' bottom bottom' : ℕ) → digits ≡ digits' → rest ≡ rest' → bottom ≡ bottom'
    → division_of digits rest bottom ≡ division_of digits' rest' bottom'
same_division digits digits' rest rest' bottom bottom' p q r =
    ap (λ x. division_of x rest bottom) p ∙ ap (λ x. division_of digits' x bottom) q ∙ ap (division_of digits' rest') r

module _ (run : Run) (s d : Stage) (next fit : Bit) (kept shift : Bus) (t : ℕ) where
  pub step_division : line_at run next (suc t) ≡ highest s.digits.width (run.at (suc t) s.digits.node)
      → line_at run fit (suc t) ≡ fits (run.at (suc t) s.rest.node) (run.at (suc t) s.bottom.node) (line_at run next (suc t))
      → run.at (suc t) kept.node ≡ left (run.at (suc t) s.rest.node) (run.at (suc t) s.bottom.node) (line_at run next (suc t))
      → run.at (suc t) shift.node ≡ with_bit s.digits.width (run.at (suc t) s.digits.node) (line_at run fit (suc t))
      → run.at (suc (suc t)) d.digits.node ≡ run.at (suc t) shift.node
      → run.at (suc (suc t)) d.rest.node ≡ run.at (suc t) kept.node
      → run.at (suc (suc t)) d.bottom.node ≡ run.at (suc t) s.bottom.node
      → division_at run (suc (suc t)) d ≡ one_digit s.digits.width (division_at run (suc t) s)
  step_division is_next is_fit is_kept is_shift digits rest bottom =
      let x = run.at (suc t) s.digits.node in
      let r = run.at (suc t) s.rest.node in
      let b = run.at (suc t) s.bottom.node in
      let high = highest s.digits.width x in
      same_division _ (with_bit s.digits.width x (fits r b high)) _ (left r b high) _ b
      (digits ∙ is_shift ∙ ap (with_bit s.digits.width x) (is_fit ∙ ap (fits r b) is_next)) (rest ∙ is_kept ∙ ap (left r b) is_next) bottom

-- ---- one stage more

pub stage_as : (net : Net) (n m : ℕ) (s : Stage) → IsStage net n m s → IsStage net s.digits.width s.bottom.width s
stage_as net n m s h = record {
  digits = h.digits;
  same_digits = refl;
  rest = h.rest;
  same_rest = h.same_rest ∙ sym h.same_bottom;
  bottom = h.bottom;
  same_bottom = refl;
  go = h.go;
}

-- less than the bottom is left after so many digits
rest_below : (width n : ℕ) (top bottom : ℕ) → bottom ≢ 0 → (digits_on width n (undivided top bottom)).rest < (digits_on width n (undivided top bottom)).bottom
rest_below width zero top bottom some = omega arith
rest_below width (suc n) top bottom some =
    let d = digits_on width n (undivided top bottom) in
    (is_whole d.rest d.bottom (highest width d.digits) (rest_below width n top bottom some)).below

pub digits_more : (old mid new : Net) (n : ℕ) (top bottom : Bus) (go : Bit) (s d : Stage) → IsBehindDigits old mid n top bottom go s
    → IsStep mid new s.digits.width s.bottom.width s d → IsBehindDigits old new (n + 1) top bottom go d
digits_more old mid new n top bottom go s d h given =
    let step : IsStep mid new top.width bottom.width s d =
    subst (λ (v : ℕ). IsStep mid new top.width v s d) h.stage.same_bottom (subst (λ (w : ℕ). IsStep mid new w s.bottom.width s d) h.stage.same_digits given) in
    let one : suc n ≡ n + 1 = omega arith in
    record {
      keeps = keeps_then old mid new h.keeps step.keeps;
      cost = record {
        nodes = omega (arith, h.cost.nodes, step.cost.nodes);
        registers = omega (arith, h.cost.registers, step.cost.registers);
        memories = omega (arith, h.cost.memories, step.cost.memories);
      };
      stage = step.stage;
      line = λ run r. line_behind_more run (suc n) (suc (n + 1)) go s.go d.go (ap suc (sym one)) (h.line run (step.keeps.runs run r)) (step.line run r);
      division = λ run r t some.
          let at : suc t + suc (n + 1) ≡ suc (suc (t + suc n)) = omega arith in
          let before : suc t + suc n ≡ suc (t + suc n) = omega arith in
          let given : Division = undivided (run.at (suc t) top.node) (run.at (suc t) bottom.node) in
          let here : division_at run (suc (t + suc n)) s ≡ digits_on top.width n given =
          ap (λ (c : ℕ). division_at run c s) (sym before) ∙ h.division run (step.keeps.runs run r) t some in
          let less : run.at (suc (t + suc n)) s.rest.node < run.at (suc (t + suc n)) s.bottom.node =
          subst (λ (x : Division). x.rest < x.bottom) (sym here) (rest_below top.width n (run.at (suc t) top.node) (run.at (suc t) bottom.node) some) in
          ap (λ (c : ℕ). division_at run c d) at ∙ step.division run r (t + suc n) less ∙ ap (one_digit top.width) here
          ∙ ap (λ (k : ℕ). digits_on top.width k given) one;
    }

pub divider_is : (old new : Net) (top bottom : Bus) (go : Bit) (s : Stage) → IsBus old top → IsBehindDigits old new top.width top bottom go s
    → IsDivider old new top bottom go (record { value = s.digits; ready = s.go })
divider_is old new top bottom go s is_top h =
    let one : suc top.width ≡ top.width + 1 = omega arith in
    record {
      keeps = h.keeps;
      cost = h.cost;
      value = h.stage.digits;
      same_width = h.stage.same_digits;
      ready = h.stage.go;
      quotient = λ run r t some.
          let before = h.keeps.runs run r in
          ap (λ (k : ℕ). run.at (suc t + k) s.digits.node) (sym one) ∙ ap (λ (d : Division). d.digits) (h.division run r t some)
          ∙ divided top.width (run.at (suc t) top.node) (run.at (suc t) bottom.node) (bus_fits old top run is_top before (suc t)) some;
      line = λ run r. subst (λ (k : ℕ). IsLineBehind run k go s.go) one (h.line run r);
    }
