use Rattle.std.proofs.Common.{◌≡◌, ◌∙◌, ℕ, List, Option, Some, Bor, slice_get, option_map, drop, sym, ap, subst}
use Rattle.gl_top_forms.specs.Forms.{values_in}
use Rattle.gl_top_forms.specs.Steps.{bytes_of, value_in, is_option}
use Rattle.gl_top_forms.proofs.Words.{value_found, value_passed, value_none}
use Rattle.gl_top_forms.proofs.reading.value_at.Goals.{in-Some-found+else-left-eq0, in_default-found}
use Rattle.gl_top_forms.proofs.reading.value_at.Goals as goal

pub returns-then-left-eq0 : goal.returns-then-left-eq0
returns-then-left-eq0 c =
    let ws = c.args.words.now in
    let option = c.option_word-option.result.now in
    let valued = c.loop-at.valued in
    let at = c.loop-at.at in
    let word = c.in-Some.word.now in
    let there : slice_get ws at ≡ Some word = sym c.in-Some.ensures in
    let same : c.as_bytes.result.now ≡ word = cc in
    let value = bytes_of c.in-Some-found.value in
    let giving : value_in option valued word ≡ Some value =
    subst (λ (b : List ℕ). value_in option valued b ≡ Some value) same (sym c.in-Some-found.ensures) in
    let now = ap (λ (n : ℕ). slice_get (values_in option valued (drop at ws)) n) c.if-left-eq0.true in
    sym (c.loop-at.invariant ∙ now ∙ value_found option valued ws at word value there giving)

pub loop-at-preserved : goal.loop-at-preserved
loop-at-preserved c =
    let ws = c.args.words.now in
    let option = c.option_word-option.result.now in
    let valued = c.loop-at.valued in
    let at = c.loop-at.at in
    let word = c.in-Some.word.now in
    let there : slice_get ws at ≡ Some word = sym c.in-Some.ensures in
    let same : c.as_bytes.result.now ≡ word = cc in
    let same' : c.as_bytes-in-loop-at.result.now ≡ word = cc in
    let next = subst (λ (b : List ℕ). c.is_option-valued.result ≡ is_option option valued b) same' c.is_option-valued.ensures in
    let giving = subst (λ (b : List ℕ). option_map bytes_of c.value_in-found.result ≡ value_in option valued b) same c.value_in-found.ensures in
    elim c.match-found.branch [
      | in-Some-found+else-left-eq0 w ↦
          let value = bytes_of w.in-Some-found.value in
          let given : value_in option valued word ≡ Some value =
          subst (λ (b : List ℕ). value_in option valued b ≡ Some value) same (sym w.in-Some-found.ensures) in
          c.loop-at.invariant
          ∙ value_passed option valued c.is_option-valued.result ws at word value c.loop-at.left c.match-found.left there given
          w.if-left-eq0.false next w.left-is
      | in_default-found w ↦
          let none = sym giving ∙ ap (λ (o : Option (Option (Bor (List ℕ)))). option_map bytes_of o) w.in_default-found.is in
          c.loop-at.invariant
          ∙ value_none option valued c.is_option-valued.result ws at word c.loop-at.left c.match-found.left there none next w.left-is
    ]
