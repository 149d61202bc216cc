use Rattle.std.proofs.Common.{◌≡◌, ◌∙◌, ℕ, true, List, Some, slice_get, drop, sym, ap, subst}
use Rattle.gl_top_forms.specs.Forms.{is_dashed, names_in}
use Rattle.gl_top_forms.specs.Steps.{is_name, is_option}
use Rattle.gl_top_forms.proofs.Words.{option_dashed, name_found, name_passed, name_none}
use Rattle.gl_top_forms.proofs.reading.name_at.Goals.{then-named+else-left-eq0, else-named}
use Rattle.gl_top_forms.proofs.reading.name_at.Goals as goal

pub returns-then-left-eq0 : goal.returns-then-left-eq0
returns-then-left-eq0 c =
    let ws = c.args.words.now in
    let option = c.option_word-option.result.now in
    let dashed = subst (λ (o : List ℕ). is_dashed o ≡ true) (sym c.option_word-option.ensures) (option_dashed ws) in
    let valued = c.loop-at.valued in
    let at = c.loop-at.at in
    let word = c.in-Some.word.now in
    let there : slice_get ws at ≡ Some word = sym c.in-Some.ensures in
    let same : c.as_bytes.result.now ≡ word = cc in
    let naming : is_name valued word ≡ true =
    subst (λ (b : List ℕ). is_name valued b ≡ true) same (sym c.is_name-named.ensures ∙ c.if-named.true) in
    let now = ap (λ (n : ℕ). slice_get (names_in option valued (drop at ws)) n) c.if-left-eq0.true in
    sym (c.loop-at.invariant ∙ now ∙ name_found option dashed valued ws at word there naming)

pub loop-at-preserved : goal.loop-at-preserved
loop-at-preserved c =
    let ws = c.args.words.now in
    let option = c.option_word-option.result.now in
    let dashed = subst (λ (o : List ℕ). is_dashed o ≡ true) (sym c.option_word-option.ensures) (option_dashed ws) in
    let valued = c.loop-at.valued in
    let at = c.loop-at.at in
    let word = c.in-Some.word.now in
    let there : slice_get ws at ≡ Some word = sym c.in-Some.ensures in
    let same : c.as_bytes.result.now ≡ word = cc in
    let same' : c.as_bytes-in-loop-at.result.now ≡ word = cc in
    let next = subst (λ (b : List ℕ). c.is_option-valued.result ≡ is_option option valued b) same' c.is_option-valued.ensures in
    let naming = subst (λ (b : List ℕ). c.is_name-named.result ≡ is_name valued b) same c.is_name-named.ensures in
    elim c.if-named.branch [
      | then-named+else-left-eq0 w ↦ c.loop-at.invariant
          ∙ name_passed option dashed valued c.is_option-valued.result ws at word c.loop-at.left c.if-named.left there (sym naming ∙ w.if-named.true)
          w.if-left-eq0.false next w.left-is
      | else-named w ↦ c.loop-at.invariant
          ∙ name_none option dashed valued c.is_option-valued.result ws at word c.loop-at.left c.if-named.left there (sym naming ∙ w.if-named.false)
          next w.left-is
    ]
