use Rattle.std.proofs.Common.{◌≡◌, ◌∙◌, ℕ, true, List, Some, slice_get, sym, subst}
use Rattle.gl_top_forms.specs.Steps.{is_option, is_strange}
use Rattle.gl_top_forms.proofs.Words.{strange_found, strange_none}
use Rattle.gl_top_forms.proofs.wrong.strange_of.Goals as goal

pub returns-then-is_strange : goal.returns-then-is_strange
returns-then-is_strange c =
    let ws = c.args.words.now in
    let option = c.option_word-option.result.now in
    let valued = c.loop-at.valued in
    let word = c.in-Some.word.now in
    let there : slice_get ws c.loop-at.at ≡ Some word = sym c.in-Some.ensures in
    let same : c.as_bytes.result.now ≡ word = cc in
    let is : is_strange option valued word ≡ true =
    subst (λ (b : List ℕ). is_strange option valued b ≡ true) same (sym c.is_strange.ensures ∙ c.if-is_strange.true) in
    sym (c.loop-at.invariant ∙ strange_found option valued ws c.loop-at.at word there is)

pub loop-at-preserved : goal.loop-at-preserved
loop-at-preserved c =
    let ws = c.args.words.now in
    let option = c.option_word-option.result.now in
    let valued = c.loop-at.valued in
    let word = c.in-Some.word.now in
    let there : slice_get ws c.loop-at.at ≡ Some word = sym c.in-Some.ensures in
    let same : c.as_bytes.result.now ≡ word = cc in
    let same' : c.as_bytes-in-loop-at.result.now ≡ word = cc in
    let next = subst (λ (b : List ℕ). c.is_option-valued.result ≡ is_option option valued b) same' c.is_option-valued.ensures in
    let is = subst (λ (b : List ℕ). c.is_strange.result ≡ is_strange option valued b) same c.is_strange.ensures in
    c.loop-at.invariant ∙ strange_none option valued c.is_option-valued.result ws c.loop-at.at word there (sym is ∙ c.if-is_strange.false) next
