use Rattle.std.proofs.Common.{◌≡◌, ◌==◌, true}
use Rattle.std.specs.List.{starts_with}
use Rattle.gl_top_forms.proofs.Words.{front_gone}
use Rattle.gl_top_forms.proofs.reading.behind.Goals as goal

pub returns-then-starts_with : goal.returns-then-starts_with
returns-then-starts_with c =
    let begins : starts_with ◌==◌ c.args.word.now c.args.front.now ≡ true = cc in
    front_gone c.args.front.now c.args.word.now begins
