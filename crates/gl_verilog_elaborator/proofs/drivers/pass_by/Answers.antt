use Rattle.std.proofs.Common.{◌∙◌, ap, List, ℕ, drop, Bor}
use Rattle.std.specs.Prelude.{fold}
use Rattle.gl_verilog_elaborator.specs.Judged.{left_list, with_name}
use Rattle.gl_verilog_elaborator.specs.View.{names_in, drivers_of}
use Rattle.gl_verilog_elaborator.proofs.Found.{drop_in}
use Rattle.gl_verilog_elaborator.proofs.drivers.pass_by.Goals as goal

pub returns : goal.returns
returns c =
    let v = c.args.drivers.now in
    ap (λ (b : List (List ℕ)). left_list b (drivers_of v))
    (c.in_ok-put_from.ensures ∙ ap (λ (xs : List (Bor (List ℕ))). fold with_name (names_in v.beside.keys) (names_in (drop c.args.from xs))) c.as_slice.ensures.value
    ∙ ap (fold with_name (names_in v.beside.keys)) (drop_in c.args.from v.before.items))
