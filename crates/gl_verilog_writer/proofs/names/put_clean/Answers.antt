use Rattle.std.proofs.Common.{◌++◌, ℕ, List, length, ◌≤◌, arith, ap, sym, ◌∙◌}
use Rattle.gl_bits.proofs.Options.{on_ok}
use Rattle.gl_verilog_writer.proofs.Loops.{clean_same}
use Rattle.gl_verilog_writer.proofs.names.put_clean.Goals as goal

pub returns-then-are_name_bytes : goal.returns-then-are_name_bytes
returns-then-are_name_bytes c =
    let short : length c.args.label.now ≤ 64 = omega (arith, c.if-label-le64.true) in
    let same = clean_same 64 c.args.label.now short (sym c.are_name_bytes.ensures ∙ c.if-are_name_bytes.true) in
    on_ok c.put.result (λ e. e ∙ ap (λ (l : List ℕ). c.args.out.now.items ++ l) (sym same)) c.put.ensures
