-- The token of a rule that is broken is one of those that spell the module.
use Rattle.std.proofs.Common.{◌<◌, ℕ, length, subst, ap, sym, ◌∙◌}
use Rattle.gl_bits.proofs.AllLists.{length_map}
use Rattle.gl_verilog_faults.specs.Faults.{IsBroken}
use Rattle.gl_verilog_elaborator.specs.declared.stop.Stop.{Stop}
use Rattle.gl_verilog_elaborator.specs.View.{rule_of, is_broken, broken_of}
use Rattle.gl_verilog_tokens.specs.declared.token.Lexeme.{Lexeme}
use Rattle.gl_verilog_tokens.specs.View.{token_of, module_of}
use Rattle.gl_verilog_reader.proofs.Tokens.{token_before}
use Rattle.gl_verilog_reader.proofs.judge.Goals as goal

pub fault_at-requires : goal.fault_at-requires
fault_at-requires c =
    let w = module_of c.args.written.now in
    let told = c.in-Err-Broken.ensures (ap is_broken c.in-Err-Broken.field-0-is) in
    let broken : IsBroken w (rule_of c.in-Err-Broken.rule) c.in-Err-Broken.token =
    subst (λ (e : Stop). IsBroken w (broken_of e).rule (broken_of e).token) c.in-Err-Broken.field-0-is told in
    subst (λ (n : ℕ). c.in-Err-Broken.token < n) (sym (ap length c.requires.spelled) ∙ length_map (λ (l : Lexeme). token_of l.token) c.args.lexemes.now)
    (token_before w (rule_of c.in-Err-Broken.rule) c.in-Err-Broken.token broken)
