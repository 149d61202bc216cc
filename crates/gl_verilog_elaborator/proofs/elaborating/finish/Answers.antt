use Rattle.std.proofs.Common.{◌≡◌, List, ℕ, Some, None, subst, map, length, arith}
use Rattle.std.specs.Prelude.{option_map, slice_get}
use Rattle.gl_verilog.specs.View.{assignment_of}
use Rattle.gl_verilog_tokens.specs.View.{module_of, port_of}
use Rattle.gl_verilog_loops.specs.Looping.{IsFirstOf}
use Rattle.gl_verilog_elaborator.specs.Meant.{looped_at}
use Rattle.gl_verilog_elaborator.specs.View.{elaborated_of, broken_of}
use Rattle.gl_bits.proofs.AllLists.{length_map}
use Rattle.gl_verilog_elaborator.proofs.Wholly.{made_result, whole_looped_by}
use Rattle.gl_verilog_elaborator.proofs.elaborating.finish.Goals as goal

pub returns-in-Some : goal.returns-in-Some
returns-in-Some c =
    let same : c.deref.result.now ≡ c.args.e.assignments.items = cc in
    let tokens : c.deref-in-Some.result.now ≡ c.args.e.targets.items = cc in
    let found = subst (IsFirstOf (map assignment_of c.deref.result.now)) c.in-Some.is c.in_ok-found.ensures in
    λ b. whole_looped_by (module_of c.args.written.now) (elaborated_of c.args.e) c.in-Some.looped (broken_of c.loop_told.result) c.requires.grammar c.requires.judged
    (subst (λ (xs : List _). IsFirstOf (map assignment_of xs) (Some c.in-Some.looped)) same found)
    (subst (λ (ts : List ℕ). option_map looped_at (slice_get ts c.in-Some.looped) ≡ Some (broken_of c.loop_told.result)) tokens (c.loop_told.ensures b))

pub returns-in-None : goal.returns-in-None
returns-in-None c =
    let same : c.deref.result.now ≡ c.args.e.assignments.items = cc in
    let found = subst (IsFirstOf (map assignment_of c.deref.result.now)) c.in-None.is c.in_ok-found.ensures in
    let size : c.len-in-None.result ≡ length (map port_of c.args.written.now.ports.items) = omega (arith, c.len-in-None.ensures, c.args.written.now.ports.ok.0, length_map port_of c.args.written.now.ports.items) in
    made_result (module_of c.args.written.now) (elaborated_of c.args.e) c.module_made.result c.len-in-None.result c.requires.grammar c.requires.judged
    (subst (λ (xs : List _). IsFirstOf (map assignment_of xs) None) same found) size c.module_made.ensures
