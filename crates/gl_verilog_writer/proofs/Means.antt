-- The text of a netlist means the netlist.
use Rattle.std.proofs.Common.{◌≡◌, ℕ, ◌<◌, ◌^◌, List, [], length, Option, Some, None, IsSomeAnd, refl}
use Rattle.std.specs.Prelude.{unwrap_or}
use Rattle.gl_net.specs.Net.{Net}
use Rattle.gl_net.specs.Finished.{IsNetlist, IsName}
use Rattle.gl_verilog_writer.specs.Meaning.{IsTextOf}
use Rattle.gl_verilog_writer.specs.declared.label.Labels.{Labels}
use Rattle.gl_verilog_writer.specs.Labelled.{head_lines, scheme_of, naming}
use Rattle.gl_verilog_writer.specs.Design.{written_as, text_by, module_text}
use Rattle.gl_verilog_writer.proofs.Model.{Named, module_in}
use Rattle.gl_verilog_writer.proofs.Labelled.{naming-is}
use Rattle.gl_verilog_writer.proofs.Resolved.{resolves}
use Rattle.gl_verilog_writer.proofs.Spelled.{text-spelled, module-written, module-limited}
use Rattle.gl_verilog_writer.proofs.Driven.{module-valid, assignments-ordered}
use Rattle.gl_verilog_writer.proofs.Costs.{registers-same, memories-same}
use Rattle.gl_verilog_writer.proofs.Running.{runs-same, ports-declared}

name-back : (o : Option (List ℕ)) → IsSomeAnd o IsName → Some (unwrap_or o []) ≡ o
name-back None h = absurd h
name-back (Some w) h = refl

pub text-means : (labels : Labels) (net : Net) → IsNetlist net → length net.nodes < 2 ^ 64 → length net.ports < 2 ^ 64 → IsTextOf net (module_text labels net)
unfolding module_text text_by module_in
text-means labels net h nodes ports =
    let names = naming labels net in
    let c : Named net names = record { netlist = h; naming = naming-is labels net nodes ports } in
    record {
      design = module_in net names;
      has = record {
        written = written_as names net;
        spelled = text-spelled net (scheme_of labels net) c (head_lines labels);
        grammar = module-written net names c;
        limits = module-limited net names c;
        resolved = resolves net names c;
        valid = module-valid net names c;
      };
      name' = name-back net.name h.finished.module_name;
      declared = ports-declared net names;
      ordered = assignments-ordered net names c;
      registers = registers-same net names;
      memories = memories-same net names;
      runs = λ value word r. runs-same net names c value word r;
    }
