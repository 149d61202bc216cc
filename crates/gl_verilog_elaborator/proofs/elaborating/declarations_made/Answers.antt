use Rattle.std.proofs.Common.{◌∙◌, ap, List, ℕ}
use Rattle.gl_verilog.specs.Module.{Declaration}
use Rattle.gl_verilog.specs.View.{kind_of}
use Rattle.gl_verilog_elaborator.proofs.Found.{made_next}
use Rattle.gl_verilog_elaborator.proofs.elaborating.declarations_made.Goals as goal

pub loop-i-preserved : goal.loop-i-preserved
loop-i-preserved c =
    let d = c.in-Some.declared.now in
    made_next c.loop-i.all.items c.push.new.self.items _ c.args.scope.now.names.entries c.loop-i.i (c.in-Some.name.now, d) c.in_ok-push.ensures.items
    (ap (λ (n : List ℕ). let x : Declaration = record { name = n; width = d.width; is_vector = d.is_vector; kind = kind_of d.kind } in x) (c.from_vec.ensures ∙ c.in_ok-bytes.ensures.items))
    c.in-Some.ensures.entry c.loop-i.invariant
