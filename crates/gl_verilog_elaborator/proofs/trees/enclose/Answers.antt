use Rattle.std.proofs.Common.{◌≡◌, ap, sym, subst, map}
use Rattle.std.specs.Prelude.{Result}
use Rattle.gl_verilog_elaborator.specs.Judged.{Broken, Typed}
use Rattle.gl_verilog_elaborator.specs.View.{typed_of, Gives}
use Rattle.gl_verilog_elaborator.proofs.Parts.{braces_wide, braces_narrow}
use Rattle.gl_verilog_elaborator.proofs.trees.enclose.Goals as goal

pub returns-then-not-are_narrow : goal.returns-then-not-are_narrow
returns-then-not-are_narrow c =
    let same : c.deref.result.now ≡ c.args.parts.items = cc in
    λ e. braces_wide c.args.k (map typed_of c.deref.result.now) (map typed_of c.args.parts.items) (typed_of c.args.last) (ap (map typed_of) same) c.if-not-are_narrow.ensures

pub returns : goal.returns
returns c =
    let same : c.deref.result.now ≡ c.args.parts.items = cc in
    subst (λ (s : Result Typed Broken). Gives typed_of s c.closed.result)
    (sym (braces_narrow c.args.k (map typed_of c.deref.result.now) (map typed_of c.args.parts.items) (typed_of c.args.last) (typed_of c.in_ok-all.all) (ap (map typed_of) same) c.if-not-are_narrow.ensures c.in_ok-all.ensures))
    c.closed.ensures
