use Rattle.std.proofs.Common.{ℕ, List, subst}
use Rattle.gl_compiler.specs.Texts.{IsCompiledText, IsTextRefused}
use Rattle.gl_load.specs.Query.{query_text, schema_text}
use Rattle.gl_load.proofs.Compiling.{compiled_load, uncompiled}
use Rattle.gl_load.proofs.loading.compile_load.Goals as goal

pub uncompiled-requires : goal.uncompiled-requires
uncompiled-requires c =
    let f = c.in-Err.fault in
    uncompiled c.laws_below.ensures f (subst (λ (t : List ℕ). IsTextRefused t query_text f) c.schema_text.ensures (subst (λ (t : List ℕ). IsTextRefused c.schema_text.result.now t f) c.query_text.ensures c.in-Err.ensures.cause))

pub returns-in-Ok : goal.returns-in-Ok
returns-in-Ok c =
    let q = c.in-Ok.compiled in
    compiled_load c.laws_below.ensures q (subst (λ (t : List ℕ). IsCompiledText t query_text q) c.schema_text.ensures (subst (λ (t : List ℕ). IsCompiledText c.schema_text.result.now t q) c.query_text.ensures c.in-Ok.ensures.compiled))
