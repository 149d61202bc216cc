use Rattle.std.specs.Prelude.{string_bytes}
use Rattle.gl_outside.proofs.Places.{get_mapped}
use Rattle.gl_outside.proofs.words.Words.get.Goals as goal

pub returns-in-Some : goal.returns-in-Some
returns-in-Some c =
    let found = c.in-Some.ensures.lookup in
    rw (c.as_str.ensures.value, ← c.self.view_is, ← c.deref.ensures.value) (get_mapped string_bytes c.deref.result.now c.args.at c.in-Some.word.now found.3.0 found.1)
