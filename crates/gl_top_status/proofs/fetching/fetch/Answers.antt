use Rattle.std.proofs.Common.{List, ℕ, sym, subst}
use Rattle.std.specs.Prelude.{Contains}
use Rattle.gl_top_forms.proofs.Named.{named}
use Rattle.gl_top_status.proofs.Fetched.{unfetched}
use Rattle.gl_top_status.proofs.fetching.fetch.Goals as goal

pub read_all-requires : goal.read_all-requires
read_all-requires g c =
    let there : Contains c.args.words.now c.name.result.now = subst (λ (n : List ℕ). Contains c.args.words.now n) (sym c.name.ensures) (named c.args.words.now c.args.part c.requires.named) in
    subst (λ (names : List (List ℕ)). Contains names c.name.result.now) (sym c.requires.names) there

pub returns-in-Err-clause-leaves : goal.returns-in-Err-clause-leaves
returns-in-Err-clause-leaves g c = rw c.read_refusal.ensures (unfetched c.args.words.now _ _ c.args.part c.name.result.now c.in-Err.fault c.name.ensures c.in-Err.ensures.refuses c.in-Err.ensures.counts)
