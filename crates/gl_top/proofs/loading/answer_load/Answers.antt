use Rattle.std.proofs.Common.{◌≡◌, ℕ, Option, None, Some, sym, ◌∙◌, subst}
use Rattle.gl_outside.specs.States.{IsCalm, ShelfState}
use Rattle.gl_outside.proofs.Counting.{calm_none}
use Rattle.gl_top_forms.proofs.Named.{load_given}
use Rattle.gl_top_inputs.specs.Causes.{change}
use Rattle.gl_top.proofs.loading.answer_load.Goals as goal

pub load_many-requires-clause-many : goal.load_many-requires-clause-many
load_many-requires-clause-many g c = record { loads = c.requires.loads; many = sym c.load.ensures.value ∙ c.in-Some.is }

pub unreachable-requires : goal.unreachable-requires
unreachable-requires g c =
    let there = load_given c.args.words.now c.requires.loads in
    let none : ◌≡◌ {A = Option ℕ} None (Some there.0) = sym c.in-None.is ∙ c.load.ensures.value ∙ there.1.many in
    absurd cc

pub returns : goal.returns
returns g c =
    c.load_many.ensures.answer (change _ _)
    (subst (λ (s : ShelfState). IsCalm (g.S.Shelf.state c.args.desk.now.shelf) s) (sym c.load_many.ensures.shelf) (calm_none _))
