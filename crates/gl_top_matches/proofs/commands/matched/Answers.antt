use Rattle.std.proofs.Common.{◌∙◌}
use Rattle.gl_top_matches.proofs.Taking.{takes_all, tells}
use Rattle.gl_top_matches.proofs.commands.matched.Goals as goal

pub unreachable-requires : goal.unreachable-requires
unreachable-requires c =
    c.in_default.not-OutOfMemory
    (c.kind.ensures ∙ c.in-Err.ensures.passes (takes_all c.args.words.now _ c.args.of _ c.requires.app c.texts.ensures c.requires.words))

pub returns-in-Ok : goal.returns-in-Ok
returns-in-Ok c =
    tells c.args.words.now _ c.args.of _ c.in-Ok.matches c.requires.app c.texts.ensures c.requires.words c.in-Ok.ensures.matches
