use Rattle.gl_net.proofs.Growth.{adds_keeps, adds_has}
use Rattle.gl_net.proofs.builder.NetBuilder.add.Goals as goal

pub returns-clause-keeps : goal.returns-clause-keeps
returns-clause-keeps c = adds_keeps _ _ _ _ c.in_ok-node.ensures.ok c.requires.closed

pub returns-clause-bus : goal.returns-clause-bus
returns-clause-bus c = record { there = adds_has _ _ _ _ c.in_ok-node.ensures.ok _ c.requires.shape; width = c.requires.width }
