use Rattle.std.proofs.Common.{◌≡◌, ◌∙◌, None, Some, ap, refl, sym}
use Rattle.gl_figures.proofs.RootLemmas.{no_windows}
use Rattle.gl_wiring.proofs.roots.put_root.Goals as goal

pub put_unspared-requires : goal.put_unspared-requires
put_unspared-requires c = record { can = c.requires.can; none = sym c.requires.spare ∙ c.in_default.is; words = c.requires.words }

pub at-window-requires : goal.at-window-requires
at-window-requires c = (
  record {
    id = c.args.root;
    source = c.in-Window.source;
    body = c.in-Window.body;
    size = c.in-Window.size;
    advance = c.in-Window.advance;
  },
  refl,
  c.node.ensures.node ∙ ap Some c.in-Window.is,
)

pub put_spare-requires : goal.put_spare-requires
put_spare-requires c =
    let at = c.at-window.ensures in
    record {
      node = record { window' = at.node; spare' = rw at.id (sym c.requires.spare ∙ c.in-Some.is) };
      can = rw at.id c.requires.can;
      words = c.requires.words;
    }

pub returns : goal.returns
returns c = rw c.at-window.ensures.id at c.put_spare.ensures

pub unreachable-requires : goal.unreachable-requires
unreachable-requires c =
    let none : None ≡ Some c.in-Some.spare =
    no_windows c.args.site.plan.now c.args.root c.node.result.now c.node.ensures.node c.in_default-node.not-Window ∙ sym c.requires.spare ∙ c.in-Some.is in
    cc (none)
