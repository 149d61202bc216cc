use Rattle.std.proofs.Common.{◌≡◌, Some, refl, sym, subst, ◌∙◌}
use Rattle.gl_algebra.specs.declared.figures.Figures.{Figures}
use Rattle.gl_algebra.specs.FigureTable.{IsSound, delayed, union_figures, wait_of}
use Rattle.gl_algebra.proofs.SmallLemmas.{small-some}
use Rattle.gl_algebra.proofs.SoundLemmas.{delayed_sound, merged_sound}
use Rattle.gl_queue.proofs.union.UnionOf.figures.Goals as goal

pub unwrap-requires : goal.unwrap-requires
unwrap-requires c =
    let f : Figures = union_figures c.args.self.now.left c.args.self.now.right in
    let e : c.union_figures.result ≡ Some f = c.union_figures.ensures ∙ small-some f c.requires in
    rw e refl

pub returns-clause-value : goal.returns-clause-value
returns-clause-value c =
    let f : Figures = union_figures c.args.self.now.left c.args.self.now.right in
    let e : c.union_figures.result ≡ Some f = c.union_figures.ensures ∙ small-some f c.requires in
    let h = c.unwrap.ensures in
    cc (e, h)

pub returns-clause-sound : goal.returns-clause-sound
returns-clause-sound c left right =
    let p : Figures = c.args.self.now.left in
    let q : Figures = c.args.self.now.right in
    subst IsSound (sym (returns-clause-value c))
    (merged_sound (delayed (wait_of p q) p) (delayed (wait_of q p) q) (delayed_sound (wait_of p q) p left) (delayed_sound (wait_of q p) q right))
