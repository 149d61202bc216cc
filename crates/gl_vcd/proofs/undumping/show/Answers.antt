use Rattle.std.proofs.Common.{Bool, List, ℕ, ap, sym, subst, ◌∙◌}
use Rattle.gl_outside.specs.States.{Broke, Took}
use Rattle.gl_vcd.specs.Showings.{lines_left}
use Rattle.gl_vcd.specs.Standing.{signals_of}
use Rattle.gl_vcd.proofs.Left.{all_left}
use Rattle.gl_vcd.proofs.Went.{behind_of, is_behind}
use Rattle.gl_vcd.proofs.undumping.show.Goals as goal

pub show_changes-requires-clause-judged : goal.show_changes-requires-clause-judged
show_changes-requires-clause-judged g c =
    let signals = signals_of c.args.signals.now in
    let behind = is_behind signals in
    record {
      read = behind_of signals;
      keeps = c.in-Ok-new.ensures.keeps (behind_of signals) behind;
      tells = c.requires.judged (behind_of signals) behind;
    }

pub returns-in-Ok-show_changes : goal.returns-in-Ok-show_changes
returns-in-Ok-show_changes g c = λ r dump behind tells.
    subst (λ (bytes : List ℕ). Took (g.K.Sink.state c.args.out.now) (g.K.Sink.state c.show_changes.new.out) bytes)
    (ap (λ (told : Bool). lines_left told dump r) c.in-Ok.ensures.untold ∙ sym (all_left dump r behind.time'))
    (c.in-Ok-show_changes.ensures r dump (c.in-Ok-new.ensures.keeps r behind) tells)

pub returns : goal.returns
returns g c = λ r dump behind tells.
    subst (λ (bytes : List ℕ). Broke (g.K.Sink.state c.args.out.now) (g.K.Sink.state c.show_changes.new.out) bytes)
    (ap (λ (told : Bool). lines_left told dump r) c.in-Ok.ensures.untold ∙ sym (all_left dump r behind.time'))
    (c.in-Err.ensures r dump (c.in-Ok-new.ensures.keeps r behind) tells)
