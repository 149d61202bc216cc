use Rattle.std.proofs.Common.{◌∙◌, List, Option, Bor, sym, subst}
use Rattle.gl_bits.specs.Words.{Word}
use Rattle.gl_vcd.specs.declared.signals.Signals.{Signals}
use Rattle.gl_vcd.specs.Standing.{GoesOn, HaveRoom, signals_of}
use Rattle.gl_vcd.proofs.Went.{took_part}
use Rattle.gl_vcd.proofs.undumping.show_token.Goals as goal

pub put-requires-clause-room : goal.put-requires-clause-room
put-requires-clause-room g c =
    let went = took_part (GoesOn c.args.changing.now c.take.new.self) c.take.result (sym c.is_err.ensures.value ∙ c.if-is_err.false) c.take.ensures.goes in
    let same = c.requires.same ∙ sym went.signals' in
    subst (λ (vs : List (Option Word)). HaveRoom (signals_of c.args.showing.now.signals.now) vs) (sym c.as_slice.ensures.value)
    (subst (λ (x : Bor Signals). HaveRoom (signals_of x.now) c.take.new.self.values.items) (sym same) went.ready.room)
