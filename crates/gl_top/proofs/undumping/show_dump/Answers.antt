use Rattle.std.proofs.Common.{◌≡◌, [], Err, inl, refl, sym, subst}
use Rattle.gl_outside.specs.States.{SinkState, Took}
use Rattle.gl_outside.proofs.Takes.{took_none}
use Rattle.gl_vcd.specs.Reading.{dump_of}
use Rattle.gl_vcd.specs.Signals.{lines_of}
use Rattle.gl_top_forms.specs.declared.command.Part.TheVariants as part
use Rattle.gl_top_status.specs.declared.refusal.Refusal.TheVariants as refusal
use Rattle.gl_top_status.proofs.Fetched.{has_text}
use Rattle.gl_top.specs.Verdicts.{OfDump, Refused, Wrote, WroteCut}
use Rattle.gl_top.proofs.Dumps.{undump_names, undumped}
use Rattle.gl_top.proofs.undumping.show_dump.Goals as goal

pub returns-in-Done-clause-answer : goal.returns-in-Done-clause-answer
returns-in-Done-clause-answer g c = λ ch has calm.
    let of = c.in-Done.ensures in
    Wrote (record {
      bytes = lines_of of.dump;
      given = OfDump (undumped ch.old.told c.args.words.now c.args.dump.now of.dump c.requires.undumps has of.reads) c.requires.empty;
      wrote = of.is;
      silent = took_none _;
      calm = calm;
      done = refl;
    })

pub returns-in-Fault-clause-answer : goal.returns-in-Fault-clause-answer
returns-in-Fault-clause-answer g c = λ ch has calm.
    let fault = c.in-Fault.fault in
    Refused (record {
      refusal = refusal.Dump fault;
      cause = (
        record {
          named = undump_names c.args.words.now c.requires.undumps;
          text = has_text ch.old.told c.args.words.now part.Dump (λ text. dump_of text ≡ Err fault) c.args.dump.now has c.in-Fault.ensures.0;
        },
        calm,
      );
      untouched = let P : SinkState → Type 0 = λ s. Took (g.K.Sink.state c.args.desk.now.out) s [] in subst P (sym c.in-Fault.ensures.1) (took_none _);
      noted = c.tell.ensures;
      left = inl c.requires.empty;
    })

pub returns-in-WriteFault-clause-answer : goal.returns-in-WriteFault-clause-answer
returns-in-WriteFault-clause-answer g c = λ ch has calm.
    let of = c.in-WriteFault.ensures in
    WroteCut (record {
      bytes = lines_of of.dump;
      given = OfDump (undumped ch.old.told c.args.words.now c.args.dump.now of.dump c.requires.undumps has of.reads) c.requires.empty;
      wrote = of.is;
      calm = calm;
      noted = c.tell_write_fault.ensures;
    })

pub returns-in-Memory-clause-answer : goal.returns-in-Memory-clause-answer
returns-in-Memory-clause-answer g c = λ ch has calm. Refused (record {
  refusal = refusal.Memory;
  cause = calm;
  untouched = let P : SinkState → Type 0 = λ s. Took (g.K.Sink.state c.args.desk.now.out) s [] in subst P (sym c.in-Memory.ensures) (took_none _);
  noted = c.tell-in-Memory.ensures;
  left = inl c.requires.empty;
})
