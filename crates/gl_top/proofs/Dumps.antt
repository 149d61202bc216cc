-- Words that name a dump, and how its text may stop `undump`.
use Rattle.std.proofs.Common.{◌≡◌, ℕ, true, List, Ok, Err, refl, sym, ap, subst, ◌∙◌, arith}
use Rattle.gl_vcd.specs.declared.fault.VcdFault.{VcdFault}
use Rattle.gl_vcd.specs.Dumped.{OfLines}
use Rattle.gl_vcd.specs.Reading.{dump_of}
use Rattle.gl_vcd.specs.Signals.{Dump, lines_of}
use Rattle.gl_outside.specs.Told.{Told}
use Rattle.gl_top_forms.specs.declared.command.Command.TheVariants.{Undump}
use Rattle.gl_top_forms.specs.declared.command.Part.{Part}
use Rattle.gl_top_forms.specs.declared.command.Part.TheVariants as part
use Rattle.gl_top_forms.specs.Forms.{IsCommand, IsNamed}
use Rattle.gl_top_forms.proofs.Named.{dump_is_undumped, is_beside, undump_names_dump}
use Rattle.gl_top_status.specs.declared.refusal.Refusal.{Refusal}
use Rattle.gl_top_status.specs.declared.refusal.Refusal.TheVariants as refusal
use Rattle.gl_top_status.specs.Texts.{HasText}
use Rattle.gl_top_status.proofs.Fetched.{has_text}
use Rattle.gl_top.specs.Verdicts.{IsUndumped}
use Rattle.gl_top.proofs.Failing.{one_error}

pub undump_names : (words : List (List ℕ)) → IsCommand words Undump → IsNamed words part.Dump
undump_names words is = record { command = Undump; is = is; names = (0, omega arith, refl) }

-- words that name a text beside a schema name no dump
pub no_dump : (words : List (List ℕ)) (p : Part) → is_beside p ≡ true → IsNamed words p → IsNamed words part.Dump → ⊥
no_dump words p beside is h =
    let same = undump_names_dump words p (dump_is_undumped words h) is in
    let none : is_beside part.Dump ≡ true = subst (λ (x : Part). is_beside x ≡ true) (sym same) beside in
    cc

pub record DumpFails (text : List ℕ) (r : Refusal) : Type 0 where
  pub fault : VcdFault
  pub found : dump_of text ≡ Err fault
  pub is : r ≡ refusal.Dump fault

pub dump_once : (a b : Refusal) (text : List ℕ) → DumpFails text a → DumpFails text b → a ≡ b
dump_once a b text f g = f.is ∙ ap refusal.Dump (one_error (dump_of text) f.fault g.fault f.found g.found) ∙ sym g.is

-- the lines that the text of the words shows
pub undumped : (told : List ℕ → Told) (words : List (List ℕ)) (v : List ℕ) (dump : Dump) → IsCommand words Undump → HasText told words part.Dump (λ text. v ≡ text) → dump_of v ≡ Ok dump → IsUndumped told words (lines_of dump)
undumped told words v dump is has reads = record {
  is = is;
  text = has_text told words part.Dump (λ text. OfLines text (λ lines. lines_of dump ≡ lines)) v has (record { dump = dump; reads = reads; is = refl });
}
