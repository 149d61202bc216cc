use Rattle.std.proofs.Common.{◌≡◌, ◌+◌, ℕ, List, true, false, Ok, refl, sym, ◌∙◌, subst}
use Rattle.std.specs.Prelude.{is_some}
use Rattle.gl_schema.specs.declared.schema.Schema.{Schema}
use Rattle.csv.specs.Records.{fields_of}
use Rattle.gl_tuple_reader.specs.declared.progress.Progress.{Progress}
use Rattle.gl_tuple_reader.specs.Entries.{Gives, text_checked, cycle_of}
use Rattle.gl_tuple_reader.specs.Filing.{next_filing}
use Rattle.gl_tuple_reader.specs.Settings.{filed, next_progress, says_set, sets_checked}
use Rattle.gl_tuple_reader.proofs.progress.Progress.take.Goals as goal

-- behind a record with a cycle
later_is : (schema : Schema) (p : Progress) (r : List (List ℕ)) → is_some p.filing.current ≡ true → next_progress schema p r ≡ filed p (next_filing schema p.filing r)
unfolding next_progress
later_is schema p r some' = rw some' refl

-- the first one
first_is : (schema : Schema) (p : Progress) (r : List (List ℕ)) (u v : Unit {0}) (cycle : ℕ) → is_some p.filing.current ≡ false → text_checked (p.filing.records + 1) r ≡ Ok u → says_set r ≡ false
    → cycle_of (p.filing.records + 1) r ≡ Ok cycle → sets_checked (p.filing.records + 1) p.sets ≡ Ok v → next_progress schema p r ≡ filed p (next_filing schema p.filing r)
unfolding next_progress
first_is schema p r u v cycle none text says cycled whole = rw (none, text, says, cycled, whole) refl

pub returns-then-has_begun : goal.returns-then-has_begun
returns-then-has_begun c = subst (Gives c.file.result) (sym (later_is c.args.schema.now c.args.self (fields_of c.args.fields.now) (sym c.has_begun.ensures ∙ c.if-has_begun.true))) c.file.ensures

pub returns : goal.returns
returns c =
    subst (Gives c.file-2.result) (sym (first_is c.args.schema.now c.args.self (fields_of c.args.fields.now) c.in_ok-check_text.field-0 c.in_ok-check_sets.field-0 c.in_ok-cycle_of.field-0
    (sym c.has_begun.ensures ∙ c.if-has_begun.false) (sym c.in_ok-check_text.ensures) (sym c.says_set.ensures ∙ c.if-says_set.false) (sym c.in_ok-cycle_of.ensures)
    (sym (rw c.as_slice.ensures at c.in_ok-check_sets.ensures)))) c.file-2.ensures
