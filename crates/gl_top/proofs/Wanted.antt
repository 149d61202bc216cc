-- What a command that compiles names, and what is given of what was compiled.
use Rattle.std.proofs.Common.{◌≡◌, ◌⊎◌, ℕ, List, Result, Ok, Err, inl, inr, refl, arith}
use Rattle.std.specs.Prelude.{IfOk}
use Rattle.gl_outside.specs.Told.{Told}
use Rattle.gl_compiler.specs.declared.compiling.Compiled.{Compiled}
use Rattle.gl_many.specs.declared.compiling.Many.{Many}
use Rattle.gl_many.specs.Compiles.{statements_in}
use Rattle.gl_top_forms.specs.declared.command.Command.TheVariants as command
use Rattle.gl_top_forms.specs.declared.command.Part.TheVariants as part
use Rattle.gl_top_forms.specs.Forms.{IsCommand, IsNamed}
use Rattle.gl_top_inputs.specs.Figuring.{figure_lines, figure_lines_of_all}
use Rattle.gl_top_inputs.specs.Passing.{AreCompiledTogether, IsCompiled, QueriesPass, QueryPasses}
use Rattle.gl_top.specs.Verdicts.{IsGiven, OfQueries, OfTexts}

-- ---- the texts

pub names_query : (words : List (List ℕ)) → IsCommand words command.Compile ⊎ IsCommand words command.Figures → IsNamed words part.Query
names_query words (inl is) = record { command = command.Compile; is = is; names = (1, omega arith, refl) }
names_query words (inr is) = record { command = command.Figures; is = is; names = (1, omega arith, refl) }

pub names_queries : (words : List (List ℕ)) → IsCommand words command.Many ⊎ IsCommand words command.ManyFigures → IsNamed words part.Queries
names_queries words (inl is) = record { command = command.Many; is = is; names = (1, omega arith, refl) }
names_queries words (inr is) = record { command = command.ManyFigures; is = is; names = (1, omega arith, refl) }

-- two facts about what was made, if it was
pub both : {A E : Type 0} (P Q : A → Type 0) (r : Result A E) → IfOk r P → IfOk r Q → IfOk r (λ x. P x × Q x)
both P Q (Ok x) p q = (p, q)
both P Q (Err e) p q = tt

-- ---- what is given

pub text_given : (c : Compiled) (told : List ℕ → Told) (words : List (List ℕ)) → IsCompiled c × QueryPasses told words c.schema c.statement → IsCommand words command.Compile
    → IsGiven told words c.text.items c.text.items
text_given c told words passes is = OfTexts (record { command = command.Compile; is = is; schema = c.schema; statement = c.statement; passes = passes.1; shows = (refl, passes.0.meets) })

pub figures_given : (c : Compiled) (bytes : List ℕ) → bytes ≡ figure_lines c.printed c.cost → (told : List ℕ → Told) (words : List (List ℕ))
    → IsCompiled c × QueryPasses told words c.schema c.statement → IsCommand words command.Figures → IsGiven told words bytes c.text.items
figures_given c bytes shown told words passes is = OfTexts (record {
  command = command.Figures;
  is = is;
  schema = c.schema;
  statement = c.statement;
  passes = passes.1;
  shows = (
    record {
      printed = c.printed;
      cost = c.cost;
      latency = passes.0.latency;
      gaps = passes.0.gaps;
      closer = passes.0.closer;
      copies = passes.0.copies;
      has = passes.0.cost;
      shown = shown;
    },
    passes.0.meets,
  );
})

-- and of several queries
pub text_of_all_given : (m : Many) (told : List ℕ → Told) (words : List (List ℕ)) → AreCompiledTogether m × QueriesPass told words m.schema (statements_in m) → IsCommand words command.Many
    → IsGiven told words m.text.items m.text.items
text_of_all_given m told words passes is =
    OfQueries (record { command = command.Many; is = is; schema = m.schema; statements = statements_in m; passes = passes.1; shows = (refl, passes.0.meets) })

pub figures_of_all_given : (m : Many) (bytes : List ℕ) → bytes ≡ figure_lines_of_all m.schema (statements_in m) → (told : List ℕ → Told) (words : List (List ℕ))
    → AreCompiledTogether m × QueriesPass told words m.schema (statements_in m) → IsCommand words command.ManyFigures → IsGiven told words bytes m.text.items
figures_of_all_given m bytes shown told words passes is =
    OfQueries (record { command = command.ManyFigures; is = is; schema = m.schema; statements = statements_in m; passes = passes.1; shows = (shown, passes.0.meets) })
