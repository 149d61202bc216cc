-- What `compile`, `figures` and `explain` write of the texts that they name, and `many` and `manyfigures` of theirs.
use Rattle.std.specs.Prelude.{◌≡◌, ℕ, List, [], codes}
use Rattle.gl_outside.specs.Told.{Told}
use Rattle.gl_schema.specs.declared.schema.Schema.{Schema}
use Rattle.gl_query.specs.declared.tree.Statement.{Statement}
use Rattle.gl_elaborate.specs.Plans.{plan_of}
use Rattle.gl_explain.specs.Lines.{plan_text}
use Rattle.gl_compiler.specs.Built.{latency_of, gaps_of}
use Rattle.gl_compiler.specs.Meets.{Meets}
use Rattle.gl_many.specs.Meets.{MeetTogether, shared_gaps}
use Rattle.gl_top_forms.specs.declared.command.Command.{Command}
use Rattle.gl_top_forms.specs.declared.command.Command.TheVariants.{Compile, Figures, Explain, Many, ManyFigures}
use Rattle.gl_top_forms.specs.Forms.{IsCommand}
use Rattle.gl_top_inputs.specs.Figuring.{IsFigured, figure_lines_of_all}
use Rattle.gl_top_inputs.specs.Passing.{QueriesPass, QueryPasses}

-- what is written of the version
unfoldable pub version_line : List ℕ
version_line = codes "glacier 0.2\n"

-- what is written of texts that nothing refuses
unfoldable pub fine_line : List ℕ
fine_line = codes "nothing is refused\n"

-- what such a command writes of a statement, and the text that it leaves: the Verilog text, which meets the statement;
-- the figures that are printed for it and what it costs; or the statement and its plan
abbrev pub Shows : Command → Schema → Statement → List ℕ → List ℕ → Type 0
Shows Compile schema statement bytes text =
    (bytes ≡ text) × Meets schema statement (latency_of schema statement) (gaps_of schema statement) text
Shows Figures schema statement bytes text =
    IsFigured schema statement bytes text × Meets schema statement (latency_of schema statement)
    (gaps_of schema statement) text
Shows Explain schema statement bytes text =
    (bytes ≡ plan_text schema statement (plan_of schema statement)) × (text ≡ [])
Shows command schema statement bytes text = ⊥

-- the texts that such a command names pass, and this is what it shows of them
pub record IsShownOf (told : List ℕ → Told) (words : List (List ℕ)) (bytes text : List ℕ) : Type 0 where
  pub command : Command
  pub is : IsCommand words command
  pub schema : Schema
  pub statement : Statement
  pub passes : QueryPasses told words schema statement
  pub shows : Shows command schema statement bytes text

-- ---- of several statements on one module

-- what such a command writes of them, and the Verilog text that it leaves, which meets all of them: that text, or the
-- latency of each and the gaps
abbrev pub ShowsAll : Command → Schema → List Statement → List ℕ → List ℕ → Type 0
ShowsAll Many schema statements bytes text =
    (bytes ≡ text) × MeetTogether schema statements (shared_gaps schema statements) text
ShowsAll ManyFigures schema statements bytes text =
    (bytes ≡ figure_lines_of_all schema statements)
    × MeetTogether schema statements (shared_gaps schema statements) text
ShowsAll command schema statements bytes text = ⊥

-- the texts that such a command names pass, and this is what it shows of them
pub record AreShownOf (told : List ℕ → Told) (words : List (List ℕ)) (bytes text : List ℕ) : Type 0 where
  pub command : Command
  pub is : IsCommand words command
  pub schema : Schema
  pub statements : List Statement
  pub passes : QueriesPass told words schema statements
  pub shows : ShowsAll command schema statements bytes text
