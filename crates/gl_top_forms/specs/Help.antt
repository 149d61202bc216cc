-- What help writes: how each command is called, and what it writes.
use Rattle.std.specs.Prelude.{ℕ, List, [], ◌∷◌, ◌++◌, codes, Option, Some, None}
use Rattle.std.specs.List.{flat_map}
use Rattle.gl_top_forms.specs.declared.command.Command.{Command}
use Rattle.gl_top_forms.specs.declared.command.Command.TheVariants.{Compile, Figures, Explain, Run, Sim, Load, Vcd, Undump, Many, ManyFigures, ManyRun, WhyRun, Why, HelpOf, Help, DashedHelp, Version}

-- the two lines of a command
unfoldable pub help_lines : Command → List ℕ
help_lines Compile = codes "compile S Q\n    the Verilog text of the query Q over the schema S\n"
help_lines Figures = codes "figures S Q\n    latency and gaps in cycles, copies, bits of registers and of memories\n"
help_lines Explain = codes "explain S Q\n    the query in its canonical form, and its plan\n"
help_lines Run = codes "run S Q T [--start N]\n    what the Verilog text does over the tuple file T, line by line\n"
help_lines Sim = codes "sim S V T --extra N\n    what the Verilog text V does over T, up to N cycles behind it\n"
help_lines Load = codes "load N\n    what a fixed query makes of N tuples, 1 to 1000000\n"
help_lines Vcd = codes "vcd S Q T [--start N]\n    the run over T as a value change dump\n"
help_lines Undump = codes "undump D\n    the lines of the result that the dump D shows\n"
help_lines Many = codes "many S Q\n    one Verilog text for up to eight queries, parted by ;\n"
help_lines ManyFigures = codes "manyfigures S Q\n    the latency of each of these queries, and the gap of all\n"
help_lines ManyRun = codes "manyrun S Q T [--start N]\n    what that text does over T, each line with its query's name\n"
help_lines WhyRun = codes "why S Q [T]\n    why these texts are refused, where, and what to write in its place\n"
help_lines Why = codes "why S Q [T]\n    why these texts are refused, where, and what to write in its place\n"
help_lines HelpOf = codes "help [COMMAND]\n    these lines, or those of one command\n"
help_lines Help = codes "help\n    these lines\n"
help_lines DashedHelp = codes "--help\n    these lines\n"
help_lines Version = codes "--version\n    the version of the program\n"

-- what the letters stand for
unfoldable pub letter_line : List ℕ
letter_line = codes "S is a schema, Q a query, T a tuple file, V a Verilog text, D a dump: names of files. N is a number.\n"

-- the commands that help tells of: one, or all that differ
abbrev pub told_commands : Option Command → List Command
told_commands (Some c) = c ∷ []
told_commands None =
    Compile ∷ Figures ∷ Explain ∷ Run ∷ Sim ∷ Load ∷ Vcd ∷ Undump ∷ Many ∷ ManyFigures ∷ ManyRun ∷ WhyRun
    ∷ HelpOf ∷ Version ∷ []

-- the lines of the command that help is asked on, or of all
unfoldable pub help_text : Option Command → List ℕ
help_text topic = flat_map help_lines (told_commands topic) ++ letter_line
