-- Worked command lines.
use Rattle.std.specs.Prelude.{◌≡◌, ℕ, List, [], ◌∷◌, codes, Some, None}
use Rattle.gl_verilog.specs.declared.start.Start.{Start}
use Rattle.gl_verilog.specs.declared.start.Start.TheVariants as from
use Rattle.gl_top_forms.specs.declared.command.Command.{Command}
use Rattle.gl_top_forms.specs.declared.command.Command.TheVariants.{Compile, Figures, Explain, Run, Sim, Load, Vcd, Undump, Many, ManyFigures, ManyRun, WhyRun, Why, HelpOf, Help, DashedHelp, Version}
use Rattle.gl_top_forms.specs.Forms.{command_of, extra_of, load_of, names_of, start_of, topic_of}

-- the name of a schema's text
abbrev pub s : List ℕ
s = codes "S"

-- the name of a query's text
abbrev pub q : List ℕ
q = codes "Q"

-- the name of a tuple file
abbrev pub t : List ℕ
t = codes "T"

-- the name of a module's text
abbrev pub v : List ℕ
v = codes "V"

-- the words that load, with these behind the command
abbrev pub load : List (List ℕ) → List (List ℕ)
load words = codes "load" ∷ words

-- the words that run a query, with these behind the command
abbrev pub run : List (List ℕ) → List (List ℕ)
run words = codes "run" ∷ words

-- the words that dump a run, with these behind the command
abbrev pub vcd : List (List ℕ) → List (List ℕ)
vcd words = codes "vcd" ∷ words

-- the words that read a dump, with these behind the command
abbrev pub undump : List (List ℕ) → List (List ℕ)
undump words = codes "undump" ∷ words

-- the words that run several queries, with these behind the command
abbrev pub many_run : List (List ℕ) → List (List ℕ)
many_run words = codes "manyrun" ∷ words

-- the words that simulate a module, with these behind the command
abbrev pub sim : List (List ℕ) → List (List ℕ)
sim words = codes "sim" ∷ words

-- the words are this command with these names
abbrev pub Names : List (List ℕ) → Command → List (List ℕ) → Type 0
Names words c names = (command_of words ≡ Some c) × (names_of words ≡ names)

-- the words run the texts S, Q and T from this start
abbrev pub RunsFrom : List (List ℕ) → Start → Type 0
RunsFrom words start = Names words Run (s ∷ q ∷ t ∷ []) × (start_of words ≡ start)

-- these words run the texts S, Q and T of several queries from this start
abbrev pub RunsManyFrom : List (List ℕ) → Start → Type 0
RunsManyFrom words start = Names words ManyRun (s ∷ q ∷ t ∷ []) × (start_of words ≡ start)

-- the words simulate the texts of these names, and wait so many cycles for the end
abbrev pub Waits : List (List ℕ) → List (List ℕ) → ℕ → Type 0
Waits words names n = Names words Sim names × (extra_of words ≡ n)

-- the words load so many tuples
abbrev pub Loads : List (List ℕ) → ℕ → Type 0
Loads words n = (command_of words ≡ Some Load) × (load_of words ≡ Some n)

-- the words ask for help on this command
abbrev pub HelpsOn : List (List ℕ) → Command → Type 0
HelpsOn words c = (command_of words ≡ Some HelpOf) × (topic_of words ≡ Some c)

-- the words are of no form
abbrev pub IsFormless : List (List ℕ) → Type 0
IsFormless words = command_of words ≡ None

-- what worked command lines mean, and which have no form
pub record WorkedForms : Type 0 where
  pub compile : Names (codes "compile" ∷ s ∷ q ∷ []) Compile (s ∷ q ∷ [])
  pub figures : Names (codes "figures" ∷ s ∷ q ∷ []) Figures (s ∷ q ∷ [])
  pub explain : Names (codes "explain" ∷ s ∷ q ∷ []) Explain (s ∷ q ∷ [])
  pub plain : RunsFrom (run (s ∷ q ∷ t ∷ [])) from.Zero
  -- the option stands anywhere behind the command, and its value is a word of its own or stands behind `=`
  pub first : RunsFrom (run (codes "--start" ∷ codes "5" ∷ s ∷ q ∷ t ∷ [])) (from.Drawn 5)
  pub within : RunsFrom (run (s ∷ codes "--start=5" ∷ q ∷ t ∷ [])) (from.Drawn 5)
  pub last : RunsFrom (run (s ∷ q ∷ t ∷ codes "--start" ∷ codes "5" ∷ [])) (from.Drawn 5)
  pub joined_zero : RunsFrom (run (codes "--start=0" ∷ s ∷ q ∷ t ∷ [])) from.Zero
  pub zero_apart : RunsFrom (run (s ∷ q ∷ t ∷ codes "--start" ∷ codes "0" ∷ [])) from.Zero
  pub greatest : RunsFrom (run (s ∷ q ∷ t ∷ codes "--start=18446744073709551615" ∷ []))
      (from.Drawn 18446744073709551615)
  pub too_great : IsFormless (run (s ∷ q ∷ t ∷ codes "--start=18446744073709551616" ∷ []))
  pub without_value : IsFormless (run (s ∷ q ∷ t ∷ codes "--start" ∷ []))
  pub no_number : IsFormless (run (s ∷ q ∷ t ∷ codes "--start" ∷ codes "x" ∷ []))
  pub empty_value : IsFormless (run (s ∷ q ∷ t ∷ codes "--start=" ∷ []))
  pub two_values : IsFormless (run (s ∷ q ∷ t ∷ codes "--start" ∷ codes "5" ∷ codes "--start" ∷ codes "6" ∷ []))
  pub no_option : IsFormless (run (s ∷ q ∷ t ∷ codes "--" ∷ []))
  pub a_name_too_few : IsFormless (run (s ∷ q ∷ []))
  pub a_name_too_many : IsFormless (run (s ∷ q ∷ t ∷ codes "U" ∷ []))
  pub start_of_no_run : IsFormless (codes "compile" ∷ s ∷ q ∷ codes "--start" ∷ codes "5" ∷ [])
  pub extra_of_no_sim : IsFormless (run (s ∷ q ∷ t ∷ codes "--extra" ∷ codes "5" ∷ []))
  pub sim_last : Waits (sim (codes "s.txt" ∷ codes "v.v" ∷ codes "t.csv" ∷ codes "--extra" ∷ codes "5" ∷ []))
      (codes "s.txt" ∷ codes "v.v" ∷ codes "t.csv" ∷ []) 5
  pub sim_joined : Waits (sim (codes "--extra=0" ∷ s ∷ v ∷ t ∷ [])) (s ∷ v ∷ t ∷ []) 0
  pub sim_most : Waits (sim (s ∷ codes "--extra" ∷ codes "1000000" ∷ v ∷ t ∷ [])) (s ∷ v ∷ t ∷ []) 1000000
  pub sim_too_many : IsFormless (sim (s ∷ v ∷ t ∷ codes "--extra" ∷ codes "1000001" ∷ []))
  pub sim_no_extra : IsFormless (sim (s ∷ v ∷ t ∷ []))
  pub sim_two_extras : IsFormless (sim (codes "--extra=5" ∷ s ∷ v ∷ t ∷ codes "--extra" ∷ codes "5" ∷ []))
  pub sim_without_value : IsFormless (sim (s ∷ v ∷ t ∷ codes "--extra" ∷ []))
  pub sim_empty_value : IsFormless (sim (s ∷ v ∷ t ∷ codes "--extra=" ∷ []))
  pub sim_below_zero : IsFormless (sim (s ∷ v ∷ t ∷ codes "--extra" ∷ codes "-1" ∷ []))
  pub sim_start : IsFormless (sim (s ∷ v ∷ t ∷ codes "--start" ∷ codes "5" ∷ []))
  pub sim_both : IsFormless (sim (s ∷ v ∷ t ∷ codes "--extra=5" ∷ codes "--start=5" ∷ []))
  pub sim_a_name_too_few : IsFormless (sim (s ∷ v ∷ codes "--extra=5" ∷ []))
  pub sim_a_name_too_many : IsFormless (sim (s ∷ v ∷ t ∷ codes "U" ∷ codes "--extra=5" ∷ []))
  pub sim_no_option : IsFormless (sim (s ∷ v ∷ t ∷ codes "--extra=5" ∷ codes "--" ∷ []))
  pub sim_help : IsFormless (sim (s ∷ v ∷ t ∷ codes "--extra=5" ∷ codes "--help" ∷ []))
  pub dumps : Names (vcd (s ∷ q ∷ t ∷ [])) Vcd (s ∷ q ∷ t ∷ [])
  pub dumps_from : Names (vcd (s ∷ codes "--start=5" ∷ q ∷ t ∷ [])) Vcd (s ∷ q ∷ t ∷ [])
  pub dumps_no_extra : IsFormless (vcd (s ∷ q ∷ t ∷ codes "--extra=5" ∷ []))
  pub dumps_too_few : IsFormless (vcd (s ∷ q ∷ []))
  pub undumps : Names (undump (codes "D" ∷ [])) Undump (codes "D" ∷ [])
  pub undumps_nothing : IsFormless (undump [])
  pub undumps_two : IsFormless (undump (codes "D" ∷ codes "E" ∷ []))
  pub undumps_no_start : IsFormless (undump (codes "D" ∷ codes "--start=5" ∷ []))
  pub many : Names (codes "many" ∷ s ∷ q ∷ []) Many (s ∷ q ∷ [])
  pub many_no_start : IsFormless (codes "many" ∷ s ∷ q ∷ codes "--start=5" ∷ [])
  pub many_no_tuples : IsFormless (codes "many" ∷ s ∷ q ∷ t ∷ [])
  pub many_figures : Names (codes "manyfigures" ∷ s ∷ q ∷ []) ManyFigures (s ∷ q ∷ [])
  pub many_figures_no_start : IsFormless (codes "manyfigures" ∷ s ∷ q ∷ codes "--start" ∷ codes "5" ∷ [])
  pub many_runs : RunsManyFrom (many_run (s ∷ q ∷ t ∷ [])) from.Zero
  pub many_runs_from : RunsManyFrom (many_run (s ∷ codes "--start" ∷ codes "5" ∷ q ∷ t ∷ [])) (from.Drawn 5)
  pub many_runs_too_few : IsFormless (many_run (s ∷ q ∷ []))
  pub many_runs_no_extra : IsFormless (many_run (s ∷ q ∷ t ∷ codes "--extra=5" ∷ []))
  pub why : Names (codes "why" ∷ s ∷ q ∷ []) Why (s ∷ q ∷ [])
  pub why_run : Names (codes "why" ∷ s ∷ q ∷ t ∷ []) WhyRun (s ∷ q ∷ t ∷ [])
  pub why_too_few : IsFormless (codes "why" ∷ s ∷ [])
  pub why_too_many : IsFormless (codes "why" ∷ s ∷ q ∷ t ∷ v ∷ [])
  pub why_no_start : IsFormless (codes "why" ∷ s ∷ q ∷ t ∷ codes "--start=5" ∷ [])
  pub load_some : Loads (load (codes "1000" ∷ [])) 1000
  pub load_one : Loads (load (codes "1" ∷ [])) 1
  pub load_most : Loads (load (codes "1000000" ∷ [])) 1000000
  pub load_zero : IsFormless (load (codes "0" ∷ []))
  pub load_nothing : IsFormless (load [])
  pub load_too_many : IsFormless (load (codes "1000001" ∷ []))
  pub load_no_number : IsFormless (load (codes "5x" ∷ []))
  pub load_twice : IsFormless (load (codes "1" ∷ codes "2" ∷ []))
  pub load_start : IsFormless (load (codes "--start=1" ∷ codes "5" ∷ []))
  pub load_dashed : IsFormless (load (codes "-5" ∷ []))
  pub version : Names (codes "--version" ∷ []) Version []
  pub version_and_a_name : IsFormless (codes "--version" ∷ s ∷ [])
  pub version_and_an_option : IsFormless (codes "--version" ∷ codes "--start=5" ∷ [])
  pub version_twice : IsFormless (codes "--version" ∷ codes "--version" ∷ [])
  -- `help` asks for help in the command's place alone, and behind it stands a command's word
  pub dashed_help : Names (codes "--help" ∷ []) DashedHelp []
  pub dashed_help_on_run : IsFormless (codes "--help" ∷ codes "run" ∷ [])
  pub dashed_help_of_run : IsFormless (run (s ∷ q ∷ t ∷ codes "--help" ∷ []))
  pub help : Names (codes "help" ∷ []) Help []
  pub help_on_run : HelpsOn (codes "help" ∷ codes "run" ∷ []) Run
  pub help_on_help : HelpsOn (codes "help" ∷ codes "help" ∷ []) HelpOf
  pub help_on_nothing : IsFormless (codes "help" ∷ s ∷ [])
  pub help_on_version : IsFormless (codes "help" ∷ codes "--version" ∷ [])
  pub help_on_two : IsFormless (codes "help" ∷ codes "run" ∷ codes "sim" ∷ [])
  pub help_is_a_name : Names (run (codes "help" ∷ q ∷ t ∷ [])) Run (codes "help" ∷ q ∷ t ∷ [])
  pub no_command : IsFormless (s ∷ q ∷ t ∷ [])
  pub no_word : IsFormless []
