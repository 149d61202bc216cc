-- The commands as clap has them: names that must be there, in order, and for four of them an option.
use Rattle.std.specs.Prelude.{ℕ, Bool, true, false, List, [], Some, codes, unwrap_or}
use Rattle.clap.specs.Words.{App, Rule, Text, first_value, found_of, new_app, new_rule, with_rule}
use Rattle.clap.specs.declared.parser.matches.ArgMatches.{ArgMatches}
use Rattle.gl_top_forms.specs.declared.command.Command.{Command}
use Rattle.gl_top_forms.specs.declared.command.Command.TheVariants.{Compile, Figures, Explain, Run, Sim, Load, Vcd, Undump, Many, ManyFigures, ManyRun, WhyRun, Why, HelpOf, Help, DashedHelp, Version}
use Rattle.gl_top_forms.specs.Said.{IsSaid}

-- a name that must stand in the words
abbrev pub name_rule : Text → Rule
name_rule id = record (new_rule id) { required = true }

-- an option with a value, which must or need not stand in the words
abbrev pub option_rule : Text → Bool → Rule
option_rule long required = record (new_rule (codes "value")) { long = Some long; required = required }

-- a command with no name behind it
abbrev pub no_name : App
no_name = new_app (codes "glacier")

-- a command with one name behind it
abbrev pub one_name : App
one_name = with_rule no_name (name_rule (codes "first"))

-- a command with two names behind it
abbrev pub two_names : App
two_names = with_rule one_name (name_rule (codes "second"))

-- a command with three names behind it
abbrev pub three_names : App
three_names = with_rule two_names (name_rule (codes "third"))

-- what clap is told of each command: its names, and the option of those that have one
abbrev pub app_for : Command → App
app_for Compile = two_names
app_for Figures = two_names
app_for Explain = two_names
app_for Run = with_rule three_names (option_rule (codes "start") false)
app_for Sim = with_rule three_names (option_rule (codes "extra") true)
app_for Load = one_name
app_for Vcd = with_rule three_names (option_rule (codes "start") false)
app_for Undump = one_name
app_for Many = two_names
app_for ManyFigures = two_names
app_for ManyRun = with_rule three_names (option_rule (codes "start") false)
app_for WhyRun = three_names
app_for Why = two_names
app_for HelpOf = one_name
app_for Help = no_name
app_for DashedHelp = no_name
app_for Version = no_name

-- the text that was matched for a name
abbrev pub text_of : ArgMatches → Text → Text
text_of m id = unwrap_or (first_value (found_of m) id) []

-- what was matched is what the words say
abbrev pub Tells : List (List ℕ) → ArgMatches → Type 0
Tells words m =
    IsSaid words (text_of m (codes "first")) (text_of m (codes "second")) (text_of m (codes "third"))
    (first_value (found_of m) (codes "value"))
