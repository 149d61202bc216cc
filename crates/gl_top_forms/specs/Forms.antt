-- The forms of command lines: a command, names, and options, which may stand anywhere behind the command. The names are
-- those of texts, but for a load the number of tuples, and for help a command. The words of the version have neither.
use Rattle.std.specs.Prelude.{◌≡◌, ◌⊎◌, ℕ, zero, suc, ◌^◌, Bool, true, false, ◌&&◌, ◌==◌, nat_le, nat_lt, List, [], ◌∷◌, ◌++◌, length, codes, bytes_eq, find, slice_get, unwrap_or, drop, Contains, Option, Some, None, is_some, IsTrue, if◌then◌else◌}
use Rattle.std.specs.List.{starts_with}
use Rattle.gl_verilog.specs.declared.start.Start.{Start}
use Rattle.gl_verilog.specs.declared.start.Start.TheVariants.{Zero, Drawn}
use Rattle.gl_tuples.specs.Values.{number_of}
use Rattle.gl_top_forms.specs.declared.command.Command.{Command}
use Rattle.gl_top_forms.specs.declared.command.Command.TheVariants.{Compile, Figures, Explain, Run, Sim, Load, Vcd, Undump, Many, ManyFigures, ManyRun, WhyRun, Why, HelpOf, Help, DashedHelp, Version}
use Rattle.gl_top_forms.specs.declared.command.Part.{Part}
use Rattle.gl_top_forms.specs.declared.command.Part.TheVariants.{Schema, Query, Module, Tuples, Dump, Queries}

-- ---- words behind the command

-- the first word of a command line, which names the command; empty where there is none
abbrev pub first_word : List (List ℕ) → List ℕ
first_word [] = []
first_word (w ∷ ws) = w

-- the option of some words: `--extra` behind `sim`, else `--start`
unfoldable pub option_word : List (List ℕ) → List ℕ
option_word words = if bytes_eq (first_word words) (codes "sim") then codes "--extra" else codes "--start"

-- what stands before its value, where both are one word
abbrev pub option_front : List ℕ → List ℕ
option_front option = option ++ codes "="

-- a word that begins with `-` is no name
abbrev pub is_dashed : List ℕ → Bool
is_dashed [] = false
is_dashed (b ∷ bs) = b == 45

-- the words that are names, in order; whether the first word is the value of the option is known from the one before it
abbrev pub names_in : List ℕ → Bool → List (List ℕ) → List (List ℕ)
names_in option valued [] = []
names_in option true (w ∷ ws) = names_in option false ws
names_in option false (w ∷ ws) =
    if bytes_eq w option then names_in option true ws
    else if is_dashed w then names_in option false ws
    else w ∷ names_in option false ws

-- the values that the option is given, in order; None for a dashed word that is no option, and where no word follows
-- the option
abbrev pub values_in : List ℕ → Bool → List (List ℕ) → List (Option (List ℕ))
values_in option true [] = None ∷ []
values_in option false [] = []
values_in option true (w ∷ ws) = Some w ∷ values_in option false ws
values_in option false (w ∷ ws) =
    if bytes_eq w option then values_in option true ws
    else if starts_with ◌==◌ w (option_front option)
    then Some (drop (length (option_front option)) w) ∷ values_in option false ws
    else if is_dashed w then None ∷ values_in option false ws
    else values_in option false ws

-- the names behind the command, options and their values left out
unfoldable pub names_of : List (List ℕ) → List (List ℕ)
names_of words = names_in (option_word words) false (drop 1 words)

-- the values that the option is given, in order; None for a dashed word that is no option and for a missing value
unfoldable pub values_of : List (List ℕ) → List (Option (List ℕ))
values_of words = values_in (option_word words) false (drop 1 words)

-- ---- the start of registers and memories

-- registers and memories start from 0, or from what another number draws
abbrev pub start_from : ℕ → Start
start_from zero = Zero
start_from (suc n) = Drawn (suc n)

-- a number below 2^64
abbrev pub start_at : Option ℕ → Option Start
start_at None = None
start_at (Some n) = if nat_lt n (2 ^ 64) then Some (start_from n) else None

-- no value is that of zero, and one is the number that its digits spell
abbrev pub start_in : List (Option (List ℕ)) → Option Start
start_in [] = Some Zero
start_in (None ∷ vs) = None
start_in (Some v ∷ []) = start_at (number_of v)
start_in (Some v ∷ v' ∷ vs) = None

-- what the run of a command line starts from
unfoldable pub start_of : List (List ℕ) → Start
start_of words = unwrap_or (start_in (values_of words)) Zero

-- ---- the cycles that are waited for the end

-- 0 to 1,000,000
abbrev pub extra_at : Option ℕ → Option ℕ
extra_at None = None
extra_at (Some n) = if nat_le n 1000000 then Some n else None

-- as many cycles as the digits of the one value spell
abbrev pub extra_in : List (Option (List ℕ)) → Option ℕ
extra_in [] = None
extra_in (None ∷ vs) = None
extra_in (Some v ∷ []) = extra_at (number_of v)
extra_in (Some v ∷ v' ∷ vs) = None

-- behind the last beat's cycle; none where the words say no number
unfoldable pub extra_of : List (List ℕ) → ℕ
extra_of words = unwrap_or (extra_in (values_of words)) 0

-- ---- the tuples of a load

-- 1 to 1,000,000
abbrev pub load_at : Option ℕ → Option ℕ
load_at None = None
load_at (Some n) = if nat_le 1 n && nat_le n 1000000 then Some n else None

-- as many tuples as the digits of the first name spell
abbrev pub load_in : List (List ℕ) → Option ℕ
load_in [] = None
load_in (name ∷ names) = load_at (number_of name)

-- how many tuples a load has, where its name is a number in range
unfoldable pub load_of : List (List ℕ) → Option ℕ
load_of words = load_in (names_of words)

-- ---- commands

-- the word of a command
abbrev pub word_of : Command → List ℕ
word_of Compile = codes "compile"
word_of Figures = codes "figures"
word_of Explain = codes "explain"
word_of Run = codes "run"
word_of Sim = codes "sim"
word_of Load = codes "load"
word_of Vcd = codes "vcd"
word_of Undump = codes "undump"
word_of Many = codes "many"
word_of ManyFigures = codes "manyfigures"
word_of ManyRun = codes "manyrun"
word_of WhyRun = codes "why"
word_of Why = codes "why"
word_of HelpOf = codes "help"
word_of Help = codes "help"
word_of DashedHelp = codes "--help"
word_of Version = codes "--version"

-- all commands, in the order in which a form is looked for
abbrev pub commands : List Command
commands =
    Compile ∷ Figures ∷ Explain ∷ Run ∷ Sim ∷ Load ∷ Vcd ∷ Undump ∷ Many ∷ ManyFigures ∷ ManyRun ∷ WhyRun ∷ Why
    ∷ HelpOf ∷ Help ∷ DashedHelp ∷ Version ∷ []

-- the first of them whose word this is
unfoldable pub command_named : List ℕ → Option Command
command_named word = find (λ c. bytes_eq word (word_of c)) commands

-- the command that the first name is the word of
abbrev pub topic_in : List (List ℕ) → Option Command
topic_in [] = None
topic_in (name ∷ names) = command_named name

-- the command that help is asked on, where it is asked on one
unfoldable pub topic_of : List (List ℕ) → Option Command
topic_of words = topic_in (names_of words)

-- how many names stand behind a command: those of its texts, the number of tuples, or a command's word
abbrev pub many_names : Command → ℕ
many_names Compile = 2
many_names Figures = 2
many_names Explain = 2
many_names Run = 3
many_names Sim = 3
many_names Load = 1
many_names Vcd = 3
many_names Undump = 1
many_names Many = 2
many_names ManyFigures = 2
many_names ManyRun = 3
many_names WhyRun = 3
many_names Why = 2
many_names HelpOf = 1
many_names Help = 0
many_names DashedHelp = 0
many_names Version = 0

-- the values that its option may have: a start, to run or to dump, or none; to simulate, the cycles that are waited; else none
abbrev pub takes_values : Command → List (Option (List ℕ)) → Bool
takes_values Run values = is_some (start_in values)
takes_values Vcd values = is_some (start_in values)
takes_values ManyRun values = is_some (start_in values)
takes_values Sim values = is_some (extra_in values)
takes_values c [] = true
takes_values c (v ∷ vs) = false

-- a load's name is a number in range, and that of help a command's word; the names of any other command may be any
abbrev pub takes_names : Command → List (List ℕ) → Bool
takes_names Load names = is_some (load_in names)
takes_names HelpOf names = is_some (topic_in names)
takes_names c names = true

-- the words have the form of a command: its word, its number of names, and an option that it takes
unfoldable pub is_command : List (List ℕ) → Command → Bool
is_command words c =
    bytes_eq (first_word words) (word_of c) && (length (names_of words) == many_names c) && takes_names c
    (names_of words) && takes_values c (values_of words)

-- the command of some words: the first of all commands whose form they have
unfoldable pub command_of : List (List ℕ) → Option Command
command_of words = find (is_command words) commands

-- the words are those of this command
abbrev pub IsCommand : List (List ℕ) → Command → Type 0
IsCommand words c = command_of words ≡ Some c

-- the words run the text of a query over a tuple file, to its lines or to a dump, or ask why that is refused
abbrev pub IsOfRun : List (List ℕ) → Type 0
IsOfRun words = IsCommand words Run ⊎ (IsCommand words Vcd ⊎ IsCommand words WhyRun)

-- the words ask why texts are refused: those of a query, or those of its run
abbrev pub IsOfWhy : List (List ℕ) → Type 0
IsOfWhy words = IsCommand words Why ⊎ IsCommand words WhyRun

-- the words ask for help: on one command, or on all
abbrev pub IsOfHelp : List (List ℕ) → Type 0
IsOfHelp words = IsCommand words HelpOf ⊎ (IsCommand words Help ⊎ IsCommand words DashedHelp)

-- the words are of a form
abbrev pub IsForm : List (List ℕ) → Type 0
IsForm words = IsTrue (is_some (command_of words))

-- the words load so many tuples
pub record IsLoadOf (words : List (List ℕ)) (n : ℕ) : Type 0 where
  pub loads : IsCommand words Load
  pub many : load_of words ≡ Some n

-- ---- the texts

-- the texts that a command names, in their order; a load, help and the version name none
abbrev pub parts_of : Command → List Part
parts_of Compile = Schema ∷ Query ∷ []
parts_of Figures = Schema ∷ Query ∷ []
parts_of Explain = Schema ∷ Query ∷ []
parts_of Run = Schema ∷ Query ∷ Tuples ∷ []
parts_of Sim = Schema ∷ Module ∷ Tuples ∷ []
parts_of Load = []
parts_of Vcd = Schema ∷ Query ∷ Tuples ∷ []
parts_of Undump = Dump ∷ []
parts_of Many = Schema ∷ Queries ∷ []
parts_of ManyFigures = Schema ∷ Queries ∷ []
parts_of ManyRun = Schema ∷ Queries ∷ Tuples ∷ []
parts_of WhyRun = Schema ∷ Query ∷ Tuples ∷ []
parts_of Why = Schema ∷ Query ∷ []
parts_of HelpOf = []
parts_of Help = []
parts_of DashedHelp = []
parts_of Version = []

-- at which place among the names a command names this text
abbrev pub place_of : Part → ℕ
place_of Schema = 0
place_of Query = 1
place_of Module = 1
place_of Tuples = 2
place_of Dump = 0
place_of Queries = 1

-- the name of a text, and no byte where the words name none
unfoldable pub name_of : List (List ℕ) → Part → List ℕ
name_of words part = unwrap_or (slice_get (names_of words) (place_of part)) []

-- the words are a command that names this text
pub record IsNamed (words : List (List ℕ)) (part : Part) : Type 0 where
  pub command : Command
  pub is : IsCommand words command
  pub names : Contains (parts_of command) part
