-- Which word of a command line of no form is wrong, and the line that tells it.
use Rattle.std.specs.Prelude.{ℕ, Bool, true, false, not, ◌&&◌, ◌==◌, List, [], ◌∷◌, ◌++◌, length, drop, codes, bytes_eq, slice_get, unwrap_or, Option, Some, None, is_some, if◌then◌else◌}
use Rattle.std.specs.List.{starts_with}
use Rattle.gl_top_forms.specs.declared.command.Command.{Command}
use Rattle.gl_top_forms.specs.declared.command.Command.TheVariants.{Run, Sim, Load, Vcd, ManyRun}
use Rattle.gl_top_forms.specs.declared.wrong.Wrong.{Wrong}
use Rattle.gl_top_forms.specs.declared.wrong.Wrong.TheVariants.{NoCommand, StrangeOption, NameTooMany, NamesTooFew, BadCount, NoTopic, NoOption, OptionLacking, NoValue, GivenTwice, BadValue}
use Rattle.gl_top_forms.specs.Forms.{command_named, first_word, is_dashed, many_names, names_of, option_front, option_word, takes_names, values_of}

-- the first word that begins with `-` and is no option and none's value
abbrev pub strange_in : List ℕ → Bool → List (List ℕ) → Option (List ℕ)
strange_in option valued [] = None
strange_in option true (w ∷ ws) = strange_in option false ws
strange_in option false (w ∷ ws) =
    if bytes_eq w option then strange_in option true ws
    else if starts_with ◌==◌ w (option_front option) then strange_in option false ws
    else if is_dashed w then Some w
    else strange_in option false ws

-- such a word behind the command
unfoldable pub strange_of : List (List ℕ) → Option (List ℕ)
strange_of words = strange_in (option_word words) false (drop 1 words)

-- whether a command has an option
abbrev pub has_option : Command → Bool
has_option Run = true
has_option Sim = true
has_option Vcd = true
has_option ManyRun = true
has_option c = false

-- what is wrong with the one name of a load, or of help
abbrev pub wrong_name : Command → Wrong
wrong_name Load = BadCount
wrong_name c = NoTopic

-- what is wrong with the values of an option
abbrev pub wrong_value : List (Option (List ℕ)) → Wrong
wrong_value [] = OptionLacking
wrong_value (None ∷ vs) = NoValue
wrong_value (Some v ∷ []) = BadValue
wrong_value (Some v ∷ v' ∷ vs) = GivenTwice

-- what is wrong behind a command: words that are no options come first, then how many names there are, the names, and
-- the values
abbrev pub wrong_behind : List (List ℕ) → Command → Wrong
wrong_behind words c =
    if is_some (strange_of words) then StrangeOption
    else if not (has_option c) && is_some (slice_get (values_of words) 0) then NoOption
    else if is_some (slice_get (names_of words) (many_names c)) then NameTooMany
    else if not (length (names_of words) == many_names c) then NamesTooFew
    else if not (takes_names c (names_of words)) then wrong_name c
    else wrong_value (values_of words)

-- what is wrong with the words, by the command that their first word names
abbrev pub wrong_by : List (List ℕ) → Option Command → Wrong
wrong_by words None = NoCommand
wrong_by words (Some c) = wrong_behind words c

-- what is wrong with words of no form
unfoldable pub wrong_of : List (List ℕ) → Wrong
wrong_of words = wrong_by words (command_named (first_word words))

-- how many names the command takes that the first word names
abbrev pub most_names : Option Command → ℕ
most_names None = 0
most_names (Some c) = many_names c

-- a value that is there, and else no byte
abbrev pub value_or_none : Option (Option (List ℕ)) → List ℕ
value_or_none (Some (Some v)) = v
value_or_none v = []

-- the word that is wrong
unfoldable pub wrong_word : List (List ℕ) → Wrong → List ℕ
wrong_word words NoCommand = first_word words
wrong_word words StrangeOption = unwrap_or (strange_of words) []
wrong_word words NameTooMany = unwrap_or (slice_get (names_of words) (most_names (command_named (first_word words)))) []
wrong_word words NamesTooFew = first_word words
wrong_word words BadCount = unwrap_or (slice_get (names_of words) 0) []
wrong_word words NoTopic = unwrap_or (slice_get (names_of words) 0) []
wrong_word words BadValue = value_or_none (slice_get (values_of words) 0)
wrong_word words w = option_word words

-- what is said in front of it
unfoldable pub wrong_head : Wrong → List ℕ
wrong_head NoCommand = codes "no command: "
wrong_head StrangeOption = codes "no option: "
wrong_head NameTooMany = codes "a name too many: "
wrong_head NamesTooFew = codes "too few names behind: "
wrong_head BadCount = codes "no number from 1 to 1000000: "
wrong_head NoTopic = codes "no command: "
wrong_head NoOption = codes "no option of this command: "
wrong_head OptionLacking = codes "an option is lacking: "
wrong_head NoValue = codes "no value behind: "
wrong_head GivenTwice = codes "given twice: "
wrong_head BadValue = codes "no number in range: "

-- the line that tells it
unfoldable pub wrong_line : List (List ℕ) → List ℕ
wrong_line words = wrong_head (wrong_of words) ++ wrong_word words (wrong_of words) ++ codes "\n"
