-- What clap has of the words of a command is what the forms say of them.
use Rattle.std.proofs.Common.{◌≡◌, ◌∙◌, ◌⊎◌, inl, inr, ℕ, Bool, true, false, ◌≤◌, List, [], ◌∷◌, ◌++◌, length, drop, Option, Some, None, refl, sym, ap, subst, codes, arith, ne_eqb}
use Rattle.std.specs.Prelude.{bytes_eq, is_some, nat_le, slice_get, unwrap_or, not, ◌==◌, if◌then◌else◌}
use Rattle.std.specs.List.{list_all}
use Rattle.std.proofs.lemmas.Bool.{eqb-true, leb-true}
use Rattle.gl_bits.proofs.Bools.{and_left, and_right, bytes_same}
use Rattle.gl_schema.specs.Names.{is_digit}
use Rattle.gl_tuples.specs.Values.{are_digits, is_number, number_in, number_of}
use Rattle.gl_verilog.specs.declared.start.Start.TheVariants.{Zero}
use Rattle.clap.specs.Words.{App, HasMatchesOf, Text, first_of, found_of, is_simple, matches_of, rows_of, takes}
use Rattle.clap.specs.declared.parser.matches.ArgMatches.{ArgMatches}
use Rattle.clap.proofs.WalkLemmas.{first_value-rows}
use Rattle.gl_top_forms.specs.declared.command.Command.{Command}
use Rattle.gl_top_forms.specs.declared.command.Command.TheVariants.{Compile, Figures, Explain, Run, Sim, Load, Vcd, Undump, Many, ManyFigures, ManyRun, WhyRun, Why, HelpOf, Help, DashedHelp, Version}
use Rattle.gl_top_forms.specs.Forms.{IsCommand, command_named, extra_at, extra_in, extra_of, first_word, is_command, is_dashed, load_at, load_in, load_of, many_names, name_of, names_in, names_of, option_word, start_at, start_in, start_of, takes_values, topic_in, topic_of, values_in, values_of, word_of}
use Rattle.gl_top_forms.proofs.Named.{is_one}
use Rattle.gl_top_matches.specs.Apps.{Tells, app_for, no_name, one_name, two_names}
use Rattle.gl_top_forms.specs.Said.{IsSaid, extra_by, start_by}
use Rattle.gl_top_matches.proofs.Ends.{Given}
use Rattle.gl_top_matches.proofs.Laid.{AreNames, bare, placed, three}
use Rattle.gl_top_matches.proofs.Names.{load_names, query_names, run_names, version_names}
use Rattle.gl_top_matches.proofs.Layouts.{laid}
use Rattle.gl_top_matches.proofs.Runs.{run_app, run_bare, run_layouts}
use Rattle.gl_top_matches.proofs.Sims.{sim_app, sim_layouts}

-- ---- what names and a value make of the words

abbrev values : Option Text → List (Option Text)
values None = []
values (Some v) = Some v ∷ []

start_same : (value : Option Text) → unwrap_or (start_in (values value)) Zero ≡ start_by value
start_same None = refl
start_same (Some v) = refl

extra_same : (value : Option Text) → unwrap_or (extra_in (values value)) 0 ≡ extra_by value
extra_same None = refl
extra_same (Some v) = refl

abbrev at : List Text → ℕ → Text
at names k = unwrap_or (slice_get names k) []

-- a load and help ask of the first name, and of no byte where there is none
abbrev AsksFirst : List Text → Type 0
AsksFirst names = (load_in names ≡ load_at (number_of (at names 0))) × (topic_in names ≡ command_named (at names 0))

said_of : (words names : List Text) (value : Option Text) → names_of words ≡ names → values_of words ≡ values value → AsksFirst names
    → IsSaid words (at names 0) (at names 1) (at names 2) value
unfolding name_of start_of extra_of load_of topic_of
said_of words names value named valued asks = record {
  schema = ap (λ (l : List Text). at l 0) named;
  dump = ap (λ (l : List Text). at l 0) named;
  query = ap (λ (l : List Text). at l 1) named;
  tuples = ap (λ (l : List Text). at l 2) named;
  start = ap (λ (l : List (Option Text)). unwrap_or (start_in l) Zero) valued ∙ start_same value;
  extra = ap (λ (l : List (Option Text)). unwrap_or (extra_in l) 0) valued ∙ extra_same value;
  load = ap load_in named ∙ asks.0;
  topic = ap topic_in named ∙ asks.1;
}

-- clap takes the words, and has what they say
pub record IsRead (words : List Text) (c : Command) : Type 0 where
  pub takes : takes (app_for c) words ≡ true
  pub names : List Text
  pub value : Option Text
  pub said : IsSaid words (at names 0) (at names 1) (at names 2) value
  pub first : first_of (codes "first") (matches_of (app_for c) words) ≡ slice_get names 0
  pub second : first_of (codes "second") (matches_of (app_for c) words) ≡ slice_get names 1
  pub third : first_of (codes "third") (matches_of (app_for c) words) ≡ slice_get names 2
  pub last : first_of (codes "value") (matches_of (app_for c) words) ≡ value

read_of : (words ws names : List Text) (c : Command) (value : Option Text) (command : Text) → words ≡ command ∷ ws → Given (app_for c) ws names value
    → names_of words ≡ names → values_of words ≡ values value → AsksFirst names → IsRead words c
read_of words ws names c value command same given named valued asks = record {
  takes = ap (takes (app_for c)) same ∙ given.takes command;
  names = names;
  value = value;
  said = said_of words names value named valued asks;
  first = ap (λ (l : List Text). first_of (codes "first") (matches_of (app_for c) l)) same ∙ given.first command;
  second = ap (λ (l : List Text). first_of (codes "second") (matches_of (app_for c) l)) same ∙ given.second command;
  third = ap (λ (l : List Text). first_of (codes "third") (matches_of (app_for c) l)) same ∙ given.third command;
  last = ap (λ (l : List Text). first_of (codes "value") (matches_of (app_for c) l)) same ∙ given.last command;
}

-- ---- the command's own word

word_is : (words : List Text) (c : Command) → is_command words c ≡ true → first_word words ≡ word_of c
unfolding is_command
word_is words c is = bytes_same (first_word words) (word_of c) (and_left _ _ (and_left _ _ (and_left _ _ is)))

many_are : (words : List Text) (c : Command) → is_command words c ≡ true → length (names_of words) ≡ many_names c
unfolding is_command
many_are words c is = eqb-true (length (names_of words)) (many_names c) (and_right _ _ (and_left _ _ (and_left _ _ is)))

values_are : (words : List Text) (c : Command) → is_command words c ≡ true → takes_values c (values_of words) ≡ true
unfolding is_command
values_are words c is = and_right _ _ is

some_word : (c : Command) → length (word_of c) ≡ 0 → ⊥
some_word Compile e = omega (arith, e)
some_word Figures e = omega (arith, e)
some_word Explain e = omega (arith, e)
some_word Run e = omega (arith, e)
some_word Sim e = omega (arith, e)
some_word Load e = omega (arith, e)
some_word Vcd e = omega (arith, e)
some_word Undump e = omega (arith, e)
some_word Many e = omega (arith, e)
some_word ManyFigures e = omega (arith, e)
some_word ManyRun e = omega (arith, e)
some_word WhyRun e = omega (arith, e)
some_word Why e = omega (arith, e)
some_word HelpOf e = omega (arith, e)
some_word Help e = omega (arith, e)
some_word DashedHelp e = omega (arith, e)
some_word Version e = omega (arith, e)

behind_word : (words : List Text) (c : Command) → first_word words ≡ word_of c → words ≡ word_of c ∷ drop 1 words
behind_word [] c e = absurd (some_word c (ap length (sym e)))
behind_word (w ∷ ws) c e = ap (λ (x : Text). x ∷ ws) e

option_is : (words : List Text) (word : Text) → first_word words ≡ word → option_word words ≡ (if bytes_eq word (codes "sim") then codes "--extra" else codes "--start")
unfolding option_word
option_is words word e = ap (λ (w : Text). if bytes_eq w (codes "sim") then codes "--extra" else codes "--start") e

names_with : (words : List Text) (o : Text) → option_word words ≡ o → names_of words ≡ names_in o false (drop 1 words)
unfolding names_of
names_with words o e = ap (λ (x : Text). names_in x false (drop 1 words)) e

values_with : (words : List Text) (o : Text) → option_word words ≡ o → values_of words ≡ values_in o false (drop 1 words)
unfolding values_of
values_with words o e = ap (λ (x : Text). values_in x false (drop 1 words)) e

-- ---- names alone

none_taken : (vs : List (Option Text)) → takes_values Compile vs ≡ true → vs ≡ []
none_taken [] h = refl
none_taken (v ∷ vs) h = absurd cc

one_by : (words ws : List Text) (c : Command) → app_for c ≡ one_name → words ≡ word_of c ∷ ws → AreNames ws → length ws ≡ 1 → names_of words ≡ ws → values_of words ≡ []
    → IsRead words c
one_by words [] c app same n e named valued = absurd (omega (arith, e))
one_by words (m ∷ []) c app same n e named valued =
    read_of words (m ∷ []) (m ∷ []) c None (word_of c) same (subst (λ (a : App). Given a (m ∷ []) (m ∷ []) None) (sym app) (load_names m n.0)) named valued (refl, refl)
one_by words (m ∷ u ∷ ws) c app same n e named valued = absurd (omega (arith, e))

asks_none : AsksFirst []
unfolding number_of is_number command_named
asks_none = (refl, refl)

none_by : (words ws : List Text) (c : Command) → app_for c ≡ no_name → words ≡ word_of c ∷ ws → length ws ≡ 0 → names_of words ≡ ws → values_of words ≡ [] → IsRead words c
none_by words [] c app same e named valued =
    read_of words [] [] c None (word_of c) same (subst (λ (a : App). Given a [] [] None) (sym app) version_names) named valued asks_none
none_by words (m ∷ ws) c app same e named valued = absurd (omega (arith, e))

two : (P : List Text → Type 0) → ((s q : Text) → is_dashed s ≡ false → is_dashed q ≡ false → P (s ∷ q ∷ [])) → (ws : List Text) → AreNames ws → length ws ≡ 2 → P ws
two P p [] n e = absurd (omega (arith, e))
two P p (s ∷ []) n e = absurd (omega (arith, e))
two P p (s ∷ q ∷ []) n e = p s q n.0 n.1.0
two P p (s ∷ q ∷ u ∷ ws) n e = absurd (omega (arith, e))

-- the words have names alone
pub record AreBare (words : List Text) (c : Command) (ws : List Text) : Type 0 where
  pub same : words ≡ word_of c ∷ ws
  pub plain : AreNames ws
  pub named : names_of words ≡ ws
  pub valued : values_of words ≡ []
  pub many : length ws ≡ many_names c

bare_words : (words : List Text) (c : Command) → is_command words c ≡ true → values_of words ≡ [] → AreBare words c (drop 1 words)
bare_words words c is none =
    let word = word_is words c is in
    let o = option_word words in
    let laid = bare o (drop 1 words) (sym (values_with words o refl) ∙ none) in
    let named = names_with words o refl ∙ laid.1 in
    record {
      same = behind_word words c word;
      plain = laid.0;
      named = named;
      valued = none;
      many = ap length (sym named) ∙ many_are words c is;
    }

-- ---- numbers are no options

number_is : (v : Text) → is_some (number_of v) ≡ true → is_number v ≡ true
unfolding number_of
number_is v h = by (is_number v) h
  where
    by : (b : Bool) → is_some (if b then Some (number_in v) else None) ≡ true → b ≡ true
    by true e = refl
    by false e = absurd cc

number_plain : (v : Text) → is_some (number_of v) ≡ true → is_dashed v ≡ false
unfolding is_number are_digits
number_plain [] h = refl
number_plain (x ∷ xs) h =
    let digits : list_all is_digit (x ∷ xs) ≡ true = and_right (not (length (x ∷ xs) == 0)) (list_all is_digit (x ∷ xs)) (number_is (x ∷ xs) h) in
    let digit : is_digit x ≡ true = and_left (is_digit x) (list_all is_digit xs) digits in
    let least : 48 ≤ x = leb-true 48 x (and_left (nat_le 48 x) (nat_le x 57) digit) in
    ne_eqb x 45 (λ e. omega (arith, e, least))

start_number : (o : Option ℕ) → is_some (start_at o) ≡ true → is_some o ≡ true
start_number None h = absurd cc
start_number (Some n) h = refl

extra_number : (o : Option ℕ) → is_some (extra_at o) ≡ true → is_some o ≡ true
extra_number None h = absurd cc
extra_number (Some n) h = refl

-- no value, or one that is no option
abbrev pub MayHave : List (Option Text) → Type 0
MayHave vs = (vs ≡ []) ⊎ ((v : Text) × (vs ≡ Some v ∷ []) × (is_dashed v ≡ false))

run_values : (vs : List (Option Text)) → takes_values Run vs ≡ true → MayHave vs
run_values [] h = inl refl
run_values (None ∷ vs) h = absurd cc
run_values (Some v ∷ []) h = inr (v, refl, number_plain v (start_number (number_of v) h))
run_values (Some v ∷ u ∷ vs) h = absurd cc

sim_values : (vs : List (Option Text)) → takes_values Sim vs ≡ true → (v : Text) × (vs ≡ Some v ∷ []) × (is_dashed v ≡ false)
sim_values [] h = absurd cc
sim_values (None ∷ vs) h = absurd cc
sim_values (Some v ∷ []) h = (v, refl, number_plain v (extra_number (number_of v) h))
sim_values (Some v ∷ u ∷ vs) h = absurd cc

-- ---- three names and a value

abbrev start_front : Text
start_front = codes "--start"

abbrev extra_front : Text
extra_front = codes "--extra"

-- the first of three names is a first name
first_there : (names : List Text) → length names ≡ 3 → AsksFirst names
first_there [] e = absurd (omega (arith, e))
first_there (s ∷ names) e = (refl, refl)

-- the words of a command with three names and perhaps a start
start_read : (words : List Text) (c : Command) → is_command words c ≡ true → app_for c ≡ run_app → many_names c ≡ 3 → option_word words ≡ start_front
    → MayHave (values_of words) → IsRead words c
start_read words c is app count option may = elim may [
  | inl none ↦
      let b = bare_words words c is none in
      three (λ ws. words ≡ word_of c ∷ ws → names_of words ≡ ws → IsRead words c)
      (λ s q t ps pq pt same named. read_of words (s ∷ q ∷ t ∷ []) (s ∷ q ∷ t ∷ []) c None (word_of c) same
      (subst (λ (a : App). Given a (s ∷ q ∷ t ∷ []) (s ∷ q ∷ t ∷ []) None) (sym app) (run_bare s q t ps pq pt)) named none (refl, refl))
      (drop 1 words) b.plain (b.many ∙ count) b.same b.named
  | inr h ↦
      let p = placed start_front h.0 refl (drop 1 words) (sym (values_with words start_front option) ∙ h.1) in
      let named = names_with words start_front option ∙ p.names in
      let many = ap length (sym named) ∙ many_are words c is ∙ count in
      read_of words (drop 1 words) (p.before ++ p.behind) c (Some h.0) (word_of c) (behind_word words c (word_is words c is))
      (subst (λ (a : App). Given a (drop 1 words) (p.before ++ p.behind) (Some h.0)) (sym app) (laid run_app start_front run_layouts h.0 h.2 (drop 1 words) p many)) named h.1
      (first_there (p.before ++ p.behind) many)
]

sim_read : (words : List Text) → is_command words Sim ≡ true → IsRead words Sim
sim_read words is =
    let h = sim_values (values_of words) (values_are words Sim is) in
    let word = word_is words Sim is in
    let option = option_is words (codes "sim") word in
    let p = placed extra_front h.0 refl (drop 1 words) (sym (values_with words extra_front option) ∙ h.1) in
    let named = names_with words extra_front option ∙ p.names in
    let many = ap length (sym named) ∙ many_are words Sim is in
    read_of words (drop 1 words) (p.before ++ p.behind) Sim (Some h.0) (codes "sim") (behind_word words Sim word)
    (laid sim_app extra_front sim_layouts h.0 h.2 (drop 1 words) p many) named h.1 (first_there (p.before ++ p.behind) many)

-- ---- all commands

-- those of one with two names
two_read : (words : List Text) (c : Command) → is_command words c ≡ true → app_for c ≡ two_names → many_names c ≡ 2 → values_of words ≡ [] → IsRead words c
two_read words c is app count none =
    let b = bare_words words c is none in
    two (λ ws. words ≡ word_of c ∷ ws → names_of words ≡ ws → IsRead words c)
    (λ s q ps pq same named. read_of words (s ∷ q ∷ []) (s ∷ q ∷ []) c None (word_of c) same
    (subst (λ (a : App). Given a (s ∷ q ∷ []) (s ∷ q ∷ []) None) (sym app) (query_names s q ps pq)) named none (refl, refl))
    (drop 1 words) b.plain (b.many ∙ count) b.same b.named

-- those of one with one name
one_read : (words : List Text) (c : Command) → is_command words c ≡ true → app_for c ≡ one_name → many_names c ≡ 1 → values_of words ≡ [] → IsRead words c
one_read words c is app count none =
    let b = bare_words words c is none in one_by words (drop 1 words) c app b.same b.plain (b.many ∙ count) b.named none

-- those of one without a name
none_read : (words : List Text) (c : Command) → is_command words c ≡ true → app_for c ≡ no_name → many_names c ≡ 0 → values_of words ≡ [] → IsRead words c
none_read words c is app count none =
    let b = bare_words words c is none in none_by words (drop 1 words) c app b.same (b.many ∙ count) b.named none

read_by : (words : List Text) (c : Command) → is_command words c ≡ true → IsRead words c
read_by words Compile is = two_read words Compile is refl refl (none_taken (values_of words) (values_are words Compile is))
read_by words Figures is = two_read words Figures is refl refl (none_taken (values_of words) (values_are words Figures is))
read_by words Explain is = two_read words Explain is refl refl (none_taken (values_of words) (values_are words Explain is))
read_by words Run is =
    start_read words Run is refl refl (option_is words (codes "run") (word_is words Run is)) (run_values (values_of words) (values_are words Run is))
read_by words Sim is = sim_read words is
read_by words Load is = one_read words Load is refl refl (none_taken (values_of words) (values_are words Load is))
read_by words Vcd is =
    start_read words Vcd is refl refl (option_is words (codes "vcd") (word_is words Vcd is)) (run_values (values_of words) (values_are words Vcd is))
read_by words Undump is = one_read words Undump is refl refl (none_taken (values_of words) (values_are words Undump is))
read_by words Many is = two_read words Many is refl refl (none_taken (values_of words) (values_are words Many is))
read_by words ManyFigures is = two_read words ManyFigures is refl refl (none_taken (values_of words) (values_are words ManyFigures is))
read_by words ManyRun is =
    start_read words ManyRun is refl refl (option_is words (codes "manyrun") (word_is words ManyRun is))
    (run_values (values_of words) (values_are words ManyRun is))
read_by words WhyRun is =
    let b = bare_words words WhyRun is (none_taken (values_of words) (values_are words WhyRun is)) in
    three (λ ws. words ≡ word_of WhyRun ∷ ws → names_of words ≡ ws → IsRead words WhyRun)
    (λ s q t ps pq pt same named. read_of words (s ∷ q ∷ t ∷ []) (s ∷ q ∷ t ∷ []) WhyRun None (word_of WhyRun) same (run_names s q t ps pq pt) named b.valued (refl, refl))
    (drop 1 words) b.plain b.many b.same b.named
read_by words Why is = two_read words Why is refl refl (none_taken (values_of words) (values_are words Why is))
read_by words HelpOf is = one_read words HelpOf is refl refl (none_taken (values_of words) (values_are words HelpOf is))
read_by words Help is = none_read words Help is refl refl (none_taken (values_of words) (values_are words Help is))
read_by words DashedHelp is = none_read words DashedHelp is refl refl (none_taken (values_of words) (values_are words DashedHelp is))
read_by words Version is = none_read words Version is refl refl (none_taken (values_of words) (values_are words Version is))

pub read : (words : List Text) (c : Command) → IsCommand words c → IsRead words c
read words c is = read_by words c (is_one words c is)

-- ---- what clap answers

simple : (c : Command) → is_simple (app_for c) ≡ true
simple Compile = refl
simple Figures = refl
simple Explain = refl
simple Run = refl
simple Sim = refl
simple Load = refl
simple Vcd = refl
simple Undump = refl
simple Many = refl
simple ManyFigures = refl
simple ManyRun = refl
simple WhyRun = refl
simple Why = refl
simple HelpOf = refl
simple Help = refl
simple DashedHelp = refl
simple Version = refl

-- no other refusal than want of memory
pub takes_all : (words given : List Text) (c : Command) (app : App) → app ≡ app_for c → given ≡ words → IsCommand words c → takes app given ≡ true
takes_all words given c app app_is given_is is = ap (λ (a : App). takes a given) app_is ∙ ap (takes (app_for c)) given_is ∙ (read words c is).takes

said_by : (words names : List Text) (value : Option Text) (a b c d : Option Text) → IsSaid words (at names 0) (at names 1) (at names 2) value
    → a ≡ slice_get names 0 → b ≡ slice_get names 1 → c ≡ slice_get names 2 → d ≡ value → IsSaid words (unwrap_or a []) (unwrap_or b []) (unwrap_or c []) d
said_by words names value a b c d said e f g h = rw (e, f, g, h) said

pub tells : (words given : List Text) (c : Command) (app : App) (m : ArgMatches) → app ≡ app_for c → given ≡ words → IsCommand words c
    → HasMatchesOf app given m → Tells words m
tells words given c app m app_is given_is is has =
    let r = read words c is in
    let rows : rows_of (found_of m) ≡ matches_of (app_for c) words =
    (has (ap is_simple app_is ∙ simple c)).0 ∙ ap (λ (a : App). matches_of a given) app_is ∙ ap (matches_of (app_for c)) given_is in
    let found = λ (id : Text). first_value-rows (found_of m) id ∙ ap (first_of id) rows in
    said_by words r.names r.value _ _ _ _ r.said (found (codes "first") ∙ r.first) (found (codes "second") ∙ r.second) (found (codes "third") ∙ r.third)
    (found (codes "value") ∙ r.last)
