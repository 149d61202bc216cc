-- What words of a form name.
use Rattle.std.proofs.Common.{◌≡◌, inl, inr, ℕ, zero, suc, ◌<◌, Bool, true, false, List, [], ◌∷◌, length, drop, Option, Some, None, refl, sym, ap, subst, ◌∙◌, arith}
use Rattle.std.specs.Prelude.{find, is_some, slice_get, unwrap_or, Contains, bytes_eq}
use Rattle.std.specs.List.{list_all}
use Rattle.std.proofs.lemmas.Bool.{eqb-true}
use Rattle.gl_bits.proofs.Bools.{and_left, and_right}
use Rattle.gl_bits.proofs.Options.{some_there}
use Rattle.gl_outside.proofs.Places.{found_is}
use Rattle.gl_verilog.specs.declared.start.Start.{Start}
use Rattle.gl_verilog.specs.declared.start.Start.TheVariants.{Zero}
use Rattle.gl_top_forms.specs.declared.command.Part.{Part}
use Rattle.gl_top_forms.specs.declared.command.Part.TheVariants.{Schema, Query, Module, Tuples, Dump, Queries}
use Rattle.gl_top_forms.specs.declared.command.Command.{Command}
use Rattle.gl_top_forms.specs.declared.command.Command.TheVariants.{Compile, Figures, Explain, Run, Sim, Load, Vcd, Undump, Many, ManyFigures, ManyRun, WhyRun, Why, HelpOf, Help, DashedHelp, Version}
use Rattle.gl_top_forms.specs.Forms.{IsCommand, IsForm, IsLoadOf, IsNamed, IsOfHelp, IsOfRun, IsOfWhy, command_of, commands, extra_in, extra_of, is_command, is_dashed, load_in, load_of, many_names, name_of, names_in, names_of, option_word, parts_of, place_of, start_in, start_of, takes_values, values_of}

-- ---- a name is one of the words

-- what is in a list is in one that has a word more
behind : (w : List ℕ) (ws : List (List ℕ)) (x : List ℕ) → Contains ws x → Contains (w ∷ ws) x
behind w ws x c = (suc c.0, omega (arith, c.1), c.2)

in_rest : (words : List (List ℕ)) (x : List ℕ) → Contains (drop 1 words) x → Contains words x
in_rest [] x c = c
in_rest (w ∷ ws) x c = behind w ws x c

-- a name of the words from a word on, where it is one of those behind it
name_here : (o w : List ℕ) (ws : List (List ℕ)) (x : List ℕ)
    → ((v : Bool) (k : ℕ) → slice_get (names_in o v ws) k ≡ Some x → Contains ws x)
    → (k : ℕ) → slice_get (names_in o false (w ∷ ws)) k ≡ Some x → Contains (w ∷ ws) x
name_here o w ws x rest k e = by (bytes_eq w o) (is_dashed w) refl refl
  where
    at : (j : ℕ) → slice_get (w ∷ names_in o false ws) j ≡ Some x → Contains (w ∷ ws) x
    at zero f = found_is (w ∷ ws) 0 x f
    at (suc j) f = behind w ws x (rest false j f)

    by : (s d : Bool) → bytes_eq w o ≡ s → is_dashed w ≡ d → Contains (w ∷ ws) x
    by true d p q = behind w ws x (rest true k (rw p at e))
    by false true p q = behind w ws x (rest false k (rw (p, q) at e))
    by false false p q = at k (rw (p, q) at e)

is_word : (o : List ℕ) (ws : List (List ℕ)) (x : List ℕ) (v : Bool) (k : ℕ) → slice_get (names_in o v ws) k ≡ Some x → Contains ws x
is_word o [] x true k e = absurd cc
is_word o [] x false k e = absurd cc
is_word o (w ∷ ws) x true k e = behind w ws x (is_word o ws x false k e)
is_word o (w ∷ ws) x false k e = name_here o w ws x (is_word o ws x) k e

some_at : (xs : List (List ℕ)) (k : ℕ) → k < length xs → slice_get xs k ≡ Some (unwrap_or (slice_get xs k) [])
some_at [] k lt = absurd (omega arith)
some_at (x ∷ xs) zero lt = refl
some_at (x ∷ xs) (suc k) lt = some_at xs k (omega arith)

-- ---- words of a form

-- they are a command
pub data Commanded (words : List (List ℕ)) (o : Option Command) : Type 0 where
  Of : (c : Command) (is : is_command words c ≡ true) (same : o ≡ Some c) → Commanded words o
  Formless : (none : o ≡ None) → Commanded words o

commanded_in : (words : List (List ℕ)) (cs : List Command) → Commanded words (find (is_command words) cs)
commanded_in words [] = Formless refl
commanded_in words (c ∷ cs) = by (is_command words c) refl (commanded_in words cs)
  where
    by : (b : Bool) → is_command words c ≡ b → Commanded words (find (is_command words) cs)
        → Commanded words (find (is_command words) (c ∷ cs))
    by true p rest = Of c p (rw p refl)
    by false p rest = rw p rest

pub commanded : (words : List (List ℕ)) → Commanded words (command_of words)
unfolding command_of
commanded words = commanded_in words commands

pub form_of : (words : List (List ℕ)) (c : Command) → IsCommand words c → IsForm words
form_of words c is = rw is refl

-- the words of a command are those of no other
pub is_one : (words : List (List ℕ)) (c : Command) → IsCommand words c → is_command words c ≡ true
is_one words c is = by (commanded words)
  where
    by : Commanded words (command_of words) → is_command words c ≡ true
    by (Of d holds same) =
        let e : ◌≡◌ {A = Option Command} (Some d) (Some c) = sym same ∙ is in
        let r : d ≡ c = cc in
        subst (λ (x : Command). is_command words x ≡ true) r holds
    by (Formless none) = absurd (let e : ◌≡◌ {A = Option Command} None (Some c) = sym none ∙ is in cc)

-- they are of one command
pub one_command : (words : List (List ℕ)) (c d : Command) → IsCommand words c → IsCommand words d → c ≡ d
one_command words c d is is' = let e : ◌≡◌ {A = Option Command} (Some c) (Some d) = sym is ∙ is' in cc

-- ---- the texts that they name

names_are : (words : List (List ℕ)) (c : Command) → is_command words c ≡ true → length (names_of words) ≡ many_names c
unfolding is_command
names_are words c is = eqb-true (length (names_of words)) (many_names c) (and_right _ _ (and_left _ _ (and_left _ _ is)))

-- whether a text is read beside a schema
abbrev pub is_beside : Part → Bool
is_beside Schema = true
is_beside Query = true
is_beside Module = true
is_beside Tuples = true
is_beside Dump = false
is_beside Queries = true

part_in : (f : Part → Bool) (ps : List Part) (p : Part) → list_all f ps ≡ true → Contains ps p → f p ≡ true
part_in f [] p all (k, l, e) = absurd (omega (arith, l))
part_in f (q ∷ ps) p all (zero, l, e) = let same : q ≡ p = cc in subst (λ (x : Part). f x ≡ true) same (and_left _ _ all)
part_in f (q ∷ ps) p all (suc k, l, e) = part_in f ps p (and_right _ _ all) (k, omega (arith, l), e)

dump_alone : (p : Part) → Contains (Dump ∷ []) p → Dump ≡ p
dump_alone p (zero, l, e) = cc
dump_alone p (suc k, l, e) = absurd (omega (arith, l))

-- each text has a name in its place
place_two : (p q : Part) → place_of q < 2 → Contains (Schema ∷ q ∷ []) p → place_of p < 2
place_two p q lt (zero, l, e) = let same : Schema ≡ p = cc in subst (λ (x : Part). place_of x < 2) same (omega arith)
place_two p q lt (suc zero, l, e) = let same : q ≡ p = cc in subst (λ (x : Part). place_of x < 2) same lt
place_two p q lt (suc (suc k), l, e) = absurd (omega (arith, l))

place_three : (p : Part) → place_of p < 3
place_three Schema = omega arith
place_three Query = omega arith
place_three Module = omega arith
place_three Tuples = omega arith
place_three Dump = omega arith
place_three Queries = omega arith

place_within : (c : Command) (p : Part) → Contains (parts_of c) p → place_of p < many_names c
place_within Compile p h = place_two p Query (omega arith) h
place_within Figures p h = place_two p Query (omega arith) h
place_within Explain p h = place_two p Query (omega arith) h
place_within Run p h = place_three p
place_within Sim p h = place_three p
place_within Load p h = absurd (omega (arith, h.1))
place_within Vcd p h = place_three p
place_within Undump p h = subst (λ (x : Part). place_of x < 1) (dump_alone p h) (omega arith)
place_within Many p h = place_two p Queries (omega arith) h
place_within ManyFigures p h = place_two p Queries (omega arith) h
place_within ManyRun p h = place_three p
place_within WhyRun p h = place_three p
place_within Why p h = place_two p Query (omega arith) h
place_within HelpOf p h = absurd (omega (arith, h.1))
place_within Help p h = absurd (omega (arith, h.1))
place_within DashedHelp p h = absurd (omega (arith, h.1))
place_within Version p h = absurd (omega (arith, h.1))

-- the name of a text that the words name is one of the words
pub named : (words : List (List ℕ)) (p : Part) → IsNamed words p → Contains words (name_of words p)
unfolding name_of names_of
named words p is =
    let many = names_are words is.command (is_one words is.command is.is) in
    let lt = place_within is.command p is.names in
    in_rest words _ (is_word (option_word words) (drop 1 words) _ false (place_of p) (some_at (names_of words) (place_of p) (omega (arith, many, lt))))

-- a command that names a text that is read beside a schema names a schema
first_part : (c : Command) (p : Part) → is_beside p ≡ true → Contains (parts_of c) p → Contains (parts_of c) Schema
first_part Compile p b h = (0, omega arith, refl)
first_part Figures p b h = (0, omega arith, refl)
first_part Explain p b h = (0, omega arith, refl)
first_part Run p b h = (0, omega arith, refl)
first_part Sim p b h = (0, omega arith, refl)
first_part Load p b h = absurd (omega (arith, h.1))
first_part Vcd p b h = (0, omega arith, refl)
first_part Undump p b h = let no : is_beside Dump ≡ true = subst (λ (x : Part). is_beside x ≡ true) (sym (dump_alone p h)) b in absurd cc
first_part Many p b h = (0, omega arith, refl)
first_part ManyFigures p b h = (0, omega arith, refl)
first_part ManyRun p b h = (0, omega arith, refl)
first_part WhyRun p b h = (0, omega arith, refl)
first_part Why p b h = (0, omega arith, refl)
first_part HelpOf p b h = absurd (omega (arith, h.1))
first_part Help p b h = absurd (omega (arith, h.1))
first_part DashedHelp p b h = absurd (omega (arith, h.1))
first_part Version p b h = absurd (omega (arith, h.1))

pub schema_named : (words : List (List ℕ)) (p : Part) → is_beside p ≡ true → IsNamed words p → IsNamed words Schema
schema_named words p beside is = record { command = is.command; is = is.is; names = first_part is.command p beside is.names }

pub named_form : (words : List (List ℕ)) (p : Part) → IsNamed words p → IsForm words
named_form words p is = form_of words is.command is.is

-- words of a command name its texts alone
parts_are : (words : List (List ℕ)) (c : Command) (p : Part) → IsCommand words c → IsNamed words p → Contains (parts_of c) p
parts_are words c p is h = subst (λ (d : Command). Contains (parts_of d) p) (one_command words h.command c h.is is) h.names

pub load_names_none : (words : List (List ℕ)) (p : Part) → IsCommand words Load → IsNamed words p → ⊥
load_names_none words p is h = let c = parts_are words Load p is h in omega (arith, c.1)

-- nor do those of the version
pub version_names_none : (words : List (List ℕ)) (p : Part) → IsCommand words Version → IsNamed words p → ⊥
version_names_none words p is h = let c = parts_are words Version p is h in omega (arith, c.1)

-- nor do those of help
pub help_names_none : (words : List (List ℕ)) (p : Part) → IsOfHelp words → IsNamed words p → ⊥
help_names_none words p (inl is) h = let c = parts_are words HelpOf p is h in omega (arith, c.1)
help_names_none words p (inr (inl is)) h = let c = parts_are words Help p is h in omega (arith, c.1)
help_names_none words p (inr (inr is)) h = let c = parts_are words DashedHelp p is h in omega (arith, c.1)

-- words that ask why name a query
pub why_names_query : (words : List (List ℕ)) → IsOfWhy words → IsNamed words Query
why_names_query words (inl is) = record { command = Why; is = is; names = (1, omega arith, refl) }
why_names_query words (inr is) = record { command = WhyRun; is = is; names = (1, omega arith, refl) }

-- they are of no other command
pub no_why : (words : List (List ℕ)) (c : Command) → IsCommand words c → (c ≡ Why → ⊥) → (c ≡ WhyRun → ⊥) → IsOfWhy words → ⊥
no_why words c is one run (inl asks) = one (one_command words c Why is asks)
no_why words c is one run (inr asks) = run (one_command words c WhyRun is asks)

-- the words of help are of a form
pub help_form : (words : List (List ℕ)) → IsOfHelp words → IsForm words
help_form words (inl is) = form_of words HelpOf is
help_form words (inr (inl is)) = form_of words Help is
help_form words (inr (inr is)) = form_of words DashedHelp is

no_query : Contains (parts_of Sim) Query → ⊥
no_query (zero, l, e) = absurd cc
no_query (suc zero, l, e) = absurd cc
no_query (suc (suc zero), l, e) = absurd cc
no_query (suc (suc (suc k)), l, e) = absurd (omega (arith, l))

pub sim_names_no_query : (words : List (List ℕ)) → IsCommand words Sim → IsNamed words Query → ⊥
sim_names_no_query words is h = no_query (parts_are words Sim Query is h)

-- the words of `undump` name a dump alone, and no other words name one
pub undump_names_dump : (words : List (List ℕ)) (p : Part) → IsCommand words Undump → IsNamed words p → Dump ≡ p
undump_names_dump words p is h = dump_alone p (parts_are words Undump p is h)

undumps : (c : Command) → Contains (parts_of c) Dump → Undump ≡ c
undumps Compile h = let e = part_in is_beside (parts_of Compile) Dump refl h in absurd cc
undumps Figures h = let e = part_in is_beside (parts_of Figures) Dump refl h in absurd cc
undumps Explain h = let e = part_in is_beside (parts_of Explain) Dump refl h in absurd cc
undumps Run h = let e = part_in is_beside (parts_of Run) Dump refl h in absurd cc
undumps Sim h = let e = part_in is_beside (parts_of Sim) Dump refl h in absurd cc
undumps Load h = absurd (omega (arith, h.1))
undumps Vcd h = let e = part_in is_beside (parts_of Vcd) Dump refl h in absurd cc
undumps Undump h = refl
undumps Many h = let e = part_in is_beside (parts_of Many) Dump refl h in absurd cc
undumps ManyFigures h = let e = part_in is_beside (parts_of ManyFigures) Dump refl h in absurd cc
undumps ManyRun h = let e = part_in is_beside (parts_of ManyRun) Dump refl h in absurd cc
undumps WhyRun h = let e = part_in is_beside (parts_of WhyRun) Dump refl h in absurd cc
undumps Why h = let e = part_in is_beside (parts_of Why) Dump refl h in absurd cc
undumps HelpOf h = absurd (omega (arith, h.1))
undumps Help h = absurd (omega (arith, h.1))
undumps DashedHelp h = absurd (omega (arith, h.1))
undumps Version h = absurd (omega (arith, h.1))

pub dump_is_undumped : (words : List (List ℕ)) → IsNamed words Dump → IsCommand words Undump
dump_is_undumped words h = subst (λ (c : Command). IsCommand words c) (sym (undumps h.command h.names)) h.is

-- ---- the text of several queries

-- whether a text is none of several queries, and whether it may be named beside one
abbrev is_other : Part → Bool
is_other Schema = true
is_other Query = true
is_other Module = true
is_other Tuples = true
is_other Dump = true
is_other Queries = false

abbrev is_beside_queries : Part → Bool
is_beside_queries Schema = true
is_beside_queries Query = false
is_beside_queries Module = false
is_beside_queries Tuples = true
is_beside_queries Dump = false
is_beside_queries Queries = true

beside_queries : (c : Command) → Contains (parts_of c) Queries → list_all is_beside_queries (parts_of c) ≡ true
beside_queries Compile h = let e = part_in is_other (parts_of Compile) Queries refl h in absurd cc
beside_queries Figures h = let e = part_in is_other (parts_of Figures) Queries refl h in absurd cc
beside_queries Explain h = let e = part_in is_other (parts_of Explain) Queries refl h in absurd cc
beside_queries Run h = let e = part_in is_other (parts_of Run) Queries refl h in absurd cc
beside_queries Sim h = let e = part_in is_other (parts_of Sim) Queries refl h in absurd cc
beside_queries Load h = absurd (omega (arith, h.1))
beside_queries Vcd h = let e = part_in is_other (parts_of Vcd) Queries refl h in absurd cc
beside_queries Undump h = let e = part_in is_other (parts_of Undump) Queries refl h in absurd cc
beside_queries Many h = refl
beside_queries ManyFigures h = refl
beside_queries ManyRun h = refl
beside_queries WhyRun h = let e = part_in is_other (parts_of WhyRun) Queries refl h in absurd cc
beside_queries Why h = let e = part_in is_other (parts_of Why) Queries refl h in absurd cc
beside_queries HelpOf h = absurd (omega (arith, h.1))
beside_queries Help h = absurd (omega (arith, h.1))
beside_queries DashedHelp h = absurd (omega (arith, h.1))
beside_queries Version h = absurd (omega (arith, h.1))

named_beside : (words : List (List ℕ)) (p : Part) → IsNamed words Queries → IsNamed words p → is_beside_queries p ≡ true
named_beside words p h i = part_in is_beside_queries (parts_of h.command) p (beside_queries h.command h.names) (parts_are words h.command p h.is i)

-- words name one query or several, and with several no Verilog text and no dump
pub one_query_part : (words : List (List ℕ)) → IsNamed words Query → IsNamed words Queries → ⊥
one_query_part words one several = let e = named_beside words Query several one in absurd cc

pub queries_and_no_module : (words : List (List ℕ)) → IsNamed words Queries → IsNamed words Module → ⊥
queries_and_no_module words several given = let e = named_beside words Module several given in absurd cc

pub queries_and_no_dump : (words : List (List ℕ)) → IsNamed words Queries → IsNamed words Dump → ⊥
queries_and_no_dump words several given = let e = named_beside words Dump several given in absurd cc

-- the texts of `manyrun`
pub many_run_names_schema : (words : List (List ℕ)) → IsCommand words ManyRun → IsNamed words Schema
many_run_names_schema words is = record { command = ManyRun; is = is; names = (0, omega arith, refl) }

pub many_run_names_queries : (words : List (List ℕ)) → IsCommand words ManyRun → IsNamed words Queries
many_run_names_queries words is = record { command = ManyRun; is = is; names = (1, omega arith, refl) }

pub many_run_names_tuples : (words : List (List ℕ)) → IsCommand words ManyRun → IsNamed words Tuples
many_run_names_tuples words is = record { command = ManyRun; is = is; names = (2, omega arith, refl) }

-- its words are none of one query, and none of `sim`
pub many_run_is_no_run : (words : List (List ℕ)) → IsCommand words ManyRun → IsOfRun words → ⊥
many_run_is_no_run words is (inl runs) = absurd (let e : ManyRun ≡ Run = one_command words ManyRun Run is runs in cc)
many_run_is_no_run words is (inr (inr asks)) = absurd (let e : ManyRun ≡ WhyRun = one_command words ManyRun WhyRun is asks in cc)
many_run_is_no_run words is (inr (inl dumps)) = absurd (let e : ManyRun ≡ Vcd = one_command words ManyRun Vcd is dumps in cc)

pub many_run_is_no_sim : (words : List (List ℕ)) → IsCommand words ManyRun → IsCommand words Sim → ⊥
many_run_is_no_sim words is sims = absurd (let e : ManyRun ≡ Sim = one_command words ManyRun Sim is sims in cc)

-- ---- the tuples of a load

load_takes : (words : List (List ℕ)) → is_command words Load ≡ true → is_some (load_in (names_of words)) ≡ true
unfolding is_command
load_takes words is = and_right _ _ (and_left _ _ is)

-- the words of a load say how many
pub load_given : (words : List (List ℕ)) → IsCommand words Load → (n : ℕ) × IsLoadOf words n
unfolding load_of
load_given words is =
    let there = some_there (load_in (names_of words)) (load_takes words (is_one words Load is)) in
    (there.0, record { loads = is; many = there.1 })

-- ---- the start of a run, of its dump, and of a run of several queries

run_takes : (words : List (List ℕ)) → is_command words Run ≡ true → is_some (start_in (values_of words)) ≡ true
unfolding is_command
run_takes words is = and_right _ _ is

vcd_takes : (words : List (List ℕ)) → is_command words Vcd ≡ true → is_some (start_in (values_of words)) ≡ true
unfolding is_command
vcd_takes words is = and_right _ _ is

no_start : (vs : List (Option (List ℕ))) → takes_values WhyRun vs ≡ true → is_some (start_in vs) ≡ true
no_start [] h = refl
no_start (v ∷ vs) h = absurd cc

why_takes : (words : List (List ℕ)) → is_command words WhyRun ≡ true → is_some (start_in (values_of words)) ≡ true
unfolding is_command
why_takes words is = no_start (values_of words) (and_right _ _ is)

many_run_takes : (words : List (List ℕ)) → is_command words ManyRun ≡ true → is_some (start_in (values_of words)) ≡ true
unfolding is_command
many_run_takes words is = and_right _ _ is

start_is : (words : List (List ℕ)) → is_some (start_in (values_of words)) ≡ true → start_in (values_of words) ≡ Some (start_of words)
unfolding start_of
start_is words takes =
    let there = some_there (start_in (values_of words)) takes in
    there.1 ∙ ap (λ (o : Option Start). Some (unwrap_or o Zero)) (sym there.1)

pub start_given : (words : List (List ℕ)) → IsOfRun words → start_in (values_of words) ≡ Some (start_of words)
start_given words (inl is) = start_is words (run_takes words (is_one words Run is))
start_given words (inr (inl is)) = start_is words (vcd_takes words (is_one words Vcd is))
start_given words (inr (inr is)) = start_is words (why_takes words (is_one words WhyRun is))

pub many_start_given : (words : List (List ℕ)) → IsCommand words ManyRun → start_in (values_of words) ≡ Some (start_of words)
many_start_given words is = start_is words (many_run_takes words (is_one words ManyRun is))

-- ---- the cycles that are waited for the end

sim_takes : (words : List (List ℕ)) → is_command words Sim ≡ true → is_some (extra_in (values_of words)) ≡ true
unfolding is_command
sim_takes words is = and_right _ _ is

pub extra_given : (words : List (List ℕ)) → IsCommand words Sim → extra_in (values_of words) ≡ Some (extra_of words)
unfolding extra_of
extra_given words is =
    let there = some_there (extra_in (values_of words)) (sim_takes words (is_one words Sim is)) in
    there.1 ∙ ap (λ (o : Option ℕ). Some (unwrap_or o 0)) (sym there.1)
