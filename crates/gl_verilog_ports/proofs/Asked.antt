-- What is looked for piece by piece is the name.
use Rattle.std.proofs.Common.{◌≡◌, ℕ, Bool, true, false, List, [], ◌∷◌, ◌++◌, Option, Some, None, refl, sym, ap, ◌∙◌, codes, bytes_eq, append_assoc}
use Rattle.std.specs.Prelude.{find, option_map, unwrap_or, nat_eq, ◌==◌, ◌&&◌, if◌then◌else◌}
use Rattle.std.specs.Option.{option_map_or, option_or}
use Rattle.std.proofs.lemmas.List.Folds.{find-append}
use Rattle.gl_values.specs.Kinds.{width_of}
use Rattle.gl_schema.specs.declared.schema.Column.{Column}
use Rattle.gl_schema.specs.declared.schema.Stream.{Stream}
use Rattle.gl_schema.specs.declared.schema.Schema.{Schema}
use Rattle.gl_schema.specs.Ports.{rst, eos, tick, in_valid, in_column, in_parameter}
use Rattle.gl_schema.specs.Profile.{ProfilePort, clk, input, column_inputs, stream_inputs, streams_inputs, parameter_inputs, last_inputs, input_ports}
use Rattle.gl_verilog_ports.specs.Fit.{inputs, is_among}
use Rattle.gl_verilog_ports.specs.Steps.{behind, is_valid_name, is_column_name, is_parameter_name, among_columns, among_stream, among_streams, among_parameters, is_last_input, is_asked}

front_step : (test : List ℕ → Bool) (same : Bool) (o : Option (List ℕ)) (r : Bool) → option_map_or test o false ≡ r → option_map_or test (if same then o else None) false ≡ same && r
front_step test true o r h = h
front_step test false o r h = refl

-- a test of what stands behind a front tests the whole
behind_is : (front back name : List ℕ) (test : List ℕ → Bool) → ((rest : List ℕ) → test rest ≡ bytes_eq back rest) → option_map_or test (behind front name) false ≡ bytes_eq (front ++ back) name
behind_is [] back name test h = h name
behind_is (x ∷ front) back [] test h = refl
behind_is (x ∷ front) back (y ∷ name) test h = front_step test (x == y) (behind front name) (bytes_eq (front ++ back) name) (behind_is front back name test h)

pub valid_is : (stream name : List ℕ) → is_valid_name stream name ≡ bytes_eq (in_valid stream) name
unfolding in_valid
valid_is stream name =
    behind_is (codes "in__") (stream ++ codes "__valid") name (λ rest. option_map_or (λ last. bytes_eq (codes "__valid") last) (behind stream rest) false)
    (λ rest. behind_is stream (codes "__valid") rest (λ last. bytes_eq (codes "__valid") last) (λ last. refl))

pub column_is : (stream column name : List ℕ) → is_column_name stream column name ≡ bytes_eq (in_column stream column) name
unfolding in_column
column_is stream column name =
    behind_is (codes "in__") (stream ++ codes "__" ++ column) name (λ rest. option_map_or (λ more. option_map_or (λ last. bytes_eq column last) (behind (codes "__") more) false) (behind stream rest) false)
    (λ rest. behind_is stream (codes "__" ++ column) rest (λ more. option_map_or (λ last. bytes_eq column last) (behind (codes "__") more) false)
    (λ more. behind_is (codes "__") column more (λ last. bytes_eq column last) (λ last. refl))
    ∙ ap (λ (x : List ℕ). bytes_eq x rest) (sym (append_assoc stream (codes "__") column)))

pub parameter_is : (parameter name : List ℕ) → is_parameter_name parameter name ≡ bytes_eq (in_parameter parameter) name
unfolding in_parameter
parameter_is parameter name = behind_is (codes "set__") parameter name (λ last. bytes_eq parameter last) (λ last. refl)

-- of the first port of a name among these
abbrev first : List ProfilePort → List ℕ → ℕ → Option Bool
first ports name width = option_map (λ (p : ProfilePort). nat_eq p.width width) (find (λ (p : ProfilePort). bytes_eq p.name name) ports)

or_map : {A B : Type 0} (f : A → B) (x y : Option A) → option_map f (option_or x y) ≡ option_or (option_map f x) (option_map f y)
or_map f None y = refl
or_map f (Some x) y = refl

or_un : (x y : Option Bool) (z : Bool) → unwrap_or (option_or x y) z ≡ unwrap_or x (unwrap_or y z)
or_un None y z = refl
or_un (Some x) y z = refl

first_append : (xs ys : List ProfilePort) (name : List ℕ) (width : ℕ) → first (xs ++ ys) name width ≡ option_or (first xs name width) (first ys name width)
first_append xs ys name width =
    ap (option_map (λ (p : ProfilePort). nat_eq p.width width)) (find-append (λ (p : ProfilePort). bytes_eq p.name name) xs ys)
    ∙ or_map (λ (p : ProfilePort). nat_eq p.width width) (find (λ (p : ProfilePort). bytes_eq p.name name) xs) (find (λ (p : ProfilePort). bytes_eq p.name name) ys)

map_if : {A B : Type 0} (f : A → B) (b : Bool) (x : A) (o : Option A) → option_map f (if b then Some x else o) ≡ (if b then Some (f x) else option_map f o)
map_if f true x o = refl
map_if f false x o = refl

un_if : (b x : Bool) (o : Option Bool) → unwrap_or (if b then Some x else o) false ≡ (if b then x else unwrap_or o false)
un_if true x o = refl
un_if false x o = refl

first_next : (p : ProfilePort) (ps : List ProfilePort) (name : List ℕ) (width : ℕ) → first (p ∷ ps) name width ≡ (if bytes_eq p.name name then Some (nat_eq p.width width) else first ps name width)
first_next p ps name width = map_if (λ (q : ProfilePort). nat_eq q.width width) (bytes_eq p.name name) p (find (λ (q : ProfilePort). bytes_eq q.name name) ps)

un_next : (p : ProfilePort) (ps : List ProfilePort) (name : List ℕ) (width : ℕ) → unwrap_or (first (p ∷ ps) name width) false ≡ (if bytes_eq p.name name then nat_eq p.width width else unwrap_or (first ps name width) false)
un_next p ps name width =
    ap (λ (x : Option Bool). unwrap_or x false) (first_next p ps name width) ∙ un_if (bytes_eq p.name name) (nat_eq p.width width) (first ps name width)

columns_are : (stream : List ℕ) (cs : List Column) (name : List ℕ) (width : ℕ) → among_columns stream cs name width ≡ first (column_inputs stream cs) name width
columns_are stream [] name width = refl
columns_are stream (c ∷ cs) name width =
    rw (column_is stream c.name name, columns_are stream cs name width) (sym (first_next (input (in_column stream c.name) (width_of c.kind)) (column_inputs stream cs) name width))

stream_is : (s : Stream) (name : List ℕ) (width : ℕ) → among_stream s name width ≡ first (stream_inputs s) name width
stream_is s name width =
    rw (valid_is s.name name, columns_are s.name s.columns name width) (sym (first_next (input (in_valid s.name) 1) (column_inputs s.name s.columns) name width))

streams_are : (ss : List Stream) (name : List ℕ) (width : ℕ) → among_streams ss name width ≡ first (streams_inputs ss) name width
streams_are [] name width = refl
streams_are (s ∷ ss) name width =
    rw (stream_is s name width, streams_are ss name width) (sym (first_append (stream_inputs s) (streams_inputs ss) name width))

parameters_are : (ps : List Column) (name : List ℕ) (width : ℕ) → among_parameters ps name width ≡ first (parameter_inputs ps) name width
parameters_are [] name width = refl
parameters_are (p ∷ ps) name width =
    rw (parameter_is p.name name, parameters_are ps name width) (sym (first_next (input (in_parameter p.name) (width_of p.kind)) (parameter_inputs ps) name width))

last_is : (schema : Schema) (name : List ℕ) (width : ℕ) → is_last_input schema.parameters name width ≡ unwrap_or (first (last_inputs true schema) name width) false
last_is schema name width =
    ap (λ (x : Option Bool). if bytes_eq eos name then nat_eq 1 width else if bytes_eq tick name then nat_eq 1 width else unwrap_or x false) (parameters_are schema.parameters name width)
    ∙ ap (λ (x : Bool). if bytes_eq eos name then nat_eq 1 width else x) (sym (un_next (input tick 1) (parameter_inputs schema.parameters) name width))
    ∙ sym (un_next (input eos 1) (input tick 1 ∷ parameter_inputs schema.parameters) name width)

rest_is : (schema : Schema) (name : List ℕ) (width : ℕ) → unwrap_or (among_streams schema.streams name width) (is_last_input schema.parameters name width) ≡ unwrap_or (first (streams_inputs schema.streams ++ last_inputs true schema) name width) false
rest_is schema name width =
    ap (λ (x : Option Bool). unwrap_or x (is_last_input schema.parameters name width)) (streams_are schema.streams name width)
    ∙ ap (unwrap_or (first (streams_inputs schema.streams) name width)) (last_is schema name width)
    ∙ sym (or_un (first (streams_inputs schema.streams) name width) (first (last_inputs true schema) name width) false)
    ∙ ap (λ (x : Option Bool). unwrap_or x false) (sym (first_append (streams_inputs schema.streams) (last_inputs true schema) name width))

pub asked : (schema : Schema) (name : List ℕ) (width : ℕ) → is_asked schema name width ≡ is_among (inputs schema) name width
asked schema name width =
    ap (λ (x : Bool). if bytes_eq clk name then nat_eq 1 width else if bytes_eq rst name then nat_eq 1 width else x) (rest_is schema name width)
    ∙ ap (λ (x : Bool). if bytes_eq clk name then nat_eq 1 width else x) (sym (un_next (input rst 1) (streams_inputs schema.streams ++ last_inputs true schema) name width))
    ∙ sym (un_next (input clk 1) (input_ports true schema) name width)
