-- Names in a map and in sets are names in lists, and what is put there is what is declared.
use Rattle.std.proofs.Common.{◌≡◌, ℕ, zero, suc, ◌+◌, Bool, true, false, cond, List, [], ◌∷◌, ◌++◌, length, take, drop, map, Option, Some, None, Result, Ok, Err, Bor, refl, sym, ap, ◌∙◌, arith}
use Rattle.std.specs.Prelude.{◌||◌, nat_le, position, is_some, option_map, option_and_then, slice_get, bytes_eq, if◌then◌else◌}
use Rattle.std.specs.List.{list_any}
use Rattle.std.specs.Map.{keys_of, lookup}
use Rattle.std.proofs.lemmas.List.{map-append}
use Rattle.gl_bits.proofs.Places.{place_step}
use Rattle.gl_bits.proofs.Bools.{bytes_both_ways}
use Rattle.indexmap.specs.IndexMap.{insert_entry}
use Rattle.gl_verilog.specs.Module.{Declaration, Kind, number_of}
use Rattle.gl_verilog.specs.Written.{Range}
use Rattle.gl_verilog.specs.Resolve.{decimal_number, declare, declare_port, port_kind}
use Rattle.gl_verilog.specs.View.{declaration_of, kind_of}
use Rattle.gl_verilog.specs.declared.module.Declaration as code
use Rattle.gl_verilog_faults.specs.Demands.{Rule, NeverDriven, TwiceDeclared, TooWide, is_among, name_token}
use Rattle.gl_verilog_tokens.specs.declared.token.Word.{Word}
use Rattle.gl_verilog_tokens.specs.declared.written.WrittenPort.{WrittenPort}
use Rattle.gl_verilog_tokens.specs.View.{name_of, range_of, direction_of, port_of}
use Rattle.gl_verilog_tokens.proofs.Views.{port-is}
use Rattle.gl_verilog_elaborator.specs.declared.scope.Declared.{Declared}
use Rattle.gl_verilog_elaborator.specs.Judged.{Broken, asks, known, known_as, known_at, with_name}
use Rattle.gl_verilog_elaborator.specs.Elaborated.{Scope, scope, with_declaration, is_new, declared, new_width, port_token, Elaborated, driven_kind, all_driven}
use Rattle.gl_verilog_elaborator.specs.View.{declared_as, names_in}

-- ---- the first place

-- ---- a map of declarations

number_is : (es : List ((Bor (List ℕ)) × Declared)) (name : List ℕ) → number_of (map declared_as es) name ≡ position (λ k. bytes_eq name k.now) (keys_of es)
number_is [] name = refl
number_is (e ∷ es) name =
    ap (λ (b : Bool). if b then Some 0 else option_map (λ m. m + 1) (number_of (map declared_as es) name)) (bytes_both_ways e.0.now name)
    ∙ ap (λ (o : Option ℕ). if bytes_eq name e.0.now then Some 0 else option_map (λ m. m + 1) o) (number_is es name)
    ∙ sym (place_step (λ (k : Bor (List ℕ)). bytes_eq name k.now) e.0 (keys_of es))

get_map : {X Y : Type 0} (f : X → Y) (xs : List X) (n : ℕ) (x : X) → slice_get xs n ≡ Some x → slice_get (map f xs) n ≡ Some (f x)
get_map f [] n x h = absurd cc
get_map f (y ∷ xs) zero x h = (let e : y ≡ x = cc in ap (λ (z : _). Some (f z)) e)
get_map f (y ∷ xs) (suc n) x h = get_map f xs n x h

pub known_none : (es : List ((Bor (List ℕ)) × Declared)) (name : List ℕ) → position (λ k. bytes_eq name k.now) (keys_of es) ≡ None → known (map declared_as es) name ≡ None
known_none es name h = ap (option_and_then (known_at (map declared_as es))) (number_is es name ∙ h)

pub known_some : (es : List ((Bor (List ℕ)) × Declared)) (name : List ℕ) (n : ℕ) (e : (Bor (List ℕ)) × Declared) → position (λ k. bytes_eq name k.now) (keys_of es) ≡ Some n → slice_get es n ≡ Some e → known (map declared_as es) name ≡ Some (known_as n (declared_as e))
known_some es name n e h at = ap (option_and_then (known_at (map declared_as es))) (number_is es name ∙ h) ∙ ap (option_map (known_as n)) (get_map declared_as es n e at)

pub seen_is : (es : List ((Bor (List ℕ)) × Declared)) (name : List ℕ) → is_some (lookup (λ k. bytes_eq name k.now) es) ≡ is_among name (map (λ d. d.name) (map declared_as es))
seen_is [] name = refl
seen_is (e ∷ es) name = by (bytes_eq name e.0.now) (seen_is es name)
  where
    by : (b : Bool) → is_some (lookup (λ k. bytes_eq name k.now) es) ≡ is_among name (map (λ d. d.name) (map declared_as es)) → is_some (cond b (Some e.1) (lookup (λ k. bytes_eq name k.now) es)) ≡ (b || is_among name (map (λ d. d.name) (map declared_as es)))
    by true f = refl
    by false f = f

insert_new : (es : List ((Bor (List ℕ)) × Declared)) (k : Bor (List ℕ)) (v : Declared) → is_among k.now (map (λ d. d.name) (map declared_as es)) ≡ false → insert_entry (λ a b. bytes_eq a.now b.now) es k v ≡ es ++ (k, v) ∷ []
insert_new [] k v h = refl
insert_new (e ∷ es) k v h = by (bytes_eq k.now e.0.now) (insert_new es k v) h
  where
    by : (b : Bool) → (is_among k.now (map (λ d. d.name) (map declared_as es)) ≡ false → insert_entry (λ a c. bytes_eq a.now c.now) es k v ≡ es ++ (k, v) ∷ []) → (b || is_among k.now (map (λ d. d.name) (map declared_as es))) ≡ false → (if b then (e.0, v) ∷ es else e ∷ insert_entry (λ a c. bytes_eq a.now c.now) es k v) ≡ e ∷ (es ++ (k, v) ∷ [])
    by true f g = absurd cc
    by false f g = ap (λ (l : List _). e ∷ l) (f g)

pub added_is : (es es' : List ((Bor (List ℕ)) × Declared)) (k : Bor (List ℕ)) (v : Declared) → is_among k.now (map (λ d. d.name) (map declared_as es)) ≡ false → es' ≡ insert_entry (λ a b. bytes_eq a.now b.now) es k v
    → scope (map declared_as es') (map (λ e. e.1.token) es') ≡ with_declaration (scope (map declared_as es) (map (λ e. e.1.token) es)) v.token (declared_as (k, v))
added_is es es' k v h e =
    let all : es' ≡ es ++ (k, v) ∷ [] = e ∙ insert_new es k v h in
    ap (λ (x : List _). scope (map declared_as x) (map (λ y. y.1.token) x)) all
    ∙ ap (λ (ds : List Declaration). scope ds (map (λ y. y.1.token) (es ++ (k, v) ∷ []))) (map-append declared_as es ((k, v) ∷ []))
    ∙ ap (λ (ts : List ℕ). scope (map declared_as es ++ declared_as (k, v) ∷ []) ts) (map-append (λ y. y.1.token) es ((k, v) ∷ []))

-- ---- sets of names

pub any_in : (name : List ℕ) (names : List (Bor (List ℕ))) → list_any (λ k. bytes_eq name k.now) names ≡ is_among name (names_in names)
any_in name [] = refl
any_in name (k ∷ names) = ap (λ (b : Bool). bytes_eq name k.now || b) (any_in name names)

push_in : (names : List (Bor (List ℕ))) (x : Bor (List ℕ)) → names_in (names ++ x ∷ []) ≡ names_in names ++ x.now ∷ []
push_in [] x = refl
push_in (k ∷ names) x = ap (λ (xs : List (List ℕ)). k.now ∷ xs) (push_in names x)

pub put_is : (names names' : List (Bor (List ℕ))) (x : Bor (List ℕ)) → names' ≡ (if list_any (λ k. bytes_eq x.now k.now) names then names else names ++ x ∷ []) → names_in names' ≡ with_name (names_in names) x.now
put_is names names' x e = ap names_in e ∙ by (list_any (λ k. bytes_eq x.now k.now) names) ∙ ap (λ (b : Bool). if b then names_in names else names_in names ++ x.now ∷ []) (any_in x.now names)
  where
    by : (b : Bool) → names_in (if b then names else names ++ x ∷ []) ≡ (if b then names_in names else names_in names ++ x.now ∷ [])
    by true = refl
    by false = push_in names x

pub take_in : (k : ℕ) (names : List (Bor (List ℕ))) → names_in (take k names) ≡ take k (names_in names)
take_in zero names = refl
take_in (suc k) [] = refl
take_in (suc k) (x ∷ names) = ap (λ (l : List (List ℕ)). x.now ∷ l) (take_in k names)

pub as_many : (names : List (Bor (List ℕ))) → length (names_in names) ≡ length names
as_many [] = refl
as_many (x ∷ names) = ap suc (as_many names)

pub drop_in : (k : ℕ) (names : List (Bor (List ℕ))) → names_in (drop k names) ≡ drop k (names_in names)
drop_in zero names = refl
drop_in (suc k) [] = refl
drop_in (suc k) (x ∷ names) = drop_in k names

-- ---- one declaration after another

entry_here : {X : Type 0} (xs : List X) (i : ℕ) (x : X) → Some x ≡ slice_get xs i → drop i xs ≡ x ∷ drop (i + 1) xs
entry_here [] i x h = absurd cc
entry_here (y ∷ xs) zero x h = (let e : x ≡ y = cc in ap (λ (z : _). z ∷ xs) (sym e))
entry_here (y ∷ xs) (suc i) x h = entry_here xs i x h ∙ ap (λ (n : ℕ). x ∷ drop n (y ∷ xs)) (let e : suc (i + 1) ≡ suc i + 1 = omega arith in e)

map_here : {X Y : Type 0} (f : X → Y) (xs : List X) (i : ℕ) (x : X) → Some x ≡ slice_get xs i → drop i (map f xs) ≡ f x ∷ drop (i + 1) (map f xs)
map_here f xs i x h = entry_here (map f xs) i (f x) (sym (get_map f xs i x (sym h)))

module _ (done : List (List ℕ)) (es : List ((Bor (List ℕ)) × Declared)) (i : ℕ) (x : (Bor (List ℕ)) × Declared) (e : Elaborated) (all : Result Elaborated Broken) (here : Some x ≡ slice_get es i) where
  one_driven : all_driven done (drop i (map declared_as es)) (drop i (map (λ y. y.1.token) es)) e ≡ asks NeverDriven x.1.token (driven_kind done x.0.now (kind_of x.1.kind)) (all_driven done (drop (i + 1) (map declared_as es)) (drop (i + 1) (map (λ y. y.1.token) es)) e)
  one_driven =
      ap (λ (ds : List Declaration). all_driven done ds (drop i (map (λ y. y.1.token) es)) e) (map_here declared_as es i x here)
      ∙ ap (λ (ts : List ℕ). all_driven done (declared_as x ∷ drop (i + 1) (map declared_as es)) ts e) (map_here (λ y. y.1.token) es i x here)

  pub driven_stop : false ≡ driven_kind done x.0.now (kind_of x.1.kind) → all_driven done (drop i (map declared_as es)) (drop i (map (λ y. y.1.token) es)) e ≡ all → all ≡ Err (record { rule = NeverDriven; token = x.1.token })
  driven_stop f h = sym h ∙ one_driven ∙ ap (λ (b : Bool). asks NeverDriven x.1.token b (all_driven done (drop (i + 1) (map declared_as es)) (drop (i + 1) (map (λ y. y.1.token) es)) e)) (sym f)

  pub driven_next : true ≡ driven_kind done x.0.now (kind_of x.1.kind) → all_driven done (drop i (map declared_as es)) (drop i (map (λ y. y.1.token) es)) e ≡ all → all_driven done (drop (i + 1) (map declared_as es)) (drop (i + 1) (map (λ y. y.1.token) es)) e ≡ all
  driven_next f h = ap (λ (b : Bool). asks NeverDriven x.1.token b (all_driven done (drop (i + 1) (map declared_as es)) (drop (i + 1) (map (λ y. y.1.token) es)) e)) f ∙ sym one_driven ∙ h

take_next : {X : Type 0} (xs : List X) (i : ℕ) (x : X) → Some x ≡ slice_get xs i → take (i + 1) xs ≡ take i xs ++ x ∷ []
take_next [] i x h = absurd cc
take_next (y ∷ xs) zero x h = (let e : x ≡ y = cc in ap (λ (z : _). z ∷ []) (sym e))
take_next (y ∷ xs) (suc i) x h = ap (λ (n : ℕ). take n (y ∷ xs)) (let e : suc i + 1 ≡ suc (i + 1) = omega arith in e) ∙ ap (λ (l : List _). y ∷ l) (take_next xs i x h)

pub made_next : (all more : List code.Declaration) (d : code.Declaration) (es : List ((Bor (List ℕ)) × Declared)) (i : ℕ) (x : (Bor (List ℕ)) × Declared) → more ≡ all ++ d ∷ [] → declaration_of d ≡ declared_as x → Some x ≡ slice_get es i → map declaration_of all ≡ take i (map declared_as es) → map declaration_of more ≡ take (i + 1) (map declared_as es)
made_next all more d es i x e f here h =
    ap (map declaration_of) e ∙ map-append declaration_of all (d ∷ []) ∙ ap (λ (y : Declaration). map declaration_of all ++ y ∷ []) f ∙ ap (λ (l : List Declaration). l ++ declared_as x ∷ []) h
    ∙ sym (take_next (map declared_as es) i (declared_as x) (sym (get_map declared_as es i x (sym here))))

-- ---- a declaration of a name that is new

asks_stop : {A B : Type 0} (p q : Rule) (k : ℕ) (a b : Bool) (x : A) (y : B) (c : Broken) → asks p k a (asks q k b (Ok x)) ≡ Err c → asks p k a (asks q k b (Ok y)) ≡ Err c
asks_stop p q k true true x y c h = absurd cc
asks_stop p q k true false x y c h = (let z : (let w : Broken = record { rule = q; token = k } in w) ≡ c = cc in ap Err z)
asks_stop p q k false b x y c h = (let z : (let w : Broken = record { rule = p; token = k } in w) ≡ c = cc in ap Err z)

asks_found : {A B : Type 0} (p q : Rule) (k : ℕ) (a b : Bool) (x z : A) (y : Result B Broken) → asks p k a (asks q k b (Ok x)) ≡ Ok z → (asks p k a (asks q k b y) ≡ y) × (z ≡ x)
asks_found p q k true true x z y h = (refl, (let e : x ≡ z = cc in sym e))
asks_found p q k true false x z y h = absurd cc
asks_found p q k false b x z y h = absurd cc

pub new_stop : (s : Scope) (k : ℕ) (kind : Kind) (range : Range) (name : List ℕ) (b : Broken) → new_width s k range name ≡ Err b → declared s k (declare kind range name) ≡ Err b
new_stop s k kind None name b h = asks_stop TwiceDeclared TooWide k (is_new s name) (nat_le 1 128) 1 (with_declaration s k (declare kind None name)) b h
new_stop s k kind (Some high) name b h = asks_stop TwiceDeclared TooWide k (is_new s name) (nat_le (decimal_number high + 1) 128) (decimal_number high + 1) (with_declaration s k (declare kind (Some high) name)) b h

abbrev pub has_range : Range → Bool
has_range None = false
has_range (Some high) = true

pub new_found : (s : Scope) (k : ℕ) (kind : Kind) (range : Range) (name : List ℕ) (w : ℕ) → new_width s k range name ≡ Ok w → (declared s k (declare kind range name) ≡ Ok (with_declaration s k (declare kind range name))) × (declare kind range name ≡ record { name = name; width = w; is_vector = has_range range; kind = kind })
new_found s k kind None name w h =
    let f = asks_found TwiceDeclared TooWide k (is_new s name) (nat_le 1 128) 1 w (Ok (with_declaration s k (declare kind None name))) h in
    (f.0, ap (λ (n : ℕ). let d : Declaration = record { name = name; width = n; is_vector = false; kind = kind } in d) (sym f.1))
new_found s k kind (Some high) name w h =
    let f = asks_found TwiceDeclared TooWide k (is_new s name) (nat_le (decimal_number high + 1) 128) (decimal_number high + 1) w (Ok (with_declaration s k (declare kind (Some high) name))) h in
    (f.0, ap (λ (n : ℕ). let d : Declaration = record { name = name; width = n; is_vector = true; kind = kind } in d) (sym f.1))

pub ranged : (range : Option Word) → is_some range ≡ has_range (range_of range)
ranged None = refl
ranged (Some w) = refl

-- what is put into the map is what is declared
pub new_added : (s t : Scope) (k : ℕ) (kind : Kind) (range : Range) (name : List ℕ) (w : ℕ) (v : Bool) → new_width s k range name ≡ Ok w → v ≡ has_range range → t ≡ with_declaration s k (record { name = name; width = w; is_vector = v; kind = kind }) → declared s k (declare kind range name) ≡ Ok t
new_added s t k kind range name w v h e f =
    let n = new_found s k kind range name w h in
    n.0 ∙ ap (λ (d : Declaration). Ok (with_declaration s k d)) (n.1 ∙ ap (λ (b : Bool). let d : Declaration = record { name = name; width = w; is_vector = b; kind = kind } in d) (sym e)) ∙ ap Ok (sym f)

pub port_declared : (p : WrittenPort) → declare_port (port_of p) ≡ declare (port_kind (direction_of p.direction)) (range_of p.range) (name_of p.name)
port_declared p = ap declare_port (port-is p)

pub port_named : (k n : ℕ) (p : WrittenPort) (m : ℕ) → m ≡ name_token (port_of p) → n ≡ k + m → n ≡ port_token k (port_of p)
port_named k n p m e f = omega (arith, e, f)
