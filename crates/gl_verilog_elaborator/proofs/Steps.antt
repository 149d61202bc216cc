-- One element after another, in the loops.
use Rattle.std.proofs.Common.{◌≡◌, ℕ, ◌+◌, ◌<◌, ◌≤◌, List, [], ◌∷◌, ◌++◌, length, drop, drop-cons, add-one, get_or, map, refl, sym, ap, ◌∙◌, append_assoc}
use Rattle.std.specs.Prelude.{Result, Ok, Err, fold, true, false}
use Rattle.std.specs.Result.{IsErrAnd}
use Rattle.std.proofs.lemmas.List.{drop_all, append-nil}
use Rattle.gl_verilog.specs.Module.{Declaration, Kind}
use Rattle.gl_verilog.specs.Written.{Range, WrittenExpr, WrittenPort, WrittenItem}
use Rattle.gl_verilog.specs.Resolve.{declare, declare_port}
use Rattle.gl_verilog_elaborator.specs.declared.stop.Stop.{Stop}
use Rattle.gl_verilog_elaborator.specs.Judged.{Broken, then', Typed, judged_expr, judged_parts}
use Rattle.gl_verilog_elaborator.specs.Elaborated.{Scope, declared, declared_all, Ported, ported, port_token, declared_ports, Elaborated, elaborated_item, elaborated_items}
use Rattle.gl_verilog_elaborator.specs.View.{is_broken, broken_of, Gives}

-- what is left begins with the next element
pub left_at : {B : Type 0} (xs : List B) (k : ℕ) (d : B) → k < length xs → drop k xs ≡ get_or xs k d ∷ drop (k + 1) xs
left_at xs k d lt = rw add-one (drop-cons xs k d lt)

-- what a refusal by `?` says
pub refused : {A B : Type 0} (r : Result A Stop) (x : Stop) (view : A → B) (said : Result B Broken) → IsErrAnd r (λ y. y ≡ x) → (is_broken x ≡ true → said ≡ Err (broken_of x)) → Gives view said r
refused (Ok v) x view said h f = absurd h
refused (Err y) x view said h f = λ e. (let same : y ≡ x = h in f (sym (ap is_broken same) ∙ e) ∙ ap (λ (z : Stop). Err (broken_of z)) (sym same))

-- want of memory says nothing
pub forgotten : {A B : Type 0} (r : Result A Stop) (x : Stop) (view : A → B) (said : Result B Broken) → IsErrAnd r (λ y. y ≡ x) → is_broken x ≡ false → Gives view said r
forgotten (Ok v) x view said h f = absurd h
forgotten (Err y) x view said h f = λ e. (let same : y ≡ x = h in absurd (let bad : true ≡ false = sym e ∙ ap is_broken same ∙ f in cc))

-- ---- names

pub fold_next : {S A B : Type 0} (f : S → A → S) (g : B → A) (xs : List B) (i : ℕ) (d : B) (s t all : S) → i < length xs → t ≡ f s (g (get_or xs i d)) → fold f s (map g (drop i xs)) ≡ all → fold f t (map g (drop (i + 1) xs)) ≡ all
fold_next f g xs i d s t all lt e h = ap (λ (x : _). fold f x (map g (drop (i + 1) xs))) e ∙ ap (λ (ys : List _). fold f s (map g ys)) (sym (left_at xs i d lt)) ∙ h

pub fold_end : {S A B : Type 0} (f : S → A → S) (g : B → A) (xs : List B) (i : ℕ) (s all : S) → length xs ≤ i → fold f s (map g (drop i xs)) ≡ all → s ≡ all
fold_end f g xs i s all le h = sym (ap (λ (ys : List _). fold f s (map g ys)) (drop_all i xs le)) ∙ h

module _ {B : Type 0} (g : B → List ℕ) (kind : Kind) (range : Range) (xs : List B) (i : ℕ) (s : Scope) (k : ℕ) (all : Result Scope Broken) where
  pub names_next : (d : B) (t : Scope) → i < length xs → declared s k (declare kind range (g (get_or xs i d))) ≡ Ok t → declared_all kind range s k (map g (drop i xs)) ≡ all → declared_all kind range t (k + 2) (map g (drop (i + 1) xs)) ≡ all
  names_next d t lt e h = ap (λ (r : Result Scope Broken). then' r (λ s'. declared_all kind range s' (k + 2) (map g (drop (i + 1) xs)))) (sym e) ∙ ap (λ (ys : List B). declared_all kind range s k (map g ys)) (sym (left_at xs i d lt)) ∙ h

  pub names_stop : (d : B) (b : Broken) → i < length xs → declared s k (declare kind range (g (get_or xs i d))) ≡ Err b → declared_all kind range s k (map g (drop i xs)) ≡ all → all ≡ Err b
  names_stop d b lt e h = sym h ∙ ap (λ (ys : List B). declared_all kind range s k (map g ys)) (left_at xs i d lt) ∙ ap (λ (r : Result Scope Broken). then' r (λ s'. declared_all kind range s' (k + 2) (map g (drop (i + 1) xs)))) e

  pub names_end : length xs ≤ i → declared_all kind range s k (map g (drop i xs)) ≡ all → all ≡ Ok s
  names_end le h = sym h ∙ ap (λ (ys : List B). declared_all kind range s k (map g ys)) (drop_all i xs le)

module _ {B : Type 0} (g : B → WrittenPort) (xs : List B) (i : ℕ) (s : Scope) (k : ℕ) (all : Result Ported Broken) where
  pub ports_next : (d : B) (t : Scope) (n : ℕ) → i < length xs → n ≡ port_token k (g (get_or xs i d)) → declared s n (declare_port (g (get_or xs i d))) ≡ Ok t → declared_ports s k (map g (drop i xs)) ≡ all → declared_ports t (n + 2) (map g (drop (i + 1) xs)) ≡ all
  ports_next d t n lt at e h =
      ap (λ (m : ℕ). declared_ports t (m + 2) (map g (drop (i + 1) xs))) at
      ∙ ap (λ (r : Result Scope Broken). then' r (λ s'. declared_ports s' (port_token k (g (get_or xs i d)) + 2) (map g (drop (i + 1) xs)))) (sym e ∙ ap (λ (m : ℕ). declared s m (declare_port (g (get_or xs i d)))) at)
      ∙ ap (λ (ys : List B). declared_ports s k (map g ys)) (sym (left_at xs i d lt)) ∙ h

  pub ports_stop : (d : B) (b : Broken) (n : ℕ) → i < length xs → n ≡ port_token k (g (get_or xs i d)) → declared s n (declare_port (g (get_or xs i d))) ≡ Err b → declared_ports s k (map g (drop i xs)) ≡ all → all ≡ Err b
  ports_stop d b n lt at e h =
      sym h ∙ ap (λ (ys : List B). declared_ports s k (map g ys)) (left_at xs i d lt)
      ∙ ap (λ (r : Result Scope Broken). then' r (λ s'. declared_ports s' (port_token k (g (get_or xs i d)) + 2) (map g (drop (i + 1) xs)))) (sym (ap (λ (m : ℕ). declared s m (declare_port (g (get_or xs i d)))) at) ∙ e)

  pub ports_end : length xs ≤ i → declared_ports s k (map g (drop i xs)) ≡ all → all ≡ Ok (ported s k)
  ports_end le h = sym h ∙ ap (λ (ys : List B). declared_ports s k (map g ys)) (drop_all i xs le)

module _ {B : Type 0} (g : B → WrittenItem) (xs : List B) (i : ℕ) (e : Elaborated) (all : Result Elaborated Broken) where
  pub items_next : (d : B) (t : Elaborated) → i < length xs → elaborated_item e (g (get_or xs i d)) ≡ Ok t → elaborated_items e (map g (drop i xs)) ≡ all → elaborated_items t (map g (drop (i + 1) xs)) ≡ all
  items_next d t lt r h = ap (λ (x : Result Elaborated Broken). then' x (λ e'. elaborated_items e' (map g (drop (i + 1) xs)))) (sym r) ∙ ap (λ (ys : List B). elaborated_items e (map g ys)) (sym (left_at xs i d lt)) ∙ h

  pub items_stop : (d : B) (b : Broken) → i < length xs → elaborated_item e (g (get_or xs i d)) ≡ Err b → elaborated_items e (map g (drop i xs)) ≡ all → all ≡ Err b
  items_stop d b lt r h = sym h ∙ ap (λ (ys : List B). elaborated_items e (map g ys)) (left_at xs i d lt) ∙ ap (λ (x : Result Elaborated Broken). then' x (λ e'. elaborated_items e' (map g (drop (i + 1) xs)))) r

  pub items_end : length xs ≤ i → elaborated_items e (map g (drop i xs)) ≡ all → all ≡ Ok e
  items_end le h = sym h ∙ ap (λ (ys : List B). elaborated_items e (map g ys)) (drop_all i xs le)

-- ---- parts in braces

-- parts behind those that were judged
abbrev pub behind : List Typed → Result (List Typed) Broken → Result (List Typed) Broken
behind done r = then' r (λ ts. Ok (done ++ ts))

behind_one : (done : List Typed) (t : Typed) (r : Result (List Typed) Broken) → behind (done ++ t ∷ []) r ≡ behind done (then' r (λ ts. Ok (t ∷ ts)))
behind_one done t (Ok ts) = ap Ok (append_assoc done (t ∷ []) ts)
behind_one done t (Err b) = refl

module _ {B : Type 0} (g : B → WrittenExpr) (ds : List Declaration) (xs : List B) (i k : ℕ) (done : List Typed) (all : Result (List Typed) Broken) where
  pub parts_next : (d : B) (t : Typed) → i < length xs → judged_expr ds k (g (get_or xs i d)) ≡ Ok t → behind done (judged_parts ds k (map g (drop i xs))) ≡ all → behind (done ++ t ∷ []) (judged_parts ds (t.end + 1) (map g (drop (i + 1) xs))) ≡ all
  parts_next d t lt e h =
      behind_one done t (judged_parts ds (t.end + 1) (map g (drop (i + 1) xs)))
      ∙ ap (λ (r : Result Typed Broken). behind done (then' r (λ u. then' (judged_parts ds (u.end + 1) (map g (drop (i + 1) xs))) (λ ts. Ok (u ∷ ts))))) (sym e)
      ∙ ap (λ (ys : List B). behind done (judged_parts ds k (map g ys))) (sym (left_at xs i d lt)) ∙ h

  pub parts_stop : (d : B) (b : Broken) → i < length xs → judged_expr ds k (g (get_or xs i d)) ≡ Err b → behind done (judged_parts ds k (map g (drop i xs))) ≡ all → all ≡ Err b
  parts_stop d b lt e h =
      sym h ∙ ap (λ (ys : List B). behind done (judged_parts ds k (map g ys))) (left_at xs i d lt)
      ∙ ap (λ (r : Result Typed Broken). behind done (then' r (λ u. then' (judged_parts ds (u.end + 1) (map g (drop (i + 1) xs))) (λ ts. Ok (u ∷ ts))))) e

  pub parts_end : length xs ≤ i → behind done (judged_parts ds k (map g (drop i xs))) ≡ all → all ≡ Ok done
  parts_end le h = sym h ∙ ap (λ (ys : List B). behind done (judged_parts ds k (map g ys))) (drop_all i xs le) ∙ ap Ok (append-nil done)

pub parts_begin : (r : Result (List Typed) Broken) → behind [] r ≡ r
parts_begin (Ok ts) = refl
parts_begin (Err b) = refl
