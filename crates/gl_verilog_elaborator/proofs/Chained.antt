-- A `begin` and its list of statements, one after another, and what stands beside them.
use Rattle.std.proofs.Common.{◌≡◌, ℕ, zero, suc, ◌+◌, ◌<◌, ◌≤◌, Bool, true, false, refl, sym, ◌∙◌, ap, List, [], ◌∷◌, ◌++◌, length, drop, take, get_or, map, Vec, Global, arith, length-append}
use Rattle.std.specs.Prelude.{◌&&◌, Result, Ok, Err, fold, if◌then◌else◌}
use Rattle.std.proofs.lemmas.Bool.{and_parts}
use Rattle.std.proofs.lemmas.List.{drop_all}
use Rattle.gl_verilog.specs.Module as spec
use Rattle.gl_verilog.specs.Module.{Declaration, Nothing, Both}
use Rattle.gl_verilog.specs.Written as written
use Rattle.gl_verilog.specs.Written.{listed}
use Rattle.gl_verilog.specs.declared.module.Statement as stmt
use Rattle.gl_verilog.specs.View as meant
use Rattle.gl_verilog.specs.View.{chained}
use Rattle.gl_verilog.proofs.Chains as chains
use Rattle.gl_verilog_tokens.specs.declared.written.WrittenStatement as code
use Rattle.gl_verilog_tokens.specs.declared.written.WrittenStatement.{WrittenStatement, IfThen', IfElse', Block'}
use Rattle.gl_verilog_tokens.specs.View.{statement_of}
use Rattle.gl_verilog_faults.specs.Demands.{is_among}
use Rattle.gl_verilog_elaborator.specs.Judged.{Broken, then', Typed, judged_expr, Drivers, with_name, driven, passed_by, left_list, Stated, stated, put_target, judged_put, write_target, judged_write, judged_test, judged_in}
use Rattle.gl_verilog_elaborator.proofs.Steps.{left_at}
use Rattle.gl_verilog_elaborator.proofs.Parts.{parts_of}

-- a chain with these statements in front
abbrev pub before : List spec.Statement → spec.Statement → spec.Statement
before [] c = c
before (s ∷ ss) c = Both s (before ss c)

before_one : (ss : List spec.Statement) (s c : spec.Statement) → before (ss ++ s ∷ []) c ≡ before ss (Both s c)
before_one [] s c = refl
before_one (t ∷ ss) s c = ap (Both t) (before_one ss s c)

chained_is : (ss : List stmt.Statement) → chained ss ≡ before (map meant.statement_of ss) Nothing
chained_is [] = refl
chained_is (s ∷ ss) = ap (Both (meant.statement_of s)) (chained_is ss)

pub block_means : (done : Vec stmt.Statement Global) → meant.statement_of (stmt.Block done) ≡ before (map meant.statement_of done.items) Nothing
block_means done = chains.block_is done ∙ chained_is done.items

-- what is judged of a list, with the statements before it
abbrev pub listed_on : List spec.Statement → Result Stated Broken → Result Stated Broken
listed_on done r = then' r (λ b. Ok (stated (before done b.statement) b.end b.drivers))

pub listed_begin : (r : Result Stated Broken) → listed_on [] r ≡ r
listed_begin (Ok b) = refl
listed_begin (Err e) = refl

listed_one : (done : List spec.Statement) (s : spec.Statement) (r : Result Stated Broken) → listed_on (done ++ s ∷ []) r ≡ listed_on done (then' r (λ b. Ok (stated (Both s b.statement) b.end b.drivers)))
listed_one done s (Ok b) = ap (λ (x : spec.Statement). Ok (stated x b.end b.drivers)) (before_one done s b.statement)
listed_one done s (Err e) = refl

module _ {B : Type 0} (g : B → written.WrittenStatement) (ds : List Declaration) (v : Drivers) (k : ℕ) (xs : List B) (i : ℕ) (done : List spec.Statement) (all : Result Stated Broken) where
  abbrev judged_list : Result Stated Broken → List B → Result Stated Broken
  judged_list r rest = listed_on done (then' r (λ a. then' (judged_in ds (passed_by (length v.before) a.drivers) a.end (listed (map g rest))) (λ b. Ok (stated (Both a.statement b.statement) b.end b.drivers))))

  pub list_next : (d : B) (a : Stated) (v' : Drivers) → i < length xs → judged_in ds v k (g (get_or xs i d)) ≡ Ok a → v' ≡ passed_by (length v.before) a.drivers → listed_on done (judged_in ds v k (listed (map g (drop i xs)))) ≡ all
      → listed_on (done ++ a.statement ∷ []) (judged_in ds v' a.end (listed (map g (drop (i + 1) xs)))) ≡ all
  list_next d a v' lt e f h =
      ap (λ (w : Drivers). listed_on (done ++ a.statement ∷ []) (judged_in ds w a.end (listed (map g (drop (i + 1) xs))))) f
      ∙ listed_one done a.statement (judged_in ds (passed_by (length v.before) a.drivers) a.end (listed (map g (drop (i + 1) xs))))
      ∙ ap (λ (r : Result Stated Broken). judged_list r (drop (i + 1) xs)) (sym e)
      ∙ ap (λ (ys : List B). listed_on done (judged_in ds v k (listed (map g ys)))) (sym (left_at xs i d lt)) ∙ h

  pub list_stop : (d : B) (b : Broken) → i < length xs → judged_in ds v k (g (get_or xs i d)) ≡ Err b → listed_on done (judged_in ds v k (listed (map g (drop i xs)))) ≡ all → all ≡ Err b
  list_stop d b lt e h = sym h ∙ ap (λ (ys : List B). listed_on done (judged_in ds v k (listed (map g ys)))) (left_at xs i d lt) ∙ ap (λ (r : Result Stated Broken). judged_list r (drop (i + 1) xs)) e

  pub list_end : length xs ≤ i → listed_on done (judged_in ds v k (listed (map g (drop i xs)))) ≡ all → all ≡ Ok (stated (before done Nothing) k v)
  list_end le h = sym h ∙ ap (λ (ys : List B). listed_on done (judged_in ds v k (listed (map g ys)))) (drop_all i xs le)

-- a statement of a list
pub statement_below : {B : Type 0} (g : B → written.WrittenStatement) (xs : List B) (i : ℕ) (d : B) → i < length xs → parts_of (listed (map g (drop i xs))) ≡ parts_of (g (get_or xs i d)) + parts_of (listed (map g (drop (i + 1) xs))) + 1
statement_below g xs i d lt = ap (λ (ys : List _). parts_of (listed (map g ys))) (left_at xs i d lt)

-- ---- what stands beside

with_longer : (b : Bool) (xs : List (List ℕ)) (n : List ℕ) → length xs ≤ length (if b then xs else xs ++ n ∷ [])
with_longer true xs n = omega arith
with_longer false xs n = omega (arith, length-append xs (n ∷ []))

take_front : (k : ℕ) (xs ys : List (List ℕ)) → k ≤ length xs → take k (xs ++ ys) ≡ take k xs
take_front zero xs ys h = refl
take_front (suc k) [] ys h = absurd (omega arith)
take_front (suc k) (x ∷ xs) ys h = ap (λ (l : List (List ℕ)). x ∷ l) (take_front k xs ys (omega arith))

with_front : (b : Bool) (k : ℕ) (xs : List (List ℕ)) (n : List ℕ) → k ≤ length xs → take k (if b then xs else xs ++ n ∷ []) ≡ take k xs
with_front true k xs n h = refl
with_front false k xs n h = take_front k xs (n ∷ []) h

pub fold_front : (k : ℕ) (ns xs : List (List ℕ)) → k ≤ length xs → take k (fold with_name xs ns) ≡ take k xs
fold_front k [] xs h = refl
fold_front k (n ∷ ns) xs h = fold_front k ns (with_name xs n) (omega (arith, with_longer (is_among n xs) xs n)) ∙ with_front (is_among n xs) k xs n h

pub fold_longer : (ns xs : List (List ℕ)) → length xs ≤ length (fold with_name xs ns)
fold_longer [] xs = omega arith
fold_longer (n ∷ ns) xs = omega (arith, with_longer (is_among n xs) xs n, fold_longer ns (with_name xs n))

pub take_own : {A : Type 0} (xs : List A) → take (length xs) xs ≡ xs
take_own [] = refl
take_own (x ∷ xs) = ap (λ (l : List _). x ∷ l) (take_own xs)

-- ---- a statement that is no list leaves what stands beside it

then_ok : {A B : Type 0} (r : Result A Broken) (f : A → Result B Broken) (x : B) → then' r f ≡ Ok x → (y : A) × (r ≡ Ok y) × (f y ≡ Ok x)
then_ok (Ok y) f x h = (y, refl, h)
then_ok (Err b) f x h = absurd cc

abbrev pub is_single : written.WrittenStatement → Bool
is_single (written.Update target value) = true
is_single (written.UpdateWord target address value) = true
is_single (written.IfThen test yes') = is_single yes'
is_single (written.IfElse test yes' no') = is_single yes' && is_single no'
is_single (written.Block statements) = true
is_single (written.Listed first rest) = false
is_single written.Ended = false

ok_is : (s r : Stated) (w : List (List ℕ)) → (let x : Result Stated Broken = Ok s in x) ≡ Ok r → s.drivers.beside ≡ w → r.drivers.beside ≡ w
ok_is s r w h e = (let g : s ≡ r = cc in ap (λ (x : Stated). x.drivers.beside) (sym g) ∙ e)

put_beside : (ds : List Declaration) (v : Drivers) (k : ℕ) (target : List ℕ) (t : Typed) (r : Stated) → judged_put ds v k target t ≡ Ok r → r.drivers.beside ≡ v.beside
put_beside ds v k target t r h =
    (let y = then_ok (put_target ds v k target t.width) (λ n. Ok (stated (spec.Put n t.expr) (t.end + 1) (driven v target))) r h in ok_is (stated (spec.Put y.0 t.expr) (t.end + 1) (driven v target)) r v.beside y.2 refl)

write_beside : (ds : List Declaration) (v : Drivers) (k : ℕ) (target : List ℕ) (a t : Typed) (r : Stated) → judged_write ds v k target a t ≡ Ok r → r.drivers.beside ≡ v.beside
write_beside ds v k target a t r h =
    (let y = then_ok (write_target ds v k target a.width t.width) (λ n. Ok (stated (spec.Write n a.expr t.expr) (t.end + 1) (driven v target))) r h in ok_is (stated (spec.Write y.0 a.expr t.expr) (t.end + 1) (driven v target)) r v.beside y.2 refl)

pub beside_kept : (ds : List Declaration) (s : written.WrittenStatement) (v : Drivers) (k : ℕ) (r : Stated) → is_single s ≡ true → judged_in ds v k s ≡ Ok r → r.drivers.beside ≡ v.beside
beside_kept ds (written.Update target value) v k r i h = (let y = then_ok (judged_expr ds (k + 2) value) _ r h in put_beside ds v k target y.0 r y.2)
beside_kept ds (written.UpdateWord target address value) v k r i h = (let y = then_ok (judged_expr ds (k + 2) address) _ r h in let z = then_ok (judged_expr ds (y.0.end + 2) value) _ r y.2 in write_beside ds v k target y.0 z.0 r z.2)
beside_kept ds (written.IfThen test yes') v k r i h =
    (let y = then_ok (judged_test ds k test) _ r h in let z = then_ok (judged_in ds v (y.0.end + 1) yes') _ r y.2 in
    ok_is (stated (spec.If y.0.expr z.0.statement Nothing) z.0.end z.0.drivers) r v.beside z.2 (beside_kept ds yes' v (y.0.end + 1) z.0 i z.1))
beside_kept ds (written.IfElse test yes' no') v k r i h =
    (let both = and_parts (is_single yes') (is_single no') i in
    let y = then_ok (judged_test ds k test) _ r h in let z = then_ok (judged_in ds v (y.0.end + 1) yes') _ r y.2 in let w = then_ok (judged_in ds z.0.drivers (z.0.end + 1) no') _ r z.2 in
    ok_is (stated (spec.If y.0.expr z.0.statement w.0.statement) w.0.end w.0.drivers) r v.beside w.2 (beside_kept ds no' z.0.drivers (z.0.end + 1) w.0 both.1 w.1 ∙ beside_kept ds yes' v (y.0.end + 1) z.0 both.0 z.1))
beside_kept ds (written.Block statements) v k r i h = (let y = then_ok (judged_in ds v (k + 1) statements) _ r h in ok_is (stated y.0.statement (y.0.end + 1) (left_list v.beside y.0.drivers)) r v.beside y.2 refl)
beside_kept ds (written.Listed first rest) v k r i h = absurd cc
beside_kept ds written.Ended v k r i h = absurd cc

pub code_single : (s : WrittenStatement) → is_single (statement_of s) ≡ true
unfolding statement_of
code_single (code.Update target value) = refl
code_single (code.UpdateWord target address value) = refl
code_single (IfThen' at test p yes') = code_single yes'
code_single (IfElse' at test p yes' q no') = rw (code_single yes', code_single no') refl
code_single (Block' shape row) = refl

-- ---- a whole block

pub block_stop : (ds : List Declaration) (v : Drivers) (k : ℕ) (s : written.WrittenStatement) (b : Broken) → judged_in ds v (k + 1) s ≡ Err b → judged_in ds v k (written.Block s) ≡ Err b
block_stop ds v k s b h = ap (λ (r : Result Stated Broken). then' r (λ a. Ok (stated a.statement (a.end + 1) (left_list v.beside a.drivers)))) h

pub block_found : (ds : List Declaration) (v : Drivers) (k : ℕ) (s : written.WrittenStatement) (a : Stated) → judged_in ds v (k + 1) s ≡ Ok a → judged_in ds v k (written.Block s) ≡ Ok (stated a.statement (a.end + 1) (left_list v.beside a.drivers))
block_found ds v k s a h = ap (λ (r : Result Stated Broken). then' r (λ x. Ok (stated x.statement (x.end + 1) (left_list v.beside x.drivers)))) h
