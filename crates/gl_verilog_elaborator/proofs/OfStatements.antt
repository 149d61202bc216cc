-- A statement is judged by its demands, and what is judged is what it means.
use Rattle.std.proofs.Common.{◌≡◌, ℕ, ◌+◌, Bool, true, false, List, [], ◌∷◌, ◌++◌, length, drop, Option, Some, Result, Ok, refl, sym, ap, subst, ◌∙◌, arith, append_assoc, length-append}
use Rattle.std.specs.Prelude.{◌&&◌, ◌||◌, not, nat_eq}
use Rattle.std.specs.Str.{bytes_eq}
use Rattle.std.proofs.lemmas.List.{append-nil}
use Rattle.gl_verilog.specs.Tokens.{Mark, Reserved, CloseParen, CloseBracket, LessEquals, Semicolon, ElseWord, EndWord}
use Rattle.gl_verilog.specs.Written.{WrittenExpr, spell_expr, WrittenStatement, Update, UpdateWord, IfThen, IfElse, Block, Listed, Ended, Place, Single, InBlock, IsStatementAt, spell_statement}
use Rattle.gl_verilog.specs.Module.{Declaration, Expr, Statement, Nothing, Put, Write, Both, If, number_of}
use Rattle.gl_verilog.specs.Resolve.{both, three, resolve_expr, resolve_statement, is_so, is_memory, is_memory_kind}
use Rattle.gl_verilog_faults.specs.Demands.{Demand, ask, Undeclared, BadTarget, BadMemory, TwiceDriven, WidthsDiffer, is_declared, is_clocked, is_clocked_kind, address_of, address_kind, bits_named, bits_in, is_among, targets_in, of_expr, of_statement}
use Rattle.gl_verilog_faults.proofs.Names.{so_by}
use Rattle.gl_verilog_elaborator.specs.Judged.{Broken, then', asks, Known, named, Typed, judged_expr, Drivers, driven, passed_by, left_list, Stated, stated, put_target, judged_put, write_target, judged_write, judged_test, judged_in}
use Rattle.gl_verilog_elaborator.proofs.Demanded.{Is, is_then, is_ask_as, is_as, is_mapped}
use Rattle.gl_verilog_elaborator.proofs.OfExpressions.{IsKnown, named_is, kind_so, width_known, number_known, Means, judged_is}
use Rattle.gl_verilog_faults.proofs.Drivers.{among_join}
use Rattle.gl_verilog_elaborator.proofs.Sets.{not_or, among_push, among_with, among_all}

-- the sets tell the same names as the lists
pub record Same (v : Drivers) (done before beside : List (List ℕ)) : Type 0 where
  pub done' : (n : List ℕ) → is_among n v.done ≡ is_among n done
  pub all' : (n : List ℕ) → is_among n v.all ≡ (is_among n done || is_among n before)
  pub beside' : (n : List ℕ) → is_among n v.beside ≡ is_among n beside
  pub before' : v.before ≡ before

-- what a statement leaves of them; a list alone leaves more beside
pub record Leaves (v : Drivers) (done before : List (List ℕ)) : Type 0 where
  pub done' : (n : List ℕ) → is_among n v.done ≡ is_among n done
  pub all' : (n : List ℕ) → is_among n v.all ≡ (is_among n done || is_among n before)
  pub before' : v.before ≡ before

abbrev pub Keeps : Place → Drivers → List (List ℕ) → Type 0
Keeps Single v beside = (n : List ℕ) → is_among n v.beside ≡ is_among n beside
Keeps InBlock v beside = Unit {0}

pub record Says (ds : List Declaration) (place : Place) (done before beside : List (List ℕ)) (k : ℕ) (s : WrittenStatement) (r : Stated) : Type 0 where
  pub meant : resolve_statement ds s ≡ Some r.statement
  pub end' : r.end ≡ k + length (spell_statement s)
  pub leaves : Leaves r.drivers done (before ++ targets_in s)
  pub keeps : Keeps place r.drivers beside

same_from : (v : Drivers) (done before beside : List (List ℕ)) → Leaves v done before → Keeps Single v beside → Same v done before beside
same_from v done before beside l k = record { done' = l.done'; all' = l.all'; beside' = k; before' = l.before' }

-- a target is driven
driven_leaves : (v : Drivers) (done before beside : List (List ℕ)) (target : List ℕ) → Same v done before beside → Leaves (driven v target) done (before ++ target ∷ [])
driven_leaves v done before beside target s = record {
  done' = s.done';
  all' = λ n. among_with n v.all target ∙ ap (λ (b : Bool). b || bytes_eq n target) (s.all' n) ∙ or_join (is_among n done) (is_among n before) (bytes_eq n target) ∙ ap (λ (b : Bool). is_among n done || b) (sym (among_push n before target));
  before' = ap (λ (xs : List (List ℕ)). xs ++ target ∷ []) s.before';
}
  where
    or_join : (a b c : Bool) → ((a || b) || c) ≡ (a || (b || c))
    or_join true b c = refl
    or_join false b c = refl

-- ---- targets

module _ (ds : List Declaration) (done before beside : List (List ℕ)) (v : Drivers) (same : Same v done before beside) (k : ℕ) (target : List ℕ) where
  abbrev put_demands : ℕ → List Demand
  put_demands w = ask Undeclared k (is_declared ds target) ∷ ask BadTarget k (is_so is_clocked ds target) ∷ ask BadMemory k (not (is_so is_memory ds target))
      ∷ ask TwiceDriven k (not (is_among target done) && not (is_among target beside)) ∷ ask WidthsDiffer k (nat_eq (bits_named ds target) w) ∷ []

  clocked_so : (d : Known) (h : IsKnown ds target d) → is_so is_clocked ds target ≡ is_clocked_kind d.kind
  clocked_so d h = so_by is_clocked ds target h.n h.d h.seen ∙ ap (λ (x : Known). is_clocked_kind x.kind) (sym h.same)

  abbrev HasNumber : ℕ → Type 0
  HasNumber n = number_of ds target ≡ Some n

  abbrev wide : Known → ℕ → Result ℕ Broken
  wide d x = asks WidthsDiffer k (nat_eq d.width x) (Ok d.number)

  wide_is : (d : Known) (h : IsKnown ds target d) (w x : ℕ) → x ≡ w → Is (ask WidthsDiffer k (nat_eq (bits_named ds target) w) ∷ []) HasNumber (wide d x)
  wide_is d h w x e = is_ask_as WidthsDiffer k (nat_eq d.width x) (nat_eq (bits_named ds target) w) [] HasNumber (Ok d.number) (rw (width_known ds target d h, e) refl) (λ f. (tt, h.seen.number ∙ ap Some (sym (number_known ds target d h))))

  -- what a target's demands leave: its number
  put_number : (w x : ℕ) → x ≡ w → Is (put_demands w) HasNumber (put_target ds v k target x)
  put_number w x e =
      is_then (ask Undeclared k (is_declared ds target) ∷ []) (ask BadTarget k (is_so is_clocked ds target) ∷ ask BadMemory k (not (is_so is_memory ds target)) ∷ ask TwiceDriven k (not (is_among target done) && not (is_among target beside)) ∷ ask WidthsDiffer k (nat_eq (bits_named ds target) w) ∷ [])
      (IsKnown ds target) HasNumber (named ds k target) (λ d. asks BadTarget k (is_clocked_kind d.kind) (asks BadMemory k (not (is_memory_kind d.kind)) (alone d))) (named_is ds target k) (λ d h.
      is_ask_as BadTarget k (is_clocked_kind d.kind) (is_so is_clocked ds target) (ask BadMemory k (not (is_so is_memory ds target)) ∷ ask TwiceDriven k (not (is_among target done) && not (is_among target beside)) ∷ ask WidthsDiffer k (nat_eq (bits_named ds target) w) ∷ []) HasNumber (asks BadMemory k (not (is_memory_kind d.kind)) (alone d)) (clocked_so d h) (λ a.
      is_ask_as BadMemory k (not (is_memory_kind d.kind)) (not (is_so is_memory ds target)) (ask TwiceDriven k (not (is_among target done) && not (is_among target beside)) ∷ ask WidthsDiffer k (nat_eq (bits_named ds target) w) ∷ []) HasNumber (alone d) (ap not (kind_so ds target d h)) (λ b.
      is_ask_as TwiceDriven k (not (is_among target v.done) && not (is_among target v.beside)) (not (is_among target done) && not (is_among target beside)) (ask WidthsDiffer k (nat_eq (bits_named ds target) w) ∷ []) HasNumber (wide d x) (rw (same.done' target, same.beside' target) refl) (λ c. wide_is d h w x e))))
    where
      alone : Known → Result ℕ Broken
      alone d = asks TwiceDriven k (not (is_among target v.done) && not (is_among target v.beside)) (wide d x)

  put_is : (value : WrittenExpr) (t : Typed) → Means ds (k + 2) value t → Is (put_demands (bits_in ds value)) (Says ds Single done before beside k (Update target value)) (judged_put ds v k target t)
  put_is value t m = is_mapped (put_demands (bits_in ds value)) HasNumber (Says ds Single done before beside k (Update target value)) (put_target ds v k target t.width) (λ n. stated (Put n t.expr) (t.end + 1) (driven v target)) (put_number (bits_in ds value) t.width m.width) (λ n h. record {
    meant = ap (λ (o : Option ℕ). both Put o (resolve_expr ds value)) h ∙ ap (λ (o : Option Expr). both Put (Some n) o) m.meant;
    end' = (let z : t.end ≡ k + 2 + length (spell_expr value) = m.end' in omega (arith, length-append (spell_expr value) (Mark Semicolon ∷ [])));
    leaves = driven_leaves v done before beside target same;
    keeps = same.beside';
  })

  abbrev write_demands : ℕ → ℕ → List Demand
  write_demands a w = ask Undeclared k (is_declared ds target) ∷ ask BadTarget k (is_so is_clocked ds target)
      ∷ ask BadMemory k (is_so (λ d. is_memory d && nat_eq (address_of d) a) ds target)
      ∷ ask TwiceDriven k (not (is_among target done) && not (is_among target before)) ∷ ask WidthsDiffer k (nat_eq (bits_named ds target) w) ∷ []

  memory_so : (d : Known) (h : IsKnown ds target d) (a b : ℕ) → b ≡ a → is_so (λ x. is_memory x && nat_eq (address_of x) a) ds target ≡ (is_memory_kind d.kind && nat_eq (address_kind d.kind) b)
  memory_so d h a b e =
      so_by (λ x. is_memory x && nat_eq (address_of x) a) ds target h.n h.d h.seen ∙ ap (λ (x : Known). is_memory_kind x.kind && nat_eq (address_kind x.kind) a) (sym h.same)
      ∙ ap (λ (n : ℕ). is_memory_kind d.kind && nat_eq (address_kind d.kind) n) (sym e)

  write_number : (b w y x : ℕ) → y ≡ b → x ≡ w → Is (write_demands b w) HasNumber (write_target ds v k target y x)
  write_number b w y x p e =
      is_then (ask Undeclared k (is_declared ds target) ∷ []) (ask BadTarget k (is_so is_clocked ds target) ∷ ask BadMemory k (is_so (λ d. is_memory d && nat_eq (address_of d) b) ds target) ∷ ask TwiceDriven k (not (is_among target done) && not (is_among target before)) ∷ ask WidthsDiffer k (nat_eq (bits_named ds target) w) ∷ [])
      (IsKnown ds target) HasNumber (named ds k target) (λ d. asks BadTarget k (is_clocked_kind d.kind) (asks BadMemory k (is_memory_kind d.kind && nat_eq (address_kind d.kind) y) (alone d))) (named_is ds target k) (λ d h.
      is_ask_as BadTarget k (is_clocked_kind d.kind) (is_so is_clocked ds target) (ask BadMemory k (is_so (λ z. is_memory z && nat_eq (address_of z) b) ds target) ∷ ask TwiceDriven k (not (is_among target done) && not (is_among target before)) ∷ ask WidthsDiffer k (nat_eq (bits_named ds target) w) ∷ []) HasNumber (asks BadMemory k (is_memory_kind d.kind && nat_eq (address_kind d.kind) y) (alone d)) (clocked_so d h) (λ f.
      is_ask_as BadMemory k (is_memory_kind d.kind && nat_eq (address_kind d.kind) y) (is_so (λ z. is_memory z && nat_eq (address_of z) b) ds target) (ask TwiceDriven k (not (is_among target done) && not (is_among target before)) ∷ ask WidthsDiffer k (nat_eq (bits_named ds target) w) ∷ []) HasNumber (alone d) (memory_so d h b y p) (λ g.
      is_ask_as TwiceDriven k (not (is_among target v.all)) (not (is_among target done) && not (is_among target before)) (ask WidthsDiffer k (nat_eq (bits_named ds target) w) ∷ []) HasNumber (wide d x) (sym (not_or (is_among target done) (is_among target before)) ∙ ap not (sym (same.all' target))) (λ c. wide_is d h w x e))))
    where
      alone : Known → Result ℕ Broken
      alone d = asks TwiceDriven k (not (is_among target v.all)) (wide d x)

  write_is : (address value : WrittenExpr) (a t : Typed) → Means ds (k + 2) address a → Means ds (a.end + 2) value t → Is (write_demands (bits_in ds address) (bits_in ds value)) (Says ds Single done before beside k (UpdateWord target address value)) (judged_write ds v k target a t)
  write_is address value a t p m = is_mapped (write_demands (bits_in ds address) (bits_in ds value)) HasNumber (Says ds Single done before beside k (UpdateWord target address value)) (write_target ds v k target a.width t.width) (λ n. stated (Write n a.expr t.expr) (t.end + 1) (driven v target)) (write_number (bits_in ds address) (bits_in ds value) a.width t.width p.width m.width) (λ n h. record {
    meant = ap (λ (o : Option ℕ). three Write o (resolve_expr ds address) (resolve_expr ds value)) h ∙ ap (λ (o : Option Expr). both (Write n) o (resolve_expr ds value)) p.meant ∙ ap (λ (o : Option Expr). both (Write n) (Some a.expr) o) m.meant;
    end' = (let y : a.end ≡ k + 2 + length (spell_expr address) = p.end' in let z : t.end ≡ a.end + 2 + length (spell_expr value) = m.end' in omega (arith, length-append (spell_expr address) (Mark CloseBracket ∷ Mark LessEquals ∷ (spell_expr value ++ Mark Semicolon ∷ [])), length-append (spell_expr value) (Mark Semicolon ∷ [])));
    leaves = driven_leaves v done before beside target same;
    keeps = same.beside';
  })

-- ---- all statements

abbrev JudgedIn : List Declaration → Place → List (List ℕ) → List (List ℕ) → List (List ℕ) → Drivers → ℕ → WrittenStatement → Type 0
JudgedIn ds place done before beside v k s = Is (of_statement ds done before beside k s) (Says ds place done before beside k s) (judged_in ds v k s)

-- of every such drivers, from every token
abbrev Judges : List Declaration → Place → List (List ℕ) → WrittenStatement → Type 0
Judges ds place done s = (k : ℕ) (v : Drivers) (before beside : List (List ℕ)) → Same v done before beside → JudgedIn ds place done before beside v k s

test_is : (ds : List Declaration) (k : ℕ) (test : WrittenExpr) → Is (of_expr ds (k + 2) test ++ ask WidthsDiffer k (nat_eq (bits_in ds test) 1) ∷ []) (Means ds (k + 2) test) (judged_test ds k test)
test_is ds k test = is_then (of_expr ds (k + 2) test) (ask WidthsDiffer k (nat_eq (bits_in ds test) 1) ∷ []) (Means ds (k + 2) test) (Means ds (k + 2) test) (judged_expr ds (k + 2) test) (λ t. asks WidthsDiffer k (nat_eq t.width 1) (Ok t)) (judged_is ds test (k + 2)) (λ t m.
    is_ask_as WidthsDiffer k (nat_eq t.width 1) (nat_eq (bits_in ds test) 1) [] (Means ds (k + 2) test) (Ok t) (ap (λ (w : ℕ). nat_eq w 1) (sym m.width)) (λ w. (tt, m)))

leaves_as : (v : Drivers) (done xs ys : List (List ℕ)) → xs ≡ ys → Leaves v done xs → Leaves v done ys
leaves_as v done xs ys e l = subst (Leaves v done) e l

if_then_is : (ds : List Declaration) (done : List (List ℕ)) (test : WrittenExpr) (yes' : WrittenStatement) → Judges ds Single done yes' → Judges ds Single done (IfThen test yes')
if_then_is ds done test yes' h k v before beside same =
    is_as ((of_expr ds (k + 2) test ++ ask WidthsDiffer k (nat_eq (bits_in ds test) 1) ∷ []) ++ of_statement ds done before beside (k + length (spell_expr test) + 3) yes') (of_statement ds done before beside k (IfThen test yes')) Q _ (append_assoc (of_expr ds (k + 2) test) (ask WidthsDiffer k (nat_eq (bits_in ds test) 1) ∷ []) (of_statement ds done before beside (k + length (spell_expr test) + 3) yes'))
    (is_then (of_expr ds (k + 2) test ++ ask WidthsDiffer k (nat_eq (bits_in ds test) 1) ∷ []) (of_statement ds done before beside (k + length (spell_expr test) + 3) yes') (Means ds (k + 2) test) Q (judged_test ds k test) (λ t. then' (judged_in ds v (t.end + 1) yes') (λ a. Ok (stated (If t.expr a.statement Nothing) a.end a.drivers))) (test_is ds k test) (λ t m.
    let at : t.end + 1 ≡ k + length (spell_expr test) + 3 = (let z : t.end ≡ k + 2 + length (spell_expr test) = m.end' in omega arith) in
    is_as (of_statement ds done before beside (t.end + 1) yes') (of_statement ds done before beside (k + length (spell_expr test) + 3) yes') Q _ (ap (λ (n : ℕ). of_statement ds done before beside n yes') at)
    (is_mapped (of_statement ds done before beside (t.end + 1) yes') (Says ds Single done before beside (t.end + 1) yes') Q (judged_in ds v (t.end + 1) yes') (λ a. stated (If t.expr a.statement Nothing) a.end a.drivers) (h (t.end + 1) v before beside same) (λ a s. record {
      meant = ap (λ (o : Option Expr). both (λ c x. If c x Nothing) o (resolve_statement ds yes')) m.meant ∙ ap (λ (o : Option Statement). both (λ c x. If c x Nothing) (Some t.expr) o) s.meant;
      end' = (let z : t.end ≡ k + 2 + length (spell_expr test) = m.end' in let y : a.end ≡ t.end + 1 + length (spell_statement yes') = s.end' in omega (arith, length-append (spell_expr test) (Mark CloseParen ∷ spell_statement yes')));
      leaves = s.leaves;
      keeps = s.keeps;
    }))))
  where
    Q : Stated → Type 0
    Q = Says ds Single done before beside k (IfThen test yes')

if_else_is : (ds : List Declaration) (done : List (List ℕ)) (test : WrittenExpr) (yes' no' : WrittenStatement) → Judges ds Single done yes' → Judges ds Single done no' → Judges ds Single done (IfElse test yes' no')
if_else_is ds done test yes' no' h g k v before beside same =
    is_as ((of_expr ds (k + 2) test ++ ask WidthsDiffer k (nat_eq (bits_in ds test) 1) ∷ []) ++ (yes_demands (k + length (spell_expr test) + 3) ++ no_demands (k + length (spell_expr test) + length (spell_statement yes') + 4))) (of_statement ds done before beside k (IfElse test yes' no')) Q _ (append_assoc (of_expr ds (k + 2) test) (ask WidthsDiffer k (nat_eq (bits_in ds test) 1) ∷ []) (yes_demands (k + length (spell_expr test) + 3) ++ no_demands (k + length (spell_expr test) + length (spell_statement yes') + 4)))
    (is_then (of_expr ds (k + 2) test ++ ask WidthsDiffer k (nat_eq (bits_in ds test) 1) ∷ []) (yes_demands (k + length (spell_expr test) + 3) ++ no_demands (k + length (spell_expr test) + length (spell_statement yes') + 4)) (Means ds (k + 2) test) Q (judged_test ds k test) _ (test_is ds k test) (λ t m.
    let at : t.end + 1 ≡ k + length (spell_expr test) + 3 = (let z : t.end ≡ k + 2 + length (spell_expr test) = m.end' in omega arith) in
    is_as (yes_demands (t.end + 1) ++ no_demands (k + length (spell_expr test) + length (spell_statement yes') + 4)) _ Q _ (ap (λ (n : ℕ). yes_demands n ++ no_demands (k + length (spell_expr test) + length (spell_statement yes') + 4)) at)
    (is_then (yes_demands (t.end + 1)) (no_demands (k + length (spell_expr test) + length (spell_statement yes') + 4)) (Says ds Single done before beside (t.end + 1) yes') Q (judged_in ds v (t.end + 1) yes') _ (h (t.end + 1) v before beside same) (λ a s.
    let on : a.end + 1 ≡ k + length (spell_expr test) + length (spell_statement yes') + 4 = (let y : a.end ≡ t.end + 1 + length (spell_statement yes') = s.end' in omega arith) in
    is_as (no_demands (a.end + 1)) _ Q _ (ap no_demands on)
    (is_mapped (no_demands (a.end + 1)) (Says ds Single done (before ++ targets_in yes') beside (a.end + 1) no') Q (judged_in ds a.drivers (a.end + 1) no') (λ b. stated (If t.expr a.statement b.statement) b.end b.drivers) (g (a.end + 1) a.drivers (before ++ targets_in yes') beside (same_from a.drivers done (before ++ targets_in yes') beside s.leaves s.keeps)) (λ b r. record {
      meant = ap (λ (o : Option Expr). three If o (resolve_statement ds yes') (resolve_statement ds no')) m.meant ∙ ap (λ (o : Option Statement). both (If t.expr) o (resolve_statement ds no')) s.meant ∙ ap (λ (o : Option Statement). both (If t.expr) (Some a.statement) o) r.meant;
      end' = (let z : t.end ≡ k + 2 + length (spell_expr test) = m.end' in let y : a.end ≡ t.end + 1 + length (spell_statement yes') = s.end' in let x : b.end ≡ a.end + 1 + length (spell_statement no') = r.end' in
          omega (arith, length-append (spell_expr test) (Mark CloseParen ∷ (spell_statement yes' ++ Reserved ElseWord ∷ spell_statement no')), length-append (spell_statement yes') (Reserved ElseWord ∷ spell_statement no')));
      leaves = leaves_as b.drivers done ((before ++ targets_in yes') ++ targets_in no') (before ++ (targets_in yes' ++ targets_in no')) (append_assoc before (targets_in yes') (targets_in no')) r.leaves;
      keeps = r.keeps;
    }))))))
  where
    Q : Stated → Type 0
    Q = Says ds Single done before beside k (IfElse test yes' no')

    yes_demands : ℕ → List Demand
    yes_demands n = of_statement ds done before beside n yes'

    no_demands : ℕ → List Demand
    no_demands n = of_statement ds done (before ++ targets_in yes') beside n no'

block_is : (ds : List Declaration) (done : List (List ℕ)) (statements : WrittenStatement) → Judges ds InBlock done statements → Judges ds Single done (Block statements)
block_is ds done statements h k v before beside same = is_mapped (of_statement ds done before beside (k + 1) statements) (Says ds InBlock done before beside (k + 1) statements) (Says ds Single done before beside k (Block statements)) (judged_in ds v (k + 1) statements) (λ a. stated a.statement (a.end + 1) (left_list v.beside a.drivers)) (h (k + 1) v before beside same) (λ a s. record {
  meant = s.meant;
  end' = (let y : a.end ≡ k + 1 + length (spell_statement statements) = s.end' in omega (arith, length-append (spell_statement statements) (Reserved EndWord ∷ [])));
  leaves = record { done' = s.leaves.done'; all' = s.leaves.all'; before' = s.leaves.before' };
  keeps = same.beside';
})

drop_front : (xs ys : List (List ℕ)) → drop (length xs) (xs ++ ys) ≡ ys
drop_front [] ys = refl
drop_front (x ∷ xs) ys = drop_front xs ys

-- what a statement of a list drives stands beside the next
passed_same : (v w : Drivers) (done before beside ts : List (List ℕ)) → v.before ≡ before → Leaves w done (before ++ ts) → Keeps Single w beside → Same (passed_by (length v.before) w) done (before ++ ts) (beside ++ ts)
passed_same v w done before beside ts e l k = record {
  done' = l.done';
  all' = l.all';
  beside' = λ n.
      among_all n (drop (length v.before) w.before) w.beside
      ∙ ap (λ (xs : List (List ℕ)). is_among n w.beside || is_among n xs) (ap (λ (xs : List (List ℕ)). drop (length xs) w.before) e ∙ ap (drop (length before)) l.before' ∙ drop_front before ts)
      ∙ ap (λ (b : Bool). b || is_among n ts) (k n) ∙ sym (among_join n beside ts);
  before' = l.before';
}

listed_is : (ds : List Declaration) (done : List (List ℕ)) (first rest : WrittenStatement) → Judges ds Single done first → Judges ds InBlock done rest → Judges ds InBlock done (Listed first rest)
listed_is ds done first rest h g k v before beside same = is_then (of_statement ds done before beside k first) (rest_demands (k + length (spell_statement first))) (Says ds Single done before beside k first) Q (judged_in ds v k first) _ (h k v before beside same) (λ a s.
    is_as (rest_demands a.end) (rest_demands (k + length (spell_statement first))) Q _ (ap rest_demands s.end')
    (is_mapped (rest_demands a.end) (Says ds InBlock done (before ++ targets_in first) (beside ++ targets_in first) a.end rest) Q (judged_in ds (passed_by (length v.before) a.drivers) a.end rest) (λ b. stated (Both a.statement b.statement) b.end b.drivers)
    (g a.end (passed_by (length v.before) a.drivers) (before ++ targets_in first) (beside ++ targets_in first) (passed_same v a.drivers done before beside (targets_in first) same.before' s.leaves s.keeps)) (λ b r. record {
      meant = ap (λ (o : Option Statement). both Both o (resolve_statement ds rest)) s.meant ∙ ap (λ (o : Option Statement). both Both (Some a.statement) o) r.meant;
      end' = (let y : a.end ≡ k + length (spell_statement first) = s.end' in let x : b.end ≡ a.end + length (spell_statement rest) = r.end' in omega (arith, length-append (spell_statement first) (spell_statement rest)));
      leaves = leaves_as b.drivers done ((before ++ targets_in first) ++ targets_in rest) (before ++ (targets_in first ++ targets_in rest)) (append_assoc before (targets_in first) (targets_in rest)) r.leaves;
      keeps = tt;
    })))
  where
    Q : Stated → Type 0
    Q = Says ds InBlock done before beside k (Listed first rest)

    rest_demands : ℕ → List Demand
    rest_demands n = of_statement ds done (before ++ targets_in first) (beside ++ targets_in first) n rest

ended_is : (ds : List Declaration) (done : List (List ℕ)) → Judges ds InBlock done Ended
ended_is ds done k v before beside same = (
  tt,
  record {
    meant = refl;
    end' = omega arith;
    leaves = leaves_as v done before (before ++ []) (sym (append-nil before)) (record { done' = same.done'; all' = same.all'; before' = same.before' });
    keeps = tt;
  },
)

update : (ds : List Declaration) (done : List (List ℕ)) (target : List ℕ) (value : WrittenExpr) → Judges ds Single done (Update target value)
update ds done target value k v before beside same = is_then (of_expr ds (k + 2) value) (put_demands ds done before beside v same k target (bits_in ds value)) (Means ds (k + 2) value) (Says ds Single done before beside k (Update target value)) (judged_expr ds (k + 2) value) (judged_put ds v k target) (judged_is ds value (k + 2)) (λ t m. put_is ds done before beside v same k target value t m)

word_update : (ds : List Declaration) (done : List (List ℕ)) (target : List ℕ) (address value : WrittenExpr) → Judges ds Single done (UpdateWord target address value)
word_update ds done target address value k v before beside same =
    is_as (of_expr ds (k + 2) address ++ (of_expr ds (k + length (spell_expr address) + 4) value ++ own)) (of_statement ds done before beside k (UpdateWord target address value)) Q _ (sym (append_assoc (of_expr ds (k + 2) address) (of_expr ds (k + length (spell_expr address) + 4) value) own))
    (is_then (of_expr ds (k + 2) address) (of_expr ds (k + length (spell_expr address) + 4) value ++ own) (Means ds (k + 2) address) Q (judged_expr ds (k + 2) address) _ (judged_is ds address (k + 2)) (λ a p.
    let at : a.end + 2 ≡ k + length (spell_expr address) + 4 = (let z : a.end ≡ k + 2 + length (spell_expr address) = p.end' in omega arith) in
    is_as (of_expr ds (a.end + 2) value ++ own) (of_expr ds (k + length (spell_expr address) + 4) value ++ own) Q _ (ap (λ (n : ℕ). of_expr ds n value ++ own) at)
    (is_then (of_expr ds (a.end + 2) value) own (Means ds (a.end + 2) value) Q (judged_expr ds (a.end + 2) value) (judged_write ds v k target a) (judged_is ds value (a.end + 2)) (λ t m. write_is ds done before beside v same k target address value a t p m))))
  where
    Q : Stated → Type 0
    Q = Says ds Single done before beside k (UpdateWord target address value)

    own : List Demand
    own = write_demands ds done before beside v same k target (bits_in ds address) (bits_in ds value)

pub statement_is : (ds : List Declaration) (done : List (List ℕ)) (place : Place) (s : WrittenStatement) → IsStatementAt place s → Judges ds place done s
statement_is ds done Single (Update target value) g = update ds done target value
statement_is ds done Single (UpdateWord target address value) g = word_update ds done target address value
statement_is ds done Single (IfThen test yes') g = if_then_is ds done test yes' (statement_is ds done Single yes' g.1)
statement_is ds done Single (IfElse test yes' no') g = if_else_is ds done test yes' no' (statement_is ds done Single yes' g.2) (statement_is ds done Single no' g.3)
statement_is ds done Single (Block statements) g = block_is ds done statements (statement_is ds done InBlock statements g)
statement_is ds done Single (Listed first rest) g = absurd g
statement_is ds done Single Ended g = absurd g
statement_is ds done InBlock (Listed first rest) g = listed_is ds done first rest (statement_is ds done Single first g.0) (statement_is ds done InBlock rest g.1)
statement_is ds done InBlock Ended g = ended_is ds done
statement_is ds done InBlock (Update target value) g = absurd g
statement_is ds done InBlock (UpdateWord target address value) g = absurd g
statement_is ds done InBlock (IfThen test yes') g = absurd g
statement_is ds done InBlock (IfElse test yes' no') g = absurd g
statement_is ds done InBlock (Block statements) g = absurd g
