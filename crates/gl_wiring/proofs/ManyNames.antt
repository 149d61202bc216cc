-- No two outputs of several results whose names differ have one name, and all are names of the subset.
use Rattle.std.proofs.Common.{◌≡◌, ℕ, Bool, List, [], ◌∷◌, ◌++◌, map, codes, length, refl, sym, ap, ◌∙◌, subst, drop, ◌⊎◌, inl, inr, append_assoc, length-append, arith}
use Rattle.std.specs.Prelude.{bytes_eq}
use Rattle.std.specs.List.{AllByRecursion, IsDistinct}
use Rattle.std.proofs.lemmas.List.{append_cancel_left}
use Rattle.gl_bits.proofs.AllLists.{all_append}
use Rattle.gl_schema.specs.declared.schema.Schema.{Schema}
use Rattle.gl_schema.specs.Names.{IsName}
use Rattle.gl_schema.specs.Ports.{out_valid, out_column, out_eos, fault_group, fault_queue}
use Rattle.gl_schema.specs.Schemas.{IsSchema}
use Rattle.gl_schema.proofs.InputNames.{Apart, AreApart, apart_distinct, both_apart, first_byte, before_double, before_name, single}
use Rattle.gl_wiring.specs.declared.names.ResultNames.{ResultNames}
use Rattle.gl_wiring.specs.Many.{intos}
use Rattle.gl_wiring.specs.Naming.{beside_others}
use Rattle.gl_wiring.specs.PortNames.{module_names, result_ports, results_ports}
use Rattle.gl_wiring.specs.Wired.{AreResultNames}
use Rattle.gl_wiring.proofs.PortNames.{IsResultByte, module_names-distinct, result_apart}
use Rattle.gl_wiring.proofs.VerilogNames.{All-append, IsPortName, Plain, around, behind, modules_named, plain}

-- ---- what a result is called, read off its ports

-- the bytes in front of the first double underscore
named_before : (r x : List ℕ) → IsName r → before_double (r ++ codes "__" ++ x) ≡ r
named_before r x h = ap before_double (append_assoc r (codes "__") x) ∙ before_name r x (single r h)

-- the same behind what shows that one is called so
same_name : (r s x y : List ℕ) → IsName r → IsName s → r ++ codes "__" ++ x ≡ s ++ codes "__" ++ y → r ≡ s
same_name r s x y h k e = sym (named_before r x h) ∙ ap before_double e ∙ named_before s y k

-- ---- the ports of one result

-- an output, and a fault line, of a result that stands alone
record IsOut (n : List ℕ) : Type 0 where
  what : List ℕ
  plain' : Plain what
  is : n ≡ codes "out__" ++ what

record IsLineName (n : List ℕ) : Type 0 where
  what : List ℕ
  plain' : Plain what
  is : n ≡ codes "fault__" ++ what

abbrev IsResultPort : List ℕ → Type 0
IsResultPort n = IsOut n ⊎ IsLineName n

columns_are : (cs : List (List ℕ)) → AllByRecursion IsName cs → AllByRecursion IsResultPort (map out_column cs)
unfolding out_column
columns_are [] all = tt
columns_are (c ∷ cs) all = (inl (record { what = c; plain' = plain c all.0; is = refl }), columns_are cs all.1)

valid_is : IsOut out_valid
unfolding out_valid
valid_is = record { what = codes "valid"; plain' = record { bytes = refl; short = omega arith }; is = refl }

end_is : IsOut out_eos
unfolding out_eos
end_is = record { what = codes "eos"; plain' = record { bytes = refl; short = omega arith }; is = refl }

group_is : IsLineName fault_group
unfolding fault_group
group_is = record { what = codes "group"; plain' = record { bytes = refl; short = omega arith }; is = refl }

queue_is : IsLineName fault_queue
unfolding fault_queue
queue_is = record { what = codes "queue"; plain' = record { bytes = refl; short = omega arith }; is = refl }

ports_are : (cs : List (List ℕ)) → AllByRecursion IsName cs → AllByRecursion IsResultPort (result_ports cs)
ports_are cs all =
    (inl valid_is, All-append IsResultPort (map out_column cs) (out_eos ∷ fault_group ∷ fault_queue ∷ []) (columns_are cs all) (inl end_is, (inr group_is, (inr queue_is, tt))))

-- ---- their names beside others

out_called : (r n : List ℕ) (is : IsOut n) → beside_others r n ≡ codes "out__" ++ r ++ codes "__" ++ is.what
out_called r n is = ap (beside_others r) is.is

line_called : (r n : List ℕ) (is : IsLineName n) → beside_others r n ≡ codes "fault__" ++ r ++ codes "__" ++ is.what
line_called r n is = ap (beside_others r) is.is

-- an output is no fault line
no_line : (r s n m : List ℕ) → IsOut n → IsLineName m → beside_others r n ≡ beside_others s m → ⊥
no_line r s n m is line e =
    let same : codes "out__" ++ r ++ codes "__" ++ is.what ≡ codes "fault__" ++ s ++ codes "__" ++ line.what = sym (out_called r n is) ∙ e ∙ line_called s m line in
    let b : 111 ≡ 102 = ap first_byte same in
    absurd (omega (arith, b))

-- two ports that are called the same are the same port of one result
same_port : (r n m : List ℕ) → IsResultPort n → IsResultPort m → beside_others r n ≡ beside_others r m → n ≡ m
same_port r n m (inl p) (inl q) e =
    p.is ∙ ap (λ (x : List ℕ). codes "out__" ++ x)
    (append_cancel_left (codes "out__" ++ r ++ codes "__") p.what q.what (sym (out_called r n p) ∙ e ∙ out_called r m q)) ∙ sym q.is
same_port r n m (inl p) (inr q) e = absurd (no_line r r n m p q e)
same_port r n m (inr p) (inl q) e = absurd (no_line r r m n q p (sym e))
same_port r n m (inr p) (inr q) e =
    p.is ∙ ap (λ (x : List ℕ). codes "fault__" ++ x)
    (append_cancel_left (codes "fault__" ++ r ++ codes "__") p.what q.what (sym (line_called r n p) ∙ e ∙ line_called r m q)) ∙ sym q.is

same_result : (r s n m : List ℕ) → IsName r → IsName s → IsResultPort n → IsResultPort m → beside_others r n ≡ beside_others s m → r ≡ s
same_result r s n m h k (inl p) (inl q) e =
    let same : codes "out__" ++ r ++ codes "__" ++ p.what ≡ codes "out__" ++ s ++ codes "__" ++ q.what = sym (out_called r n p) ∙ e ∙ out_called s m q in
    same_name r s p.what q.what h k (ap (drop 5) same)
same_result r s n m h k (inl p) (inr q) e = absurd (no_line r s n m p q e)
same_result r s n m h k (inr p) (inl q) e = absurd (no_line s r m n q p (sym e))
same_result r s n m h k (inr p) (inr q) e =
    let same : codes "fault__" ++ r ++ codes "__" ++ p.what ≡ codes "fault__" ++ s ++ codes "__" ++ q.what = sym (line_called r n p) ∙ e ∙ line_called s m q in
    same_name r s p.what q.what h k (ap (drop 7) same)

port_first : (r n : List ℕ) → IsResultPort n → IsResultByte (first_byte (beside_others r n))
port_first r n (inl p) = inl (ap first_byte (out_called r n p))
port_first r n (inr p) = inr (ap first_byte (line_called r n p))

port_name : (r n : List ℕ) → IsName r → IsResultPort n → IsPortName (beside_others r n)
port_name r n h (inl p) = subst IsPortName (sym (out_called r n p)) (record {
  name = record {
    first = refl;
    each = behind (codes "out__" ++ r ++ codes "__") p.what (around (codes "out__") r (codes "__") refl (plain r h).bytes refl) p.plain'.bytes;
    short = omega (arith, length-append (codes "out__" ++ r ++ codes "__") p.what, length-append (codes "out__" ++ r) (codes "__"), length-append (codes "out__") r, (plain r h).short, p.plain'.short);
    free = refl;
  };
  clock = refl;
})
port_name r n h (inr p) = subst IsPortName (sym (line_called r n p)) (record {
  name = record {
    first = refl;
    each = behind (codes "fault__" ++ r ++ codes "__") p.what (around (codes "fault__") r (codes "__") refl (plain r h).bytes refl) p.plain'.bytes;
    short = omega (arith, length-append (codes "fault__" ++ r ++ codes "__") p.what, length-append (codes "fault__" ++ r) (codes "__"), length-append (codes "fault__") r, (plain r h).short, p.plain'.short);
    free = refl;
  };
  clock = refl;
})

-- ---- the ports of several results

all_called : (r : List ℕ) (P : List ℕ → Type 0) → ((n : List ℕ) → IsResultPort n → P (beside_others r n)) → (ns : List (List ℕ)) → AllByRecursion IsResultPort ns
    → AllByRecursion P (map (beside_others r) ns)
all_called r P h [] all = tt
all_called r P h (n ∷ ns) all = (h n all.0, all_called r P h ns all.1)

one_apart : (r n : List ℕ) (ms : List (List ℕ)) → IsResultPort n → AllByRecursion IsResultPort ms → Apart n ms → Apart (beside_others r n) (map (beside_others r) ms)
one_apart r n [] is all h = tt
one_apart r n (m ∷ ms) is all h = (λ e. h.0 (same_port r n m is all.0 e), one_apart r n ms is all.1 h.1)

own_apart : (r : List ℕ) (ns : List (List ℕ)) → AllByRecursion IsResultPort ns → AreApart ns → AreApart (map (beside_others r) ns)
own_apart r [] all h = tt
own_apart r (n ∷ ns) all h = (one_apart r n ns all.0 all.1 h.0, own_apart r ns all.1 h.1)

abbrev pub AreNamed : List ResultNames → Type 0
AreNamed rs = AllByRecursion (λ (r : ResultNames). AreResultNames (length r.columns) r) rs

others_apart : (r n : List ℕ) (rs : List ResultNames) → IsName r → IsResultPort n → AreNamed rs → Apart r (intos rs) → Apart (beside_others r n) (results_ports rs)
others_apart r n [] h is all apart = tt
others_apart r n (s ∷ rs) h is all apart =
    all_append (λ m. beside_others r n ≡ m → ⊥) (map (beside_others s.into) (result_ports s.columns)) (results_ports rs)
    (all_called s.into (λ m. beside_others r n ≡ m → ⊥) (λ m k e. apart.0 (same_result r s.into n m h all.0.into is k e)) (result_ports s.columns) (ports_are s.columns all.0.columns))
    (others_apart r n rs h is all.1 apart.1)

results_apart : (rs : List ResultNames) → AreNamed rs → AreApart (intos rs) → AreApart (results_ports rs)
results_apart [] all h = tt
results_apart (r ∷ rs) all h =
    let ports = result_ports r.columns in
    let are = ports_are r.columns all.0.columns in
    both_apart (map (beside_others r.into) ports) (results_ports rs)
    (own_apart r.into ports are (result_apart r.columns all.0.columns (apart_distinct r.columns all.0.distinct)))
    (results_apart rs all.1 h.1)
    (all_called r.into (λ x. Apart x (results_ports rs)) (λ n is. others_apart r.into n rs all.0.into is all.1 h.0) ports are)

results_first : (rs : List ResultNames) → AreNamed rs → AllByRecursion (λ n. IsResultByte (first_byte n)) (results_ports rs)
results_first [] all = tt
results_first (r ∷ rs) all =
    All-append (λ n. IsResultByte (first_byte n)) (map (beside_others r.into) (result_ports r.columns)) (results_ports rs)
    (all_called r.into (λ n. IsResultByte (first_byte n)) (port_first r.into) (result_ports r.columns) (ports_are r.columns all.0.columns))
    (results_first rs all.1)

results_named : (rs : List ResultNames) → AreNamed rs → AllByRecursion IsPortName (results_ports rs)
results_named [] all = tt
results_named (r ∷ rs) all =
    All-append IsPortName (map (beside_others r.into) (result_ports r.columns)) (results_ports rs)
    (all_called r.into IsPortName (λ n is. port_name r.into n all.0.into is) (result_ports r.columns) (ports_are r.columns all.0.columns))
    (results_named rs all.1)

-- no two ports of a module of several results have one name, and all are names of the subset
pub many_names-distinct : (ticks : Bool) (schema : Schema) (rs : List ResultNames) → IsSchema schema → AreNamed rs → IsDistinct bytes_eq (intos rs)
    → IsDistinct bytes_eq (module_names ticks schema (results_ports rs))
many_names-distinct ticks schema rs is all distinct =
    module_names-distinct ticks (results_ports rs) (results_first rs all) schema is (results_apart rs all (apart_distinct (intos rs) distinct))

pub many_named : (ticks : Bool) (schema : Schema) (rs : List ResultNames) → IsSchema schema → AreNamed rs
    → AllByRecursion IsPortName (module_names ticks schema (results_ports rs))
many_named ticks schema rs is all = modules_named ticks schema (results_ports rs) is (results_named rs all)
