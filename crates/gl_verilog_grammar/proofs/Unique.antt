-- A text has exactly one verdict.
use Rattle.std.proofs.Common.{◌≡◌, ℕ, suc, ◌+◌, inl, inr, true, false, List, [], ◌∷◌, ◌++◌, length, Some, refl, sym, ap, subst, ◌∙◌}
use Rattle.std.specs.Prelude.{slice_get}
use Rattle.std.specs.List.{AllByRecursion}
use Rattle.gl_verilog.specs.Tokens.{IsPlaceOf}
use Rattle.gl_verilog.specs.Written.{WrittenModule}
use Rattle.gl_verilog.specs.Module.{Module, Assignment}
use Rattle.gl_verilog.specs.Text.{HasModule}
use Rattle.gl_verilog_faults.specs.Demands.{Rule, Demand, ask, AreMet, IsFirstLoop, IsLooped, assign_tokens, items_token}
use Rattle.gl_verilog_faults.specs.Faults.{IsSyntaxFault, IsDepthFault, IsBroken, IsJudgedFault}
use Rattle.gl_verilog_grammar.proofs.ReadModules.{one_spelt}
use Rattle.gl_verilog_faults.proofs.Exact.{one_place, first_met, judged_module, syntax_spelled, depth_spelled}

pub module_judged : (text : List ℕ) (rule : Rule) (at : ℕ) (m : Module) → IsJudgedFault text rule at → HasModule text m → ⊥
module_judged text rule at m j h = judged_module text rule at m (λ v w gv lv gw lw e. one_spelt v w gv gw e) j h

pub syntax_module : (text : List ℕ) (at : ℕ) (m : Module) → IsSyntaxFault text at → HasModule text m → ⊥
syntax_module text at m s h = syntax_spelled text at h.written s h.grammar h.spelled

pub depth_module : (text : List ℕ) (at : ℕ) (m : Module) → IsDepthFault text at → HasModule text m → ⊥
depth_module text at m s h = depth_spelled text at h.written s h.limits h.spelled

pub syntax_judged : (text : List ℕ) (at p : ℕ) (rule : Rule) → IsSyntaxFault text at → IsJudgedFault text rule p → ⊥
syntax_judged text at p rule s j = syntax_spelled text at j.written s j.grammar j.spelled

pub depth_judged : (text : List ℕ) (at p : ℕ) (rule : Rule) → IsDepthFault text at → IsJudgedFault text rule p → ⊥
depth_judged text at p rule s j = depth_spelled text at j.written s j.limits j.spelled

-- ---- one judged fault

head_of : (x y : Demand) (a b : List Demand) → x ∷ a ≡ y ∷ b → x ≡ y
head_of x y a b e = cc

tail_of : (x y : Demand) (a b : List Demand) → x ∷ a ≡ y ∷ b → a ≡ b
tail_of x y a b e = cc

met_unmet : (d : Demand) (r : Rule) (t : ℕ) → d.met ≡ true → d ≡ ask r t false → ⊥
met_unmet d r t h e = let q : true ≡ false = sym h ∙ ap (λ (x : Demand). x.met) e in absurd cc

same_first : (a b : List Demand) (r q : Rule) (t u : ℕ) (x y : List Demand) → AreMet a → AreMet b → a ++ ask r t false ∷ x ≡ b ++ ask q u false ∷ y → (r ≡ q) × (t ≡ u)
same_first [] [] r q t u x y h k e = let s : ask r t false ≡ ask q u false = head_of (ask r t false) (ask q u false) x y e in (ap (λ (d : Demand). d.rule) s, ap (λ (d : Demand). d.token) s)
same_first [] (d ∷ b) r q t u x y h k e = absurd (met_unmet d r t k.0 (sym (head_of (ask r t false) d x (b ++ ask q u false ∷ y) e)))
same_first (c ∷ a) [] r q t u x y h k e = absurd (met_unmet c q u h.0 (head_of c (ask q u false) (a ++ ask r t false ∷ x) y e))
same_first (c ∷ a) (d ∷ b) r q t u x y h k e = same_first a b r q t u x y h.1 k.1 (tail_of c d (a ++ ask r t false ∷ x) (b ++ ask q u false ∷ y) e)

assignment_head : (x y : Assignment) (a b : List Assignment) → x ∷ a ≡ y ∷ b → x ≡ y
assignment_head x y a b e = cc

assignment_tail : (x y : Assignment) (a b : List Assignment) → x ∷ a ≡ y ∷ b → a ≡ b
assignment_tail x y a b e = cc

same_length : (all a b : List Assignment) (c d : Assignment) (x y : List Assignment) → AllByRecursion (λ z. IsLooped all z.target → ⊥) a → AllByRecursion (λ z. IsLooped all z.target → ⊥) b → IsLooped all c.target → IsLooped all d.target → a ++ c ∷ x ≡ b ++ d ∷ y → length a ≡ length b
same_length all [] [] c d x y h k l m e = refl
same_length all [] (z ∷ b) c d x y h k l m e = absurd (k.0 (subst (λ (s : Assignment). IsLooped all s.target) (assignment_head c z x (b ++ d ∷ y) e) l))
same_length all (z ∷ a) [] c d x y h k l m e = absurd (h.0 (subst (λ (s : Assignment). IsLooped all s.target) (sym (assignment_head z d (a ++ c ∷ x) y e)) m))
same_length all (z ∷ a) (v ∷ b) c d x y h k l m e = ap suc (same_length all a b c d x y h.1 k.1 l m (assignment_tail z v (a ++ c ∷ x) (b ++ d ∷ y) e))

number_same : (x y : ℕ) → Some x ≡ Some y → x ≡ y
number_same x y e = cc

module_same : (x y : Module) → Some x ≡ Some y → x ≡ y
module_same x y e = cc

-- what is known of a first loop, of a given module
pub record LoopOf (all : List Assignment) (tokens : List ℕ) (token : ℕ) : Type 0 where
  pub front : List Assignment
  pub looped : Assignment
  pub back : List Assignment
  pub parts : all ≡ front ++ looped ∷ back
  pub free : AllByRecursion (λ a. IsLooped all a.target → ⊥) front
  pub loops : IsLooped all looped.target
  pub place : slice_get tokens (length front) ≡ Some token

loop_of : (w : WrittenModule) (t : ℕ) (l : IsFirstLoop w t) → LoopOf l.meant.assignments (assign_tokens (items_token w.ports) w.items) t
loop_of w t l = record { front = l.front; looped = l.looped; back = l.back; parts = l.parts; free = l.free; loops = l.loops; place = l.place }

one_loop_of : (all : List Assignment) (tokens : List ℕ) (t u : ℕ) → LoopOf all tokens t → LoopOf all tokens u → t ≡ u
one_loop_of all tokens t u a b =
    let n : length a.front ≡ length b.front = same_length all a.front b.front a.looped b.looped a.back b.back a.free b.free a.loops b.loops (sym a.parts ∙ b.parts) in
    number_same t u (sym a.place ∙ ap (slice_get tokens) n ∙ b.place)

one_loop : (w : WrittenModule) (t u : ℕ) → IsFirstLoop w t → IsFirstLoop w u → t ≡ u
one_loop w t u a b =
    let m : a.meant ≡ b.meant = module_same a.meant b.meant (sym a.resolved ∙ b.resolved) in
    one_loop_of b.meant.assignments (assign_tokens (items_token w.ports) w.items) t u (subst (λ (x : Module). LoopOf x.assignments (assign_tokens (items_token w.ports) w.items) t) m (loop_of w t a)) (loop_of w u b)

pub one_broken : (w : WrittenModule) (r q : Rule) (t u : ℕ) → IsBroken w r t → IsBroken w q u → (r ≡ q) × (t ≡ u)
one_broken w r q t u (inl a) (inl b) = same_first a.0 b.0 r q t u a.1 b.1 a.3 b.3 (sym a.2 ∙ b.2)
one_broken w r q t u (inl a) (inr b) = absurd (first_met w r t a b.1.met)
one_broken w r q t u (inr a) (inl b) = absurd (first_met w q u b a.1.met)
one_broken w r q t u (inr a) (inr b) = (a.0 ∙ sym b.0, one_loop w t u a.1 b.1)

pub judged_one : (text : List ℕ) (r q : Rule) (p s : ℕ) → IsJudgedFault text r p → IsJudgedFault text q s → (r ≡ q) × (p ≡ s)
judged_one text r q p s a b =
    let w : b.written ≡ a.written = one_spelt b.written a.written b.grammar a.grammar (sym b.spelled ∙ a.spelled) in
    let o = one_broken a.written r q a.token b.token a.broken (subst (λ (x : WrittenModule). IsBroken x q b.token) w b.broken) in
    (o.0, one_place text a.token p s a.place (subst (λ (k : ℕ). IsPlaceOf text k s) (sym o.1) b.place))
