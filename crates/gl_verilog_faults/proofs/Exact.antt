-- A text has at most one of a module, a Syntax, a TooDeep and a judged fault, and of each at most one; it has one wherever it can be told
-- which tokens begin a module.
use Rattle.std.proofs.Common.{◌≡◌, ℕ, suc, ◌+◌, ◌<◌, ◌≤◌, ◌⊎◌, inl, inr, Bool, true, false, List, [], ◌∷◌, ◌++◌, length, map, get_or, take, Option, Some, None, refl, sym, ap, subst, ◌∙◌, arith, append_assoc}
use Rattle.std.specs.Prelude.{slice_get, option_map, option_and_then}
use Rattle.std.specs.List.{AllByRecursion}
use Rattle.std.proofs.lemmas.Bool.{both_ways, cases_order}
use Rattle.std.proofs.lemmas.List.{append-nil}
use Rattle.std.proofs.lemmas.Option.{slice_get-get_or}
use Rattle.gl_verilog.specs.Tokens.{Token, tokens_of, IsPlaceOf}
use Rattle.gl_verilog.specs.Written.{WrittenModule, WrittenItem, Wires, Registers, MemoryOf, Assign, Always, IsWritten, spell, spell_item}
use Rattle.gl_verilog.specs.Limits.{IsWithinLimits}
use Rattle.gl_verilog.specs.Module.{Module, Assignment, Declaration, Memory, number_of}
use Rattle.gl_verilog.specs.Resolve.{resolve, resolve_items, module_from, declare_port, Resolved, with_assignment, with_block, clocked, three, resolve_expr, resolve_statement, declare, address_bits_of, decimal_number}
use Rattle.gl_verilog.specs.Text.{HasModule}
use Rattle.gl_verilog.specs.Valid.{IsValid}
use Rattle.gl_verilog_faults.specs.Demands.{Rule, Loop, Demand, ask, AreMet, IsFirst, IsLooped, assign_tokens, items_token, demands_of}
use Rattle.gl_verilog_faults.specs.Counts.{Role, Counts, none_counted, after, is_past, keeps_limits}
use Rattle.gl_verilog_faults.specs.Marks.{Header, marks, behind}
use Rattle.gl_verilog_faults.specs.Faults.{CanBegin, KeepsFront, Stops, IsSyntaxFault, IsDepthFault, IsBroken, IsJudgedFault}
use Rattle.gl_verilog_faults.proofs.Law.{demands_valid, valid_demands, judged, IsJudged, IsFree}
use Rattle.gl_verilog_faults.proofs.Limiting.{within, within_keeps}
use Rattle.gl_verilog_faults.proofs.Marking.{module_marks, marks_join}
use Rattle.gl_verilog_faults.proofs.Loops.{first_loop}
use Rattle.gl_bits.proofs.Options.{some_same}
use Rattle.gl_bits.proofs.AllLists.{heads, tails}
use Rattle.gl_verilog_faults.proofs.LimitingExpressions.{past_so}

-- ---- lists

-- of two fronts of a list one begins the other
pub record Begun {A : Type 0} (a b c d : List A) : Type 0 where
  pub more : List A
  pub longer : c ≡ a ++ more
  pub rest : b ≡ more ++ d

cut : {A : Type 0} (a b c d : List A) → a ++ b ≡ c ++ d → Begun a b c d ⊎ Begun c d a b
cut [] b c d e = inl (record { more = c; longer = refl; rest = e })
cut (x ∷ a) b [] d e = inr (record { more = x ∷ a; longer = refl; rest = sym e })
cut (x ∷ a) b (y ∷ c) d e = elim (cut a b c d (tails x y (a ++ b) (c ++ d) e)) [
  | inl r ↦ inl (record { more = r.more; longer = (let h : x ≡ y = heads x y (a ++ b) (c ++ d) e in rw (r.longer, h) refl); rest = r.rest })
  | inr r ↦ inr (record { more = r.more; longer = (let h : x ≡ y = heads x y (a ++ b) (c ++ d) e in rw (r.longer, h) refl); rest = r.rest })
]

-- ---- fronts

begins_front : (a b : List Token) → CanBegin (a ++ b) → CanBegin a
begins_front a b h = (h.0, b ++ h.1, h.2, h.3 ∙ append_assoc a b h.1)

keeps_front : (n : Counts) (a b : List Role) → keeps_limits n (a ++ b) ≡ true → keeps_limits n a ≡ true
keeps_front n [] b h = refl
keeps_front n (r ∷ a) b h = let p = past_so (is_past (after n r)) (keeps_limits (after n r) (a ++ b)) h in rw p.0 (keeps_front (after n r) a b p.1)

pub keeps_tokens : (a b : List Token) → KeepsFront (a ++ b) → KeepsFront a
keeps_tokens a b h = keeps_front none_counted (marks Header a) (marks (behind Header a) b) (rw (marks_join Header a b) at h)

pub spelled_keeps : (w : WrittenModule) → IsWithinLimits w → KeepsFront (spell w)
spelled_keeps w l = subst (λ (r : List Role). keeps_limits none_counted r ≡ true) (sym (module_marks w)) (within_keeps w l)

pub keeps_spelled : (w : WrittenModule) → KeepsFront (spell w) → IsWithinLimits w
keeps_spelled w h = within w (subst (λ (r : List Role). keeps_limits none_counted r ≡ true) (module_marks w) h)

pub one_place : (text : List ℕ) (k p q : ℕ) → IsPlaceOf text k p → IsPlaceOf text k q → p ≡ q
one_place text k p q a b = elim (cases_order p q) [
  | inl e ↦ e
  | inr h ↦ elim h [
    | inl l ↦ absurd (let x : k < length (tokens_of (take q text)) = a.behind q l b.within in let y : length (tokens_of (take q text)) ≤ k = b.before in omega arith)
    | inr l ↦ absurd (let x : k < length (tokens_of (take p text)) = b.behind p l a.within in let y : length (tokens_of (take p text)) ≤ k = a.before in omega arith)
  ]
]

-- ---- none excludes another

-- where the tokens before one stop, no longer front begins a module
stops_longer : (read left more tail : List Token) → Stops read left → left ≡ more ++ tail → (more ≡ [] → ⊥) → CanBegin (read ++ more) → ⊥
stops_longer read [] [] tail s e f h = f refl
stops_longer read [] (x ∷ more) tail s e f h = absurd cc
stops_longer read (t ∷ left) [] tail s e f h = f refl
stops_longer read (t ∷ left) (x ∷ more) tail s e f h =
    let same : t ≡ x = heads t x left (more ++ tail) e in
    s (begins_front (read ++ t ∷ []) more (subst CanBegin (sym (append_assoc read (t ∷ []) more)) (rw same h)))

pub syntax_spelled : (text : List ℕ) (at : ℕ) (w : WrittenModule) → IsSyntaxFault text at → IsWritten w → tokens_of text ≡ spell w → ⊥
syntax_spelled text at w s g e = all_read s.read s.left s.stops (sym e ∙ s.parts)
  where
    all_read : (read left : List Token) → Stops read left → spell w ≡ read ++ left → ⊥
    all_read read [] h q = h w g (q ∙ append-nil read)
    all_read read (t ∷ left) h q = h (w, left, g, q ∙ sym (append_assoc read (t ∷ []) left))

pub depth_spelled : (text : List ℕ) (at : ℕ) (w : WrittenModule) → IsDepthFault text at → IsWithinLimits w → tokens_of text ≡ spell w → ⊥
depth_spelled text at w s l e =
    let q : spell w ≡ (s.read ++ s.deep ∷ []) ++ s.left = sym e ∙ s.parts ∙ sym (append_assoc s.read (s.deep ∷ []) s.left) in
    let k : KeepsFront ((s.read ++ s.deep ∷ []) ++ s.left) = subst KeepsFront q (spelled_keeps w l) in
    both_ways (keeps_limits none_counted (marks Header (s.read ++ s.deep ∷ []))) s.past (keeps_tokens (s.read ++ s.deep ∷ []) s.left k)

pub syntax_depth : (text : List ℕ) (p q : ℕ) → IsSyntaxFault text p → IsDepthFault text q → ⊥
syntax_depth text p q s d = elim (cut s.read s.left (d.read ++ d.deep ∷ []) d.left (sym s.parts ∙ d.parts ∙ sym (append_assoc d.read (d.deep ∷ []) d.left))) [
  | inl r ↦ longer r.more r.longer r.rest
  | inr r ↦ both_ways (keeps_limits none_counted (marks Header (d.read ++ d.deep ∷ []))) d.past (keeps_tokens (d.read ++ d.deep ∷ []) r.more (subst KeepsFront r.longer s.limits))
]
  where
    longer : (more : List Token) → d.read ++ d.deep ∷ [] ≡ s.read ++ more → s.left ≡ more ++ d.left → ⊥
    longer [] e f = both_ways (keeps_limits none_counted (marks Header (d.read ++ d.deep ∷ []))) d.past (subst KeepsFront (sym (e ∙ append-nil s.read)) s.limits)
    longer (x ∷ more) e f = stops_longer s.read s.left (x ∷ more) d.left s.stops f (λ n. absurd cc) (subst CanBegin e d.begins)

-- of two syntax faults neither reads further
syntax_reads : (text : List ℕ) (p q : ℕ) (a : IsSyntaxFault text p) (b : IsSyntaxFault text q) (more : List Token) → b.read ≡ a.read ++ more → a.left ≡ more ++ b.left → a.read ≡ b.read
syntax_reads text p q a b [] e f = sym (e ∙ append-nil a.read)
syntax_reads text p q a b (x ∷ more) e f = absurd (stops_longer a.read a.left (x ∷ more) b.left a.stops f (λ n. absurd cc) (subst CanBegin e b.begins))

pub syntax_one : (text : List ℕ) (p q : ℕ) → IsSyntaxFault text p → IsSyntaxFault text q → p ≡ q
syntax_one text p q a b =
    let same : a.read ≡ b.read = elim (cut a.read a.left b.read b.left (sym a.parts ∙ b.parts)) [ inl r ↦ syntax_reads text p q a b r.more r.longer r.rest | inr r ↦ sym (syntax_reads text q p b a r.more r.longer r.rest) ] in
    one_place text (length a.read) p q a.place (subst (λ (x : List Token). IsPlaceOf text (length x) q) (sym same) b.place)

depth_reads : (text : List ℕ) (p q : ℕ) (a : IsDepthFault text p) (b : IsDepthFault text q) (more : List Token) → b.read ≡ a.read ++ more → a.deep ∷ a.left ≡ more ++ b.deep ∷ b.left → a.read ≡ b.read
depth_reads text p q a b [] e f = sym (e ∙ append-nil a.read)
depth_reads text p q a b (x ∷ more) e f =
    let same : a.deep ≡ x = heads a.deep x a.left (more ++ b.deep ∷ b.left) f in
    let e' : b.read ≡ (a.read ++ a.deep ∷ []) ++ more = rw same (e ∙ sym (append_assoc a.read (x ∷ []) more)) in
    absurd (both_ways (keeps_limits none_counted (marks Header (a.read ++ a.deep ∷ []))) a.past (keeps_tokens (a.read ++ a.deep ∷ []) more (subst KeepsFront e' b.limits)))

pub depth_one : (text : List ℕ) (p q : ℕ) → IsDepthFault text p → IsDepthFault text q → p ≡ q
depth_one text p q a b =
    let same : a.read ≡ b.read = elim (cut a.read (a.deep ∷ a.left) b.read (b.deep ∷ b.left) (sym a.parts ∙ b.parts)) [ inl r ↦ depth_reads text p q a b r.more r.longer r.rest | inr r ↦ sym (depth_reads text q p b a r.more r.longer r.rest) ] in
    one_place text (length a.read) p q a.place (subst (λ (x : List Token). IsPlaceOf text (length x) q) (sym same) b.place)

-- ---- the first demand that is not met

unmet : (front back : List Demand) (rule : Rule) (token : ℕ) → AreMet (front ++ ask rule token false ∷ back) → ⊥
unmet [] back rule token h = (let e : false ≡ true = h.0 in cc)
unmet (d ∷ front) back rule token h = unmet front back rule token h.1

pub first_met : (w : WrittenModule) (rule : Rule) (token : ℕ) → IsFirst w rule token → AreMet (demands_of w) → ⊥
first_met w rule token f h = unmet f.0 f.1 rule token (subst AreMet f.2 h)

in_front : (a b : List Assignment) (all : List Assignment) (x : Assignment) → AllByRecursion (λ c. IsLooped all c.target → ⊥) (a ++ x ∷ b) → IsLooped all x.target → ⊥
in_front [] b all x h l = h.0 l
in_front (y ∷ a) b all x h l = in_front a b all x h.1 l

pub judged_module : (text : List ℕ) (rule : Rule) (at : ℕ) (m : Module) → ((v w : WrittenModule) → IsWritten v → IsWithinLimits v → IsWritten w → IsWithinLimits w → spell v ≡ spell w → v ≡ w) → IsJudgedFault text rule at → HasModule text m → ⊥
judged_module text rule at m one j h =
    let same : h.written ≡ j.written = one h.written j.written h.grammar h.limits j.grammar j.limits (sym h.spelled ∙ j.spelled) in
    let r : resolve j.written ≡ Some m = subst (λ (w : WrittenModule). resolve w ≡ Some m) same h.resolved in
    let v = valid_demands j.written m r h.valid in
    elim j.broken [
      | inl f ↦ first_met j.written rule j.token f v.0
      | inr l ↦ (let i : l.1.meant ≡ m = (let q : Some l.1.meant ≡ Some m = sym l.1.resolved ∙ r in cc) in
          in_front l.1.front l.1.back l.1.meant.assignments l.1.looped (subst (AllByRecursion (λ c. IsLooped l.1.meant.assignments c.target → ⊥)) l.1.parts (subst (λ (x : Module). IsFree x.assignments) (sym i) v.1)) l.1.loops)
    ]

-- ---- one there is

-- the first demand that is not met, or none
pub first_demand : (ds : List Demand) → AreMet ds ⊎ ((front : List Demand) × (back : List Demand) × (rule : Rule) × (token : ℕ) × (ds ≡ front ++ ask rule token false ∷ back) × AreMet front)
first_demand [] = inl tt
first_demand (d ∷ ds) = by_met d ds d.met refl (first_demand ds)
  where
    by_met : (d : Demand) (ds : List Demand) (b : Bool) → d.met ≡ b → AreMet ds ⊎ ((front : List Demand) × (back : List Demand) × (rule : Rule) × (token : ℕ) × (ds ≡ front ++ ask rule token false ∷ back) × AreMet front) → AreMet (d ∷ ds) ⊎ ((front : List Demand) × (back : List Demand) × (rule : Rule) × (token : ℕ) × (d ∷ ds ≡ front ++ ask rule token false ∷ back) × AreMet front)
    by_met d ds false e r = inr ([], ds, d.rule, d.token, ap (λ (b : Bool). ask d.rule d.token b ∷ ds) e, tt)
    by_met d ds true e (inl h) = inl (e, h)
    by_met d ds true e (inr h) = inr (d ∷ h.0, h.1, h.2, h.3, ap (λ (x : List Demand). d ∷ x) h.4, (e, h.5))

three_parts : {A B C D : Type 0} (f : A → B → C → D) (o : Option A) (p : Option B) (q : Option C) (y : D) → three f o p q ≡ Some y → (a : A) × (b : B) × (c : C) × (q ≡ Some c) × (y ≡ f a b c)
three_parts f None p q y e = absurd cc
three_parts f (Some a) None q y e = absurd cc
three_parts f (Some a) (Some b) None y e = absurd cc
three_parts f (Some a) (Some b) (Some c) y e = (a, b, c, refl, sym (some_same (f a b c) y e))

then_parts : {A B : Type 0} (f : A → Option B) (o : Option A) (y : B) → option_and_then f o ≡ Some y → (x : A) × (f x ≡ Some y)
then_parts f None y e = absurd cc
then_parts f (Some x) y e = (x, e)

tokens_count : (items : List WrittenItem) (ds : List Declaration) (k : ℕ) (r : Resolved) → resolve_items ds items ≡ Some r → length (assign_tokens k items) ≡ length r.assignments
tokens_count [] ds k r e = let q : record { declarations = ds; assignments = []; blocks = [] } ≡ r = some_same (record { declarations = ds; assignments = []; blocks = [] }) r e in ap (λ (x : Resolved). length x.assignments) q
tokens_count (Wires range names ∷ is) ds k r e = tokens_count is _ (k + length (spell_item (Wires range names))) r e
tokens_count (Registers range names ∷ is) ds k r e = tokens_count is _ (k + length (spell_item (Registers range names))) r e
tokens_count (MemoryOf range name last ∷ is) ds k r e = let m = then_parts (λ (j : ℕ). resolve_items (ds ++ declare (Memory j) range name ∷ []) is) (address_bits_of (decimal_number last + 1)) r e in tokens_count is _ (k + length (spell_item (MemoryOf range name last))) r m.1
tokens_count (Assign target value ∷ is) ds k r e =
    let m = three_parts with_assignment (number_of ds target) (resolve_expr ds value) (resolve_items ds is) r e in
    ap suc (tokens_count is ds (k + length (spell_item (Assign target value))) m.2 m.3) ∙ sym (ap (λ (x : Resolved). length x.assignments) m.4)
tokens_count (Always clock body ∷ is) ds k r e =
    let m = three_parts with_block (clocked ds clock) (resolve_statement ds body) (resolve_items ds is) r e in
    tokens_count is ds (k + length (spell_item (Always clock body))) m.2 m.3 ∙ sym (ap (λ (x : Resolved). length x.assignments) m.4)

module_tokens : (w : WrittenModule) (m : Module) → resolve w ≡ Some m → length (assign_tokens (items_token w.ports) w.items) ≡ length m.assignments
module_tokens w m e = by_items (resolve_items (map declare_port w.ports) w.items) refl e
  where
    by_items : (o : Option Resolved) → resolve_items (map declare_port w.ports) w.items ≡ o → option_map (module_from w) o ≡ Some m → length (assign_tokens (items_token w.ports) w.items) ≡ length m.assignments
    by_items None q e = absurd cc
    by_items (Some r) q e = tokens_count w.items (map declare_port w.ports) (items_token w.ports) r q ∙ ap (λ (x : Module). length x.assignments) (some_same (module_from w r) m e)

within_list : (front : List Assignment) (x : Assignment) (back : List Assignment) → length front < length (front ++ x ∷ back)
within_list [] x back = omega arith
within_list (y ∷ front) x back = let t : length front < length (front ++ x ∷ back) = within_list front x back in omega arith

-- a written module is valid, or it breaks a rule, and that in one place
pub valid_or_broken : (w : WrittenModule) → IsWritten w → ((m : Module) × (resolve w ≡ Some m) × IsValid m) ⊎ ((rule : Rule) × (token : ℕ) × IsBroken w rule token)
valid_or_broken w g = elim (first_demand (demands_of w)) [
  | inl h ↦ met_case h (judged w g h)
  | inr f ↦ inr (f.2, f.3, inl (f.0, f.1, f.4, f.5))
]
  where
    met_case : (h : AreMet (demands_of w)) (j : (m : Module) × (resolve w ≡ Some m) × IsJudged m) → ((m : Module) × (resolve w ≡ Some m) × IsValid m) ⊎ ((rule : Rule) × (token : ℕ) × IsBroken w rule token)
    met_case h j = elim (first_loop j.0.assignments j.0.assignments) [
      | inl f ↦ inl (demands_valid w g h (λ m e. let i : j.0 ≡ m = some_same j.0 m (sym j.1 ∙ e) in subst (λ (x : Module). IsFree x.assignments) i f))
      | inr l ↦ (let n : length l.front < length (assign_tokens (items_token w.ports) w.items) = (let a : length l.front < length (l.front ++ l.looped' ∷ l.back) = within_list l.front l.looped' l.back in let b : length (assign_tokens (items_token w.ports) w.items) ≡ length j.0.assignments = module_tokens w j.0 j.1 in let c : length j.0.assignments ≡ length (l.front ++ l.looped' ∷ l.back) = ap length l.parts in omega arith) in
          inr (
            Loop,
            get_or (assign_tokens (items_token w.ports) w.items) (length l.front) 0,
            inr (refl, record { met = h; meant = j.0; resolved = j.1; front = l.front; looped = l.looped'; back = l.back; parts = l.parts; free = l.free; loops = l.loops; place = slice_get-get_or (assign_tokens (items_token w.ports) w.items) (length l.front) 0 n }),
          ))
    ]
