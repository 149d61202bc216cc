-- How many nodes a netlist has: those of its size, and at most one more for each port.
use Rattle.std.proofs.Common.{◌≡◌, ℕ, zero, suc, ◌+◌, ◌<◌, ◌≤◌, Bool, true, false, List, [], ◌∷◌, length, Option, Some, None, refl, ap, arith, subst, eqb-true}
use Rattle.std.specs.Prelude.{slice_get, nat_le, nat_eq, if◌then◌else◌}
use Rattle.std.specs.List.{count_by}
use Rattle.std.specs.Option.{option_map}
use Rattle.std.proofs.lemmas.List.Sums.{sum_by-cons}
use Rattle.std.proofs.lemmas.Option.{slice_get_within}
use Rattle.gl_bits.proofs.Bools.{else_false}
use Rattle.gl_bits.proofs.Options.{some_same}
use Rattle.gl_net.specs.declared.node.Node.{Node}
use Rattle.gl_net.specs.declared.node.Node.TheVariants.{Input}
use Rattle.gl_net.specs.declared.node.Port.{Port}
use Rattle.gl_net.specs.declared.node.Direction.{Direction}
use Rattle.gl_net.specs.declared.node.Direction.TheVariants.{In}
use Rattle.gl_net.specs.Net.{Net, is_inner, size_of}
use Rattle.gl_net.specs.WellFormed.{IsWellFormed, NodeFits, end_at}

-- the input of the port at this place
abbrev is_at : ℕ → Node → Bool
is_at place (Input at w) = nat_eq at place
is_at place _ = false

-- the input of a port before this place
abbrev is_before : ℕ → Node → Bool
is_before place (Input at w) = nat_le (at + 1) place
is_before place _ = false

-- what a node adds to a count
abbrev one : Bool → ℕ
one b = if b then 1 else 0

counted : (p : Node → Bool) (x : Node) (xs : List Node) → count_by p (x ∷ xs) ≡ one (p x) + count_by p xs
counted p x xs = sum_by-cons (λ y. one (p y)) x xs

-- what no node is counts nothing
none : (p : Node → Bool) (xs : List Node) → ((n : ℕ) (x : Node) → slice_get xs n ≡ Some x → p x ≡ false) → count_by p xs ≡ 0
none p [] h = refl
none p (x ∷ xs) h =
    let rest = none p xs (λ n y. h (suc n) y) in
    let z : one (p x) ≡ 0 = ap one (h zero x refl) in
    let c = counted p x xs in
    omega (arith, c, z, rest)

at-most : (all rest : ℕ) (b : Bool) → all ≡ one b + rest → (b ≡ true → rest ≡ 0) → rest ≤ 1 → all ≤ 1
at-most all rest true e first small = let q = first refl in omega (arith, e, q)
at-most all rest false e first small = omega (arith, e, small)

-- what one node alone is counts at most one
once : (p : Node → Bool) (t m : ℕ) (xs : List Node)
    → ((n : ℕ) (x : Node) → slice_get xs n ≡ Some x → p x ≡ true → m + n ≡ t) → count_by p xs ≤ 1
once p t m [] h = omega arith
once p t m (x ∷ xs) h =
    at-most (count_by p (x ∷ xs)) (count_by p xs) (p x) (counted p x xs)
    (λ e. none p xs (λ n y g. else_false (p y) (λ f.
    let here = h zero x refl e in let there = h (suc n) y g f in omega (arith, here, there))))
    (once p t (suc m) xs (λ n y g f. let there = h (suc n) y g f in omega (arith, there)))

step-one : (k : ℕ) (x : Node) → one (is_before (suc k) x) ≤ one (is_before k x) + one (is_at k x)
step-one k (Input at w) = grind arith
step-one k _ = omega arith

step : (k : ℕ) (xs : List Node) → count_by (is_before (suc k)) xs ≤ count_by (is_before k) xs + count_by (is_at k) xs
step k [] = omega arith
step k (x ∷ xs) =
    let rest = step k xs in
    let first = step-one k x in
    let a = counted (is_before (suc k)) x xs in
    let b = counted (is_before k) x xs in
    let c = counted (is_at k) x xs in
    omega (arith, rest, first, a, b, c)

before-none : (x : Node) → is_before 0 x ≡ false
before-none (Input at w) = grind arith
before-none _ = refl

-- at most one input for each place before this one
before : (k : ℕ) (xs : List Node) → ((place : ℕ) → count_by (is_at place) xs ≤ 1) → count_by (is_before k) xs ≤ k
before zero xs h = let e = none (is_before 0) xs (λ n x g. before-none x) in omega (arith, e)
before (suc k) xs h =
    let rest = before k xs h in
    let s = step k xs in
    let o = h k in
    omega (arith, rest, s, o)

covers-one : (k : ℕ) (x : Node) → ((at w : ℕ) → x ≡ Input at w → at < k) → 1 ≤ one (is_inner x) + one (is_before k x)
covers-one k (Input at w) h = let l = h at w refl in grind (arith, l)
covers-one k _ h = omega arith

-- each node is inner, or the input of a place
covers : (k : ℕ) (xs : List Node) → ((n at w : ℕ) → slice_get xs n ≡ Some (Input at w) → at < k)
    → length xs ≤ count_by is_inner xs + count_by (is_before k) xs
covers k [] h = omega arith
covers k (x ∷ xs) h =
    let rest = covers k xs (λ n at w. h (suc n) at w) in
    let first = covers-one k x (λ at w e. h zero at w (ap Some e)) in
    let a = counted is_inner x xs in
    let b = counted (is_before k) x xs in
    omega (arith, rest, first, a, b)

-- which way a port leads, and its node
abbrev end_of : Port → Direction × ℕ
end_of p = (p.direction, p.node)

-- a port that leads in to this node
abbrev LeadsTo : Option Port → ℕ → Type 0
LeadsTo o n = option_map end_of o ≡ Some (In, n)

-- the node that a port's place says, where there is such a port
node-of : Option Port → ℕ
node-of None = 0
node-of (Some p) = p.node

port-node : (o : Option Port) (n : ℕ) → LeadsTo o n → node-of o ≡ n
unfolding node-of
port-node None n e = absurd (cc)
port-node (Some p) n e = ap (λ (q : Direction × ℕ). q.1) (some_same (end_of p) (In, n) e)

ends : (net : Net) (n place w : ℕ) → IsWellFormed net → slice_get net.nodes n ≡ Some (Input place w)
    → LeadsTo (slice_get net.ports place) n
unfolding end_at
ends net n place w f e = let fits : NodeFits net n (Input place w) = f.nodes n (Input place w) e in fits.1

there : (ports : List Port) (n place : ℕ) (o : Option Port) → slice_get ports place ≡ o → LeadsTo o n → place < length ports
there ports n place None g h = absurd (cc)
there ports n place (Some p) g h = slice_get_within ports place p g

port-there : (net : Net) (n place w : ℕ) → IsWellFormed net → slice_get net.nodes n ≡ Some (Input place w) → place < length net.ports
port-there net n place w f e = there net.ports n place (slice_get net.ports place) refl (ends net n place w f e)

is-its-port : (net : Net) (n place : ℕ) (x : Node) → IsWellFormed net → slice_get net.nodes n ≡ Some x → is_at place x ≡ true
    → 0 + n ≡ node-of (slice_get net.ports place)
is-its-port net n place (Input at w) f e h =
    let q : at ≡ place = eqb-true at place h in
    let r = ends net n at w f e in
    let s = port-node (slice_get net.ports place) n (subst (λ k. LeadsTo (slice_get net.ports k) n) q r) in
    omega (arith, s)
is-its-port net n place _ f e h = absurd (cc)

-- the nodes of a netlist are at most those of its size, and one for each port
pub nodes_few : (net : Net) → IsWellFormed net → length net.nodes ≤ size_of net + length net.ports
unfolding size_of
nodes_few net f =
    let k = length net.ports in
    let c = covers k net.nodes (λ n at w e. port-there net n at w f e) in
    let b = before k net.nodes (λ place. once (is_at place) (node-of (slice_get net.ports place)) 0 net.nodes
    (λ n x e h. is-its-port net n place x f e h)) in
    omega (arith, c, b)
