-- What is declared under a name, and demands that are met.
use Rattle.std.proofs.Common.{◌≡◌, ℕ, zero, suc, ◌+◌, ◌⊎◌, inl, inr, Bool, true, false, List, [], ◌∷◌, ◌++◌, Some, None, refl, sym, ap, ◌∙◌, subst, arith}
use Rattle.std.specs.Prelude.{slice_get}
use Rattle.std.specs.Str.{bytes_eq}
use Rattle.gl_verilog.specs.Module.{Declaration, number_of}
use Rattle.gl_verilog.specs.Resolve.{declared_in, is_so}
use Rattle.gl_verilog_faults.specs.Demands.{Demand, AreMet, is_declared, bits_named}

pub met_join : (a b : List Demand) → AreMet a → AreMet b → AreMet (a ++ b)
met_join [] b h k = k
met_join (d ∷ a) b h k = (h.0, met_join a b h.1 k)

pub met_front : (a b : List Demand) → AreMet (a ++ b) → AreMet a
met_front [] b h = tt
met_front (d ∷ a) b h = (h.0, met_front a b h.1)

pub met_back : (a b : List Demand) → AreMet (a ++ b) → AreMet b
met_back [] b h = h
met_back (d ∷ a) b h = met_back a b h.1

-- what stands under a name
pub record Seen (ds : List Declaration) (name : List ℕ) (n : ℕ) (d : Declaration) : Type 0 where
  pub number : number_of ds name ≡ Some n
  pub at : slice_get ds n ≡ Some d
  pub declared : declared_in ds name ≡ Some d
  pub named : bytes_eq d.name name ≡ true

pub record Unseen (ds : List Declaration) (name : List ℕ) : Type 0 where
  pub number : number_of ds name ≡ None
  pub declared : declared_in ds name ≡ None

abbrev pub Looked : List Declaration → List ℕ → Type 0
Looked ds name = Unseen ds name ⊎ ((n : ℕ) × (d : Declaration) × Seen ds name n d)

look_step : (d : Declaration) (ds : List Declaration) (name : List ℕ) (b : Bool) → bytes_eq d.name name ≡ b → Looked ds name → Looked (d ∷ ds) name
look_step d ds name true e l = inr (0, d, record { number = rw e refl; at = refl; declared = rw e refl; named = e })
look_step d ds name false e (inl h) = inl (record { number = rw (e, h.number) refl; declared = rw (e, h.declared) refl })
look_step d ds name false e (inr h) = inr (suc h.0, h.1, record { number = rw (e, h.2.number) (ap Some (omega arith)); at = h.2.at; declared = rw (e, h.2.declared) refl; named = h.2.named })

pub look : (ds : List Declaration) (name : List ℕ) → Looked ds name
look [] name = inl (record { number = refl; declared = refl })
look (d ∷ ds) name = look_step d ds name (bytes_eq d.name name) refl (look ds name)

pub seen_declared : (ds : List Declaration) (name : List ℕ) → is_declared ds name ≡ true → (n : ℕ) × (d : Declaration) × Seen ds name n d
seen_declared ds name h = elim (look ds name) [ inl u ↦ absurd (let bad : false ≡ true = rw u.declared at h in cc) | inr s ↦ s ]

pub seen_number : (ds : List Declaration) (name : List ℕ) (n : ℕ) → number_of ds name ≡ Some n → (d : Declaration) × Seen ds name n d
seen_number ds name n h = elim (look ds name) [
  | inl u ↦ absurd (let bad : None ≡ Some n = sym u.number ∙ h in cc)
  | inr s ↦ (s.1, (let same : s.0 ≡ n = (let q : Some s.0 ≡ Some n = sym s.2.number ∙ h in cc) in subst (λ (k : ℕ). Seen ds name k s.1) same s.2))
]

pub is_declared_by : (ds : List Declaration) (name : List ℕ) (n : ℕ) (d : Declaration) → Seen ds name n d → is_declared ds name ≡ true
is_declared_by ds name n d s = rw s.declared refl

pub so_by : (test : Declaration → Bool) (ds : List Declaration) (name : List ℕ) (n : ℕ) (d : Declaration) → Seen ds name n d → is_so test ds name ≡ test d
so_by test ds name n d s = rw s.declared refl

pub bits_by : (ds : List Declaration) (name : List ℕ) (n : ℕ) (d : Declaration) → Seen ds name n d → bits_named ds name ≡ d.width
bits_by ds name n d s = rw s.declared refl

-- ---- declarations behind others

abbrev pub Extends : List Declaration → List Declaration → Type 0
Extends ds all = (n : ℕ) (d : Declaration) → slice_get ds n ≡ Some d → slice_get all n ≡ Some d

pub extends_more : (ds more : List Declaration) → Extends ds (ds ++ more)
extends_more [] more n d e = absurd cc
extends_more (x ∷ ds) more zero d e = e
extends_more (x ∷ ds) more (suc n) d e = extends_more ds more n d e
