-- What statements assign and write: it fits, and it is the same where the nets and the words are.
use Rattle.std.proofs.Common.{◌≡◌, ℕ, ◌^◌, ◌<◌, Bool, true, false, List, [], ◌∷◌, Option, Some, None, refl, sym, ◌∙◌, ap, subst, unwrap_or, nat_eq, cond, inl, inr}
use Rattle.std.specs.Prelude.{slice_get, IsTrue}
use Rattle.std.specs.List.{AllByRecursion}
use Rattle.std.proofs.lemmas.Bool.Decides.{eqb_tells}
use Rattle.gl_verilog.specs.Module.{Declaration, Nets, Memories, Expr, Net, Literal, Invert, Binary, Choose, Join, Select, Read, Statement, Nothing, Put, Write, Both, If, value_of, later_or, taken, assigned, written, assigned_by, written_by}
use Rattle.gl_bits.specs.Words.{not_of, cut_of}
use Rattle.gl_verilog.specs.Run.{Fit, IsRegister}
use Rattle.gl_verilog.specs.Widths.{IsReadable, IsMemory, width_of, KeepsWidths, KeepsWidthsIn, words_in}
use Rattle.gl_verilog.specs.Order.{EachRead}
use Rattle.gl_verilog.specs.Runnable.{SameNets}
use Rattle.gl_verilog.proofs.Fits.{found_in, value_fits, memory_words}
use Rattle.gl_verilog.proofs.Stores.{same_item}

-- ---- what is assigned and written fits

-- nothing, or a number that fits
abbrev pub FitsIn : ℕ → Option ℕ → Type 0
FitsIn width None = Unit {0}
FitsIn width (Some x) = x < 2 ^ width

pub later_or-none : (o : Option ℕ) → later_or o None ≡ o
later_or-none None = refl
later_or-none (Some x) = refl

-- a choice between nothing and nothing
pub none_either : (b : Bool) → cond {A = Option ℕ} b None None ≡ None
none_either true = refl
none_either false = refl

fits_later : (w : ℕ) (a b : Option ℕ) → FitsIn w a → FitsIn w b → FitsIn w (later_or b a)
fits_later w a None p q = p
fits_later w a (Some x) p q = q

fits_taken : (w : ℕ) (test : ℕ) (a b : Option ℕ) → FitsIn w a → FitsIn w b → FitsIn w (taken test a b)
fits_taken w test a b p q = pick (nat_eq test 1)
  where
    pick : (t : Bool) → FitsIn w (cond t a b)
    pick true = p
    pick false = q

pub unwrap_fits : (w : ℕ) (o : Option ℕ) (x : ℕ) → FitsIn w o → x < 2 ^ w → unwrap_or o x < 2 ^ w
unwrap_fits w None x p q = q
unwrap_fits w (Some y) x p q = p

pub assigned_fits : (ds : List Declaration) (v : Nets) (m : Memories) (s : Statement) (r : ℕ) (d : Declaration) → Fit ds v m → KeepsWidthsIn ds s → slice_get ds r ≡ Some d → FitsIn d.width (assigned v m s r)
assigned_fits ds v m Nothing r d f h e = tt
assigned_fits ds v m (Put register value) r d f h e =
    let c = found_in (slice_get ds register) (λ d. IsRegister d.kind × (width_of ds value ≡ d.width)) h.0 in
    elim (eqb_tells register r) [
      | inl same ↦
          let is : c.item ≡ d = same_item ds r c.item d (subst (λ i. slice_get ds i ≡ Some c.item) same.1 c.is) e in
          let w : width_of ds value ≡ d.width = c.fact.1 ∙ ap (λ (x : Declaration). x.width) is in
          rw same.0 (subst (λ n. value_of v m value < 2 ^ n) w (value_fits ds v m value f h.1))
      | inr other ↦ rw other.0 tt
    ]
assigned_fits ds v m (Write memory address value) r d f h e = tt
assigned_fits ds v m (Both first second) r d f h e = fits_later d.width (assigned v m first r) (assigned v m second r) (assigned_fits ds v m first r d f h.0 e) (assigned_fits ds v m second r d f h.1 e)
assigned_fits ds v m (If test yes' no') r d f h e = fits_taken d.width (value_of v m test) (assigned v m yes' r) (assigned v m no' r) (assigned_fits ds v m yes' r d f h.2 e) (assigned_fits ds v m no' r d f h.3 e)

pub written_fits : (ds : List Declaration) (v : Nets) (m : Memories) (s : Statement) (k at : ℕ) (d : Declaration) → Fit ds v m → KeepsWidthsIn ds s → slice_get ds k ≡ Some d → FitsIn d.width (written v m s k at)
written_fits ds v m Nothing k at d f h e = tt
written_fits ds v m (Put register value) k at d f h e = tt
written_fits ds v m (Write memory address value) k at d f h e =
    let c = found_in (slice_get ds memory) (λ d. IsMemory d.kind (width_of ds address) × (width_of ds value ≡ d.width)) h.0 in
    elim (eqb_tells memory k) [
      | inl same ↦
          let is : c.item ≡ d = same_item ds k c.item d (subst (λ i. slice_get ds i ≡ Some c.item) same.1 c.is) e in
          let w : width_of ds value ≡ d.width = c.fact.1 ∙ ap (λ (x : Declaration). x.width) is in
          let fits : value_of v m value < 2 ^ d.width = subst (λ n. value_of v m value < 2 ^ n) w (value_fits ds v m value f h.2) in
          elim (eqb_tells (value_of v m address) at) [
            | inl here ↦ rw (same.0, here.0) fits
            | inr there ↦ rw (same.0, there.0) tt
          ]
      | inr other ↦ rw other.0 tt
    ]
written_fits ds v m (Both first second) k at d f h e = fits_later d.width (written v m first k at) (written v m second k at) (written_fits ds v m first k at d f h.0 e) (written_fits ds v m second k at d f h.1 e)
written_fits ds v m (If test yes' no') k at d f h e = fits_taken d.width (value_of v m test) (written v m yes' k at) (written v m no' k at) (written_fits ds v m yes' k at d f h.2 e) (written_fits ds v m no' k at d f h.3 e)

-- ---- the same nets and words give the same values

-- every word in range is the same
abbrev pub SameWords : List Declaration → Memories → Memories → Type 0
SameWords ds m m' = (k : ℕ) (d : Declaration) (at : ℕ) → slice_get ds k ≡ Some d → at < words_in d.kind → m k at ≡ m' k at

pub value_of-same : (ds : List Declaration) (v v' : Nets) (m m' : Memories) (e : Expr) → Fit ds v m → SameWords ds m m' → KeepsWidths ds e → EachRead (λ n. v n ≡ v' n) e → value_of v m e ≡ value_of v' m' e
value_of-same ds v v' m m' (Net n) f w h r = r
value_of-same ds v v' m m' (Literal value width) f w h r = refl
value_of-same ds v v' m m' (Invert width arg) f w h r = ap (not_of width) (value_of-same ds v v' m m' arg f w h.1 r)
value_of-same ds v v' m m' (Binary op width left right) f w h r = rw (value_of-same ds v v' m m' left f w h.2 r.0, value_of-same ds v v' m m' right f w h.3 r.1) refl
value_of-same ds v v' m m' (Choose test yes' no') f w h r = rw (value_of-same ds v v' m m' test f w h.2 r.0, value_of-same ds v v' m m' yes' f w h.3 r.1, value_of-same ds v v' m m' no' f w h.4 r.2) refl
value_of-same ds v v' m m' (Join low_width high low) f w h r = rw (value_of-same ds v v' m m' high f w h.2 r.0, value_of-same ds v v' m m' low f w h.3 r.1) refl
value_of-same ds v v' m m' (Select high low n) f w h r = ap (cut_of high low) r
value_of-same ds v v' m m' (Read memory address) f w h r =
    let d = found_in (slice_get ds memory) (λ d. IsMemory d.kind (width_of ds address)) h.0 in
    let within : value_of v m address < words_in d.item.kind = subst (λ n. value_of v m address < n) (sym (memory_words d.item.kind (width_of ds address) d.fact)) (value_fits ds v m address f h.1) in
    w memory d.item (value_of v m address) d.is within ∙ ap (m' memory) (value_of-same ds v v' m m' address f w h.1 r)

-- the nets that an expression reads are the same where all are
pub reads_same : (ds : List Declaration) (v v' : Nets) (e : Expr) → SameNets ds v v' → KeepsWidths ds e → EachRead (λ n. v n ≡ v' n) e
reads_same ds v v' (Net n) s h = let d = found_in (slice_get ds n) IsReadable h in s n d.item d.is d.fact
reads_same ds v v' (Literal value width) s h = tt
reads_same ds v v' (Invert width arg) s h = reads_same ds v v' arg s h.1
reads_same ds v v' (Binary op width left right) s h = (reads_same ds v v' left s h.2, reads_same ds v v' right s h.3)
reads_same ds v v' (Choose test yes' no') s h = (reads_same ds v v' test s h.2, reads_same ds v v' yes' s h.3, reads_same ds v v' no' s h.4)
reads_same ds v v' (Join low_width high low) s h = (reads_same ds v v' high s h.2, reads_same ds v v' low s h.3)
reads_same ds v v' (Select high low n) s h = let d = found_in (slice_get ds n) (λ d. IsReadable d × IsTrue d.is_vector × (high < d.width)) h.0 in s n d.item d.is d.fact.0
reads_same ds v v' (Read memory address) s h = reads_same ds v v' address s h.1

-- two settled cycles with the same nets and words
pub record Alike (ds : List Declaration) (v v' : Nets) (m m' : Memories) : Type 0 where
  pub fits : Fit ds v m
  pub nets : SameNets ds v v'
  pub words : SameWords ds m m'

pub value-alike : (ds : List Declaration) (v v' : Nets) (m m' : Memories) (e : Expr) → Alike ds v v' m m' → KeepsWidths ds e → value_of v m e ≡ value_of v' m' e
value-alike ds v v' m m' e a h = value_of-same ds v v' m m' e a.fits a.words h (reads_same ds v v' e a.nets h)

pub assigned-alike : (ds : List Declaration) (v v' : Nets) (m m' : Memories) (s : Statement) (r : ℕ) → Alike ds v v' m m' → KeepsWidthsIn ds s → assigned v m s r ≡ assigned v' m' s r
assigned-alike ds v v' m m' Nothing r a h = refl
assigned-alike ds v v' m m' (Put register value) r a h = rw (value-alike ds v v' m m' value a h.1) refl
assigned-alike ds v v' m m' (Write memory address value) r a h = refl
assigned-alike ds v v' m m' (Both first second) r a h = rw (assigned-alike ds v v' m m' first r a h.0, assigned-alike ds v v' m m' second r a h.1) refl
assigned-alike ds v v' m m' (If test yes' no') r a h = rw (value-alike ds v v' m m' test a h.1, assigned-alike ds v v' m m' yes' r a h.2, assigned-alike ds v v' m m' no' r a h.3) refl

pub written-alike : (ds : List Declaration) (v v' : Nets) (m m' : Memories) (s : Statement) (k at : ℕ) → Alike ds v v' m m' → KeepsWidthsIn ds s → written v m s k at ≡ written v' m' s k at
written-alike ds v v' m m' Nothing k at a h = refl
written-alike ds v v' m m' (Put register value) k at a h = refl
written-alike ds v v' m m' (Write memory address value) k at a h = rw (value-alike ds v v' m m' address a h.1, value-alike ds v v' m m' value a h.2) refl
written-alike ds v v' m m' (Both first second) k at a h = rw (written-alike ds v v' m m' first k at a h.0, written-alike ds v v' m m' second k at a h.1) refl
written-alike ds v v' m m' (If test yes' no') k at a h = rw (value-alike ds v v' m m' test a h.1, written-alike ds v v' m m' yes' k at a h.2, written-alike ds v v' m m' no' k at a h.3) refl

pub assigned_by-alike : (ds : List Declaration) (v v' : Nets) (m m' : Memories) (bs : List Statement) (r : ℕ) → Alike ds v v' m m' → AllByRecursion (KeepsWidthsIn ds) bs → assigned_by v m bs r ≡ assigned_by v' m' bs r
assigned_by-alike ds v v' m m' [] r a h = refl
assigned_by-alike ds v v' m m' (b ∷ bs) r a h = rw (assigned_by-alike ds v v' m m' bs r a h.1, assigned-alike ds v v' m m' b r a h.0) refl

pub written_by-alike : (ds : List Declaration) (v v' : Nets) (m m' : Memories) (bs : List Statement) (k at : ℕ) → Alike ds v v' m m' → AllByRecursion (KeepsWidthsIn ds) bs → written_by v m bs k at ≡ written_by v' m' bs k at
written_by-alike ds v v' m m' [] k at a h = refl
written_by-alike ds v v' m m' (b ∷ bs) k at a h = rw (written_by-alike ds v v' m m' bs k at a h.1, written-alike ds v v' m m' b k at a h.0) refl

pub assigned_by_fits : (ds : List Declaration) (v : Nets) (m : Memories) (bs : List Statement) (r : ℕ) (d : Declaration) → Fit ds v m → AllByRecursion (KeepsWidthsIn ds) bs → slice_get ds r ≡ Some d → FitsIn d.width (assigned_by v m bs r)
assigned_by_fits ds v m [] r d f h e = tt
assigned_by_fits ds v m (b ∷ bs) r d f h e = fits_later d.width (assigned v m b r) (assigned_by v m bs r) (assigned_fits ds v m b r d f h.0 e) (assigned_by_fits ds v m bs r d f h.1 e)

pub written_by_fits : (ds : List Declaration) (v : Nets) (m : Memories) (bs : List Statement) (k at : ℕ) (d : Declaration) → Fit ds v m → AllByRecursion (KeepsWidthsIn ds) bs → slice_get ds k ≡ Some d → FitsIn d.width (written_by v m bs k at)
written_by_fits ds v m [] k at d f h e = tt
written_by_fits ds v m (b ∷ bs) k at d f h e = fits_later d.width (written v m b k at) (written_by v m bs k at) (written_fits ds v m b k at d f h.0 e) (written_by_fits ds v m bs k at d f h.1 e)
