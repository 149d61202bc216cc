-- A node of two nodes, of which the second was placed behind the first.
use Rattle.std.proofs.Common.{◌≡◌, ◌≢◌, ℕ, ◌<◌, ◌≤◌, Bool, true, false, ◌&&◌, List, [], ◌∷◌, ◌++◌, length, slice_index, refl, sym, ap, subst, ◌∙◌, arith, All}
use Rattle.std.specs.List.{AllByRecursion}
use Rattle.std.specs.Prelude.{not}
use Rattle.std.proofs.lemmas.List.Elements.{All-cons, All-nil, All-from_recursion}
use Rattle.gl_values.specs.Lists.{IsInterleaving, groups, has_further}
use Rattle.gl_values.specs.Partitions.{parts}
use Rattle.gl_values.specs.Results.{Row, IsOfBoth, AreBeside, IsOfParts, IsOfGroup}
use Rattle.gl_query.specs.declared.tree.Measure.{Measure}
use Rattle.gl_query.specs.declared.tree.Measure.TheVariants.{Tuples, Time}
use Rattle.gl_query.specs.Accepted.{IsWindow}
use Rattle.gl_query.specs.Windows.{is_time, parts_of}
use Rattle.gl_bits.proofs.Bools.{and_both}
use Rattle.gl_algebra.specs.declared.node.PlanNode.{PlanNode}
use Rattle.gl_algebra.specs.declared.node.PlanNode.TheVariants as node
use Rattle.gl_algebra.specs.Columns.{kind_of_column}
use Rattle.gl_algebra.specs.Fits.{IsPlan, IsBodyFor, IsOverStream}
use Rattle.gl_algebra.specs.Views.{copies_of_partition}
use Rattle.gl_algebra.specs.Shapes.{Shape, unsteady, shape_from, shape_of}
use Rattle.gl_algebra.specs.Added.{Placed, added}
use Rattle.gl_arrival.specs.Places as arrival
use Rattle.gl_arrival.specs.Results.{IsByArrival, IsWithoutPlaces}
use Rattle.gl_algebra.specs.Results.{Inputs, Meaning, given, times_with, IsPlanArrival, IsPlanResult, arriving_from, meaning_from}
use Rattle.gl_algebra.proofs.PlanLemmas.{in_order}
use Rattle.gl_algebra.proofs.ResultLemmas.{arriving-kept, meaning-kept, moved, moved_in_place}
use Rattle.gl_algebra.proofs.ShapeLemmas.{shape-kept}
use Rattle.gl_elaborate.specs.Fitting.{FitsNext}
use Rattle.gl_elaborate.specs.Plans.{window_node}
use Rattle.gl_elaborate.proofs.PlacedLemmas.{IsOver, over-then, is_added}
use Rattle.gl_elaborate.proofs.StandsLemmas.{Stands}

-- a node that stands still stands where more nodes were added
pub record IsStill (nodes : List PlanNode) (root : ℕ) (shape : Shape) (Means : Meaning) : Type 0 where
  pub within : root < length nodes
  pub is : shape_of nodes root ≡ shape
  pub means : (inputs : Inputs) (out : List Row) (spill : Bool) → IsPlanResult nodes root inputs out spill → Means inputs out spill

still : (old : List PlanNode) (l r : Placed) (shape : Shape) (M : Meaning) → Stands old l shape M → IsOver l.nodes r → IsStill r.nodes l.root shape M
still old l r shape M s over =
    let order = in_order l.nodes s.over.plan (length l.nodes) in
    record {
      within = omega (arith, s.over.within, over.longer);
      is = sym (shape-kept l.nodes r.nodes (length l.nodes) order over.kept l.root s.over.within) ∙ s.is;
      means = λ inputs out spill result. s.means inputs out spill
          (moved (IsPlanResult r.nodes l.root) (IsPlanResult l.nodes l.root)
          (sym (meaning-kept l.nodes r.nodes (length l.nodes) order over.kept l.root s.over.within)) inputs out spill result);
    }

here : (old : List PlanNode) (r : Placed) (shape : Shape) (M : Meaning) → Stands old r shape M → IsStill r.nodes r.root shape M
here old r shape M s = record { within = s.over.within; is = s.is; means = s.means }

-- a node behind a plan
pub record IsBehind (nodes : List PlanNode) (n : PlanNode) : Type 1 where
  pub over : IsOver nodes (added nodes n)
  pub shape : shape_of (added nodes n).nodes (added nodes n).root ≡ shape_from (shape_of nodes) n
  pub result : (inputs : Inputs) (out : List Row) (spill : Bool) → IsPlanResult (added nodes n).nodes (added nodes n).root inputs out spill
      → meaning_from (shape_of nodes) (IsPlanArrival nodes) (IsPlanResult nodes) n inputs out spill
  pub comes : (inputs : Inputs) (out : List (arrival.Placed Row)) (spill : Bool) → IsPlanArrival (added nodes n).nodes (added nodes n).root inputs out spill
      → arriving_from (shape_of nodes) (IsPlanArrival nodes) n inputs out spill

pub behind : (nodes : List PlanNode) (n : PlanNode) → IsPlan nodes → FitsNext nodes n → IsBehind nodes n
behind nodes n plan fits =
    let new = is_added nodes n plan fits in
    record {
      over = new.over;
      shape = new.shape;
      result = moved (IsPlanResult (added nodes n).nodes (added nodes n).root) (meaning_from (shape_of nodes) (IsPlanArrival nodes) (IsPlanResult nodes) n) new.means;
      comes = moved_in_place (IsPlanArrival (added nodes n).nodes (added nodes n).root) (arriving_from (shape_of nodes) (IsPlanArrival nodes) n) new.arrives;
    }

two-before : (nodes : List PlanNode) (a b : ℕ) → a < length nodes → b < length nodes → All (λ child. child < length nodes) (a ∷ b ∷ [])
two-before nodes a b h k =
    All-cons (λ child. child < length nodes) a (b ∷ []) h (All-cons (λ child. child < length nodes) b [] k (All-nil (λ child. child < length nodes)))

-- ---- nodes of two nodes

module _ (old : List PlanNode) (l r : Placed) (sl sr : Shape) (ML MR : Meaning) (a : Stands old l sl ML) (b : Stands l.nodes r sr MR) where
  pub left_still : IsStill r.nodes l.root sl ML
  left_still = still old l r sl ML a b.over

  right_still : IsStill r.nodes r.root sr MR
  right_still = here l.nodes r sr MR b

  -- the results with places of the left node are what they were
  pub left-comes : (inputs : Inputs) (out : List (arrival.Placed Row)) (spill : Bool) → IsPlanArrival r.nodes l.root inputs out spill → IsPlanArrival l.nodes l.root inputs out spill
  left-comes =
      moved_in_place (IsPlanArrival r.nodes l.root) (IsPlanArrival l.nodes l.root)
      (sym (arriving-kept l.nodes r.nodes (length l.nodes) (in_order l.nodes a.over.plan (length l.nodes)) b.over.kept l.root a.over.within))

  -- what a node of both has, where it fits
  pub record IsOfTwo (n : PlanNode) (shape : Shape) (Means : (ℕ → Meaning) → Meaning) : Type 0 where
    pub fits : FitsNext r.nodes n
    pub stands : Stands old (added r.nodes n) shape (Means (IsPlanResult r.nodes))

  of_two : (n : PlanNode) (row : Shape → Shape → Shape) (Means : (ℕ → Meaning) → Meaning) → FitsNext r.nodes n
      → ((x : ℕ → Shape) → shape_from x n ≡ row (x l.root) (x r.root))
      → ((m : ℕ → Meaning) (inputs : Inputs) (out : List Row) (spill : Bool) → meaning_from (shape_of r.nodes) (IsPlanArrival r.nodes) m n inputs out spill → Means m inputs out spill)
      → IsOfTwo n (row sl sr) Means
  of_two n row Means fits local means =
      let new = behind r.nodes n b.over.plan fits in
      record {
        fits = fits;
        stands = record {
          over = over-then old r (added r.nodes n) (over-then old l r a.over b.over) new.over;
          is = new.shape ∙ local (shape_of r.nodes) ∙ (λ i. row (left_still.is i) (right_still.is i));
          means = λ inputs out spill result. means (IsPlanResult r.nodes) inputs out spill (new.result inputs out spill result);
        };
      }

  pub union-stands : sl.kinds ≡ sr.kinds
      → IsOfTwo (node.Union l.root r.root) (record { kinds = sl.kinds; closing = sl.closing && sr.closing; pace = unsteady; arrives = false; leaves = sl.leaves ++ sr.leaves })
      (λ m inputs. IsOfBoth (m l.root inputs) (m r.root inputs) IsInterleaving)
  union-stands same =
      of_two (node.Union l.root r.root) (λ x y. record { kinds = x.kinds; closing = x.closing && y.closing; pace = unsteady; arrives = false; leaves = x.leaves ++ y.leaves })
      (λ m inputs. IsOfBoth (m l.root inputs) (m r.root inputs) IsInterleaving)
      (record {
        before = two-before r.nodes l.root r.root left_still.within right_still.within;
        suits = ap (λ (x : Shape). x.kinds) left_still.is ∙ same ∙ sym (ap (λ (x : Shape). x.kinds) right_still.is);
        timed = tt;
      })
      (λ x. refl) (λ m inputs out spill result. result)

  pub merge-stands : sl.kinds ≡ sr.kinds → sl.arrives ≡ true → sr.arrives ≡ true
      → IsOfTwo (node.Merge l.root r.root) (record { kinds = sl.kinds; closing = false; pace = unsteady; arrives = true; leaves = sl.leaves ++ sr.leaves })
      (λ m inputs. IsWithoutPlaces (IsByArrival (IsPlanArrival r.nodes l.root inputs) (IsPlanArrival r.nodes r.root inputs)))
  merge-stands same first second =
      of_two (node.Merge l.root r.root) (λ x y. record { kinds = x.kinds; closing = false; pace = unsteady; arrives = true; leaves = x.leaves ++ y.leaves })
      (λ m inputs. IsWithoutPlaces (IsByArrival (IsPlanArrival r.nodes l.root inputs) (IsPlanArrival r.nodes r.root inputs)))
      (record {
        before = two-before r.nodes l.root r.root left_still.within right_still.within;
        suits = (
          ap (λ (x : Shape). x.kinds) left_still.is ∙ same ∙ sym (ap (λ (x : Shape). x.kinds) right_still.is),
          and_both (shape_of r.nodes l.root).arrives (shape_of r.nodes r.root).arrives
              (ap (λ (x : Shape). x.arrives) left_still.is ∙ first) (ap (λ (x : Shape). x.arrives) right_still.is ∙ second),
        );
        timed = tt;
      })
      (λ x. refl) (λ m inputs out spill result. result)

  pub beside-stands : sl.pace ≡ sr.pace → sl.pace ≢ unsteady
      → IsOfTwo (node.Beside l.root r.root) (record { kinds = sl.kinds ++ sr.kinds; closing = sl.closing && sr.closing; pace = sl.pace; arrives = false; leaves = sl.leaves ++ sr.leaves })
      (λ m inputs. IsOfBoth (m l.root inputs) (m r.root inputs) AreBeside)
  beside-stands same steady =
      of_two (node.Beside l.root r.root) (λ x y. record { kinds = x.kinds ++ y.kinds; closing = x.closing && y.closing; pace = x.pace; arrives = false; leaves = x.leaves ++ y.leaves })
      (λ m inputs. IsOfBoth (m l.root inputs) (m r.root inputs) AreBeside)
      (record {
        before = two-before r.nodes l.root r.root left_still.within right_still.within;
        suits = (
          ap (λ (x : Shape). x.pace) left_still.is ∙ same ∙ sym (ap (λ (x : Shape). x.pace) right_still.is),
          λ e. steady (sym (ap (λ (x : Shape). x.pace) left_still.is) ∙ e),
        );
        timed = tt;
      })
      (λ x. refl) (λ m inputs out spill result. result)

  body-for : sr.closing ≡ true → AllByRecursion (λ leaf. leaf ≡ node.Body sl.kinds) sr.leaves → IsBodyFor (shape_of r.nodes l.root) (shape_of r.nodes r.root)
  body-for closing leaves = record {
    closing = ap (λ (x : Shape). x.closing) right_still.is ∙ closing;
    leaves =
        subst (λ (x : Shape). All (λ leaf. leaf ≡ node.Body x.kinds) (shape_of r.nodes r.root).leaves) (sym left_still.is)
        (subst (λ (x : Shape). All (λ leaf. leaf ≡ node.Body sl.kinds) x.leaves) (sym right_still.is)
        (All-from_recursion (λ leaf. leaf ≡ node.Body sl.kinds) sr.leaves leaves));
  }

  window-row : (measure : Measure) (size advance : ℕ) (x : ℕ → Shape) → shape_from x (window_node measure l.root r.root size advance)
      ≡ record (x l.root) { kinds = (x r.root).kinds; closing = not (is_time measure) && (x l.root).closing; pace = unsteady; arrives = false }
  window-row Tuples size advance x = refl
  window-row Time size advance x = refl

  window-means : (measure : Measure) (size advance : ℕ) (m : ℕ → Meaning) (inputs : Inputs) (out : List Row) (spill : Bool)
      → meaning_from (shape_of r.nodes) (IsPlanArrival r.nodes) m (window_node measure l.root r.root size advance) inputs out spill
      → IsOfParts (m l.root inputs) (parts_of measure size advance (times_with sl.pace inputs) inputs.ticks) (λ slice. m r.root (given inputs slice)) (λ rows. false) out spill
  window-means Tuples size advance m inputs out spill result = result
  window-means Time size advance m inputs out spill result =
      subst (λ (x : Shape). IsOfParts (m l.root inputs) (parts_of Time size advance (times_with x.pace inputs) inputs.ticks) (λ slice. m r.root (given inputs slice)) (λ rows. false) out spill)
      left_still.is result

  window-fits : (measure : Measure) (size advance : ℕ) → IsWindow measure size advance → IsOverStream r.nodes (window_node measure l.root r.root size advance)
      → IsBodyFor (shape_of r.nodes l.root) (shape_of r.nodes r.root) → FitsNext r.nodes (window_node measure l.root r.root size advance)
  window-fits Tuples size advance is timed body = record {
    before = two-before r.nodes l.root r.root left_still.within right_still.within;
    suits = (body, record { least = is.some_size; most = is.most_size }, record { least = is.some_advance; most = is.most_advance }, is.copies);
    timed = timed;
  }
  window-fits Time size advance is timed body = record {
    before = two-before r.nodes l.root r.root left_still.within right_still.within;
    suits = (body, record { least = is.some_size; most = is.most_size }, record { least = is.some_advance; most = is.most_advance }, is.copies);
    timed = timed;
  }

  pub window-stands : (measure : Measure) (size advance : ℕ) → IsWindow measure size advance → IsOverStream r.nodes (window_node measure l.root r.root size advance)
      → sr.closing ≡ true → AllByRecursion (λ leaf. leaf ≡ node.Body sl.kinds) sr.leaves
      → IsOfTwo (window_node measure l.root r.root size advance) (record sl { kinds = sr.kinds; closing = not (is_time measure) && sl.closing; pace = unsteady; arrives = false })
      (λ m inputs. IsOfParts (m l.root inputs) (parts_of measure size advance (times_with sl.pace inputs) inputs.ticks) (λ slice. m r.root (given inputs slice)) (λ rows. false))
  window-stands measure size advance is timed closing leaves =
      of_two (window_node measure l.root r.root size advance) (λ x y. record x { kinds = y.kinds; closing = not (is_time measure) && x.closing; pace = unsteady; arrives = false })
      (λ m inputs. IsOfParts (m l.root inputs) (parts_of measure size advance (times_with sl.pace inputs) inputs.ticks) (λ slice. m r.root (given inputs slice)) (λ rows. false))
      (window-fits measure size advance is timed (body-for closing leaves)) (window-row measure size advance) (window-means measure size advance)

  pub group-stands : (key count : ℕ) → key < length sl.kinds → 1 ≤ count → count ≤ 256 → sr.closing ≡ true → AllByRecursion (λ leaf. leaf ≡ node.Body sl.kinds) sr.leaves
      → IsOfTwo (node.Group l.root r.root key count) (record sl { kinds = kind_of_column sl.kinds key ∷ sr.kinds; closing = true; pace = unsteady; arrives = false })
      (λ m inputs. IsOfParts (m l.root inputs) (groups count (λ row. slice_index row key)) (IsOfGroup (λ rows. m r.root (given inputs rows)))
      (has_further count (λ row. slice_index row key)))
  group-stands key count known some most closing leaves =
      of_two (node.Group l.root r.root key count) (λ x y. record x { kinds = kind_of_column x.kinds key ∷ y.kinds; closing = true; pace = unsteady; arrives = false })
      (λ m inputs. IsOfParts (m l.root inputs) (groups count (λ row. slice_index row key)) (IsOfGroup (λ rows. m r.root (given inputs rows)))
      (has_further count (λ row. slice_index row key)))
      (record {
        before = two-before r.nodes l.root r.root left_still.within right_still.within;
        suits = (body-for closing leaves, subst (λ (x : Shape). key < length x.kinds) (sym left_still.is) known, record { least = some; most = most });
        timed = tt;
      })
      (λ x. refl) (λ m inputs out spill result. result)

  pub partition-stands : (key count size advance : ℕ) → key < length sl.kinds → 1 ≤ count → count ≤ 256 → IsWindow Tuples size advance → copies_of_partition count size advance ≤ 256 → sr.closing ≡ true → AllByRecursion (λ leaf. leaf ≡ node.Body sl.kinds) sr.leaves
      → IsOfTwo (node.Partition l.root r.root key count size advance) (record sl { kinds = kind_of_column sl.kinds key ∷ sr.kinds; pace = unsteady; arrives = false })
      (λ m inputs. IsOfParts (m l.root inputs) (parts count (λ row. slice_index row key) size advance) (IsOfGroup (λ rows. m r.root (given inputs rows)))
      (has_further count (λ row. slice_index row key)))
  partition-stands key count size advance known some most is all closing leaves =
      of_two (node.Partition l.root r.root key count size advance) (λ x y. record x { kinds = kind_of_column x.kinds key ∷ y.kinds; pace = unsteady; arrives = false })
      (λ m inputs. IsOfParts (m l.root inputs) (parts count (λ row. slice_index row key) size advance) (IsOfGroup (λ rows. m r.root (given inputs rows)))
      (has_further count (λ row. slice_index row key)))
      (record {
        before = two-before r.nodes l.root r.root left_still.within right_still.within;
        suits = (
          body-for closing leaves,
          subst (λ (x : Shape). key < length x.kinds) (sym left_still.is) known,
          record { least = some; most = most },
          record { least = is.some_size; most = is.most_size },
          record { least = is.some_advance; most = is.most_advance },
          is.copies,
          all,
        );
        timed = tt;
      })
      (λ x. refl) (λ m inputs out spill result. result)
