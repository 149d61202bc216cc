-- Marks, from the top node down.
use Rattle.std.proofs.Common.{◌≡◌, ℕ, zero, suc, ◌-◌, ◌<◌, ◌⊎◌, inl, inr, Bool, true, false, List, [], ◌∷◌, length, get_or, replicate, Some, slice_get, All, refl, sym, ap, ◌∙◌, subst, arith}
use Rattle.std.specs.Prelude.{nat_eq, slice_set}
use Rattle.std.specs.List.{AllByRecursion, list_any, position_or_len}
use Rattle.std.proofs.lemmas.Bool.{cases_lt, eqb-true, eq-eqb, eqb-false}
use Rattle.std.proofs.lemmas.List.{get_or-set_same, get_or-set_other, length-set, length-replicate}
use Rattle.std.proofs.lemmas.List.Elements.{All-head, All-tail, All-from_recursion, recursion_from_All}
use Rattle.std.proofs.lemmas.Option.{slice_get_within}
use Rattle.gl_bits.proofs.AllLists.{get_there}
use Rattle.gl_bits.proofs.Bools.{by_cases, or_cases, or_left, or_right, same_when}
use Rattle.gl_algebra.specs.declared.node.PlanNode.{PlanNode}
use Rattle.gl_algebra.proofs.ListLemmas.{any_at, first_passes}
use Rattle.gl_algebra.specs.Fits.{IsPlan}
use Rattle.gl_algebra.specs.Views.{children_of}
use Rattle.gl_algebra.proofs.PlanLemmas.{in_order}
use Rattle.gl_algebra.proofs.NodewiseLemmas.{AreInOrder}
use Rattle.gl_figures.specs.Marks.{with_marks, AreMarks, AreMarkedTo}
use Rattle.gl_figures.specs.Reach.{lies_below, reaches, reached}
use Rattle.gl_figures.proofs.ReachLemmas.{below-node, children_all}

-- one of some numbers, if a test says so
pub any_of : (test : ℕ → Bool) (xs : List ℕ) → list_any test xs ≡ true
    → (x : ℕ) × (list_any (λ y. nat_eq y x) xs ≡ true) × (test x ≡ true)
any_of test xs h =
    let first = first_passes test xs h in
    (first.0, any_at (λ y. nat_eq y first.0) xs (position_or_len test xs) first.0 first.1 (eq-eqb first.0 first.0 refl), first.2)

pub any_with : (test : ℕ → Bool) (xs : List ℕ) (x : ℕ) → list_any (λ y. nat_eq y x) xs ≡ true → test x ≡ true → list_any test xs ≡ true
any_with test [] x is h = absurd cc
any_with test (y ∷ ys) x is h =
    elim (or_cases (nat_eq y x) (list_any (λ z. nat_eq z x) ys) is) [
      | inl e ↦ or_left (test y) (list_any test ys) (ap test (eqb-true y x e) ∙ h)
      | inr e ↦ or_right (test y) (list_any test ys) (any_with test ys x e h)
    ]

pub all_of : (P : ℕ → Type 0) (xs : List ℕ) (x : ℕ) → All P xs → list_any (λ y. nat_eq y x) xs ≡ true → P x
all_of P [] x h is = absurd cc
all_of P (y ∷ ys) x h is =
    elim (or_cases (nat_eq y x) (list_any (λ z. nat_eq z x) ys) is) [
      | inl e ↦ (let same : y ≡ x = eqb-true y x e in subst P same (All-head P y ys h))
      | inr e ↦ all_of P ys x (All-tail P y ys h) e
    ]

-- ---- marking

pub marks-long : (marks : List Bool) (ids : List ℕ) → length (with_marks marks ids) ≡ length marks
marks-long marks [] = refl
marks-long marks (id ∷ ids) = marks-long (slice_set marks id true) ids ∙ length-set marks id true

pub mark-keeps : (marks : List Bool) (id x : ℕ) → id < length marks → get_or marks x false ≡ true → get_or (slice_set marks id true) x false ≡ true
mark-keeps marks id x within h =
    by_cases (nat_eq x id)
    (λ e. let same : x ≡ id = eqb-true x id e in rw same (get_or-set_same marks id true false within))
    (λ e. get_or-set_other marks id x true false (eqb-false x id e) ∙ h)

pub marks-keep : (marks : List Bool) (ids : List ℕ) (x : ℕ) → All (λ id. id < length marks) ids → get_or marks x false ≡ true
    → get_or (with_marks marks ids) x false ≡ true
marks-keep marks [] x within h = h
marks-keep marks (id ∷ ids) x within h =
    marks-keep (slice_set marks id true) ids x (longer marks id ids within) (mark-keeps marks id x (All-head (λ i. i < length marks) id ids within) h)
  where
    longer : (marks : List Bool) (id : ℕ) (ids : List ℕ) → All (λ i. i < length marks) (id ∷ ids) → All (λ i. i < length (slice_set marks id true)) ids
    longer marks id ids h k d below = let long = length-set marks id true in omega (arith, long, All-tail (λ i. i < length marks) id ids h k d below)

pub marks-made : (marks : List Bool) (ids : List ℕ) (x : ℕ) → All (λ id. id < length marks) ids → list_any (λ id. nat_eq id x) ids ≡ true
    → get_or (with_marks marks ids) x false ≡ true
marks-made marks [] x within is = absurd cc
marks-made marks (id ∷ ids) x within is =
    let first : id < length marks = All-head (λ i. i < length marks) id ids within in
    let rest : All (λ i. i < length (slice_set marks id true)) ids =
    λ k d below. (let long = length-set marks id true in omega (arith, long, All-tail (λ i. i < length marks) id ids within k d below)) in
    elim (or_cases (nat_eq id x) (list_any (λ z. nat_eq z x) ids) is) [
      | inl e ↦ (let same : id ≡ x = eqb-true id x e in
          marks-keep (slice_set marks id true) ids x rest (ap (λ n. get_or (slice_set marks id true) n false) (sym same) ∙ get_or-set_same marks id true false first))
      | inr e ↦ marks-made (slice_set marks id true) ids x rest e
    ]

-- nothing else is marked
pub marks-only : (marks : List Bool) (ids : List ℕ) (x : ℕ) → get_or (with_marks marks ids) x false ≡ true
    → (get_or marks x false ≡ true) ⊎ (list_any (λ id. nat_eq id x) ids ≡ true)
marks-only marks [] x h = inl h
marks-only marks (id ∷ ids) x h =
    by_cases (nat_eq id x)
    (λ e. inr (or_left (nat_eq id x) (list_any (λ z. nat_eq z x) ids) e))
    (λ e. elim (marks-only (slice_set marks id true) ids x h) [
      | inl g ↦ inl (sym (get_or-set_other marks id x true false (λ q. eqb-false id x e (sym q))) ∙ g)
      | inr g ↦ inr (or_right (nat_eq id x) (list_any (λ z. nat_eq z x) ids) g)
    ])

-- ---- what is reached from what is reached

module _ (nodes : List PlanNode) (order : AreInOrder nodes (length nodes)) where
  within_of : (number : ℕ) (node : PlanNode) → slice_get nodes number ≡ Some node → number < length nodes
  within_of number node is = slice_get_within nodes number node is

  pub child-reached : (bound r : ℕ) → r < bound → r < length nodes → (m : ℕ) (node : PlanNode) → slice_get nodes m ≡ Some node
      → reaches nodes r m ≡ true → (x : ℕ) → list_any (λ y. nat_eq y x) (children_of node) ≡ true → lies_below nodes x r ≡ true
  child-reached zero r h within m node is reach x child = absurd (omega (arith, h))
  child-reached (suc bound) r h within m node is reach x child =
      elim (or_cases (nat_eq r m) (lies_below nodes m r) reach) [
        | inl e ↦ (let same : r ≡ m = eqb-true r m e in
            let at : slice_get nodes r ≡ Some node = ap (slice_get nodes) same ∙ is in
            below-node nodes (length nodes) order r node within at x
            ∙ any_with (λ c. reaches nodes c x) (children_of node) x child (or_left (nat_eq x x) (lies_below nodes x x) (eq-eqb x x refl)))
        | inr e ↦ (let there = get_there nodes r within in
            let found = any_of (λ c. reaches nodes c m) (children_of there.0)
            (sym (below-node nodes (length nodes) order r there.0 within there.1 m) ∙ e) in
            let before : found.0 < r = all_of (λ c. c < r) (children_of there.0) found.0
            (children_all (λ c. c < r) there.0 (order r there.0 within there.1)) found.1 in
            let deep = child-reached bound found.0 (omega (arith, before, h)) (omega (arith, before, within)) m node is found.2 x child in
            below-node nodes (length nodes) order r there.0 within there.1 x
            ∙ any_with (λ c. reaches nodes c x) (children_of there.0) found.0 found.1 (or_right (nat_eq found.0 x) (lies_below nodes x found.0) deep))
      ]

  module _ (roots : List ℕ) (rooted : All (λ root. root < length nodes) roots) where
    -- before the first step the roots are marked
    pub marked-first : (none : List Bool) → length none ≡ length nodes → ((x : ℕ) → get_or none x false ≡ false)
        → AreMarkedTo nodes roots (length nodes) (with_marks none roots)
    marked-first none long empty = record {
      as_many = marks-long none roots ∙ long;
      sound = λ id h. elim (marks-only none roots id h) [
        | inl e ↦ absurd (let f = empty id in cc)
        | inr e ↦ any_with (λ root. reaches nodes root id) roots id e (or_left (nat_eq id id) (lies_below nodes id id) (eq-eqb id id refl))
      ];
      whole = λ id h. (let found = any_of (λ root. reaches nodes root id) roots h in
          inr (
            found.0,
            all_of (λ root. root < length nodes) roots found.0 rooted found.1,
            marks-made none roots found.0 (λ k d below. omega (arith, long, rooted k d below)) found.1,
            found.2,
          ));
    }

    -- a node that is not marked
    pub marked-over : (m : ℕ) (marks : List Bool) → AreMarkedTo nodes roots (suc m) marks → get_or marks m false ≡ false
        → AreMarkedTo nodes roots m marks
    marked-over m marks h unmarked = record {
      as_many = h.as_many;
      sound = h.sound;
      whole = λ id r. elim (h.whole id r) [
        | inl e ↦ inl e
        | inr w ↦ elim (cases_lt w.0 m) [
          | inl b ↦ inr (w.0, b, w.2, w.3)
          | inr b ↦ absurd (let same : w.0 ≡ m = omega (arith, b, w.1) in let e = ap (λ n. get_or marks n false) same in cc)
        ]
      ];
    }

    -- a node that is marked marks its children
    pub marked-under : (m : ℕ) (node : PlanNode) (marks : List Bool) → slice_get nodes m ≡ Some node → AreMarkedTo nodes roots (suc m) marks
        → get_or marks m false ≡ true → AreMarkedTo nodes roots m (with_marks marks (children_of node))
    marked-under m node marks is h here_marked =
        let within = slice_get_within nodes m node is in
        let before = children_all (λ c. c < m) node (order m node within is) in
        let inside : All (λ c. c < length marks) (children_of node) = λ k d below. omega (arith, before k d below, within, h.as_many) in
        record {
          as_many = marks-long marks (children_of node) ∙ h.as_many;
          sound = λ id e. elim (marks-only marks (children_of node) id e) [
            | inl f ↦ h.sound id f
            | inr f ↦ (let found = any_of (λ root. reaches nodes root m) roots (h.sound m here_marked) in
                let in_plan = all_of (λ root. root < length nodes) roots found.0 rooted found.1 in
                any_with (λ root. reaches nodes root id) roots found.0 found.1
                (or_right (nat_eq found.0 id) (lies_below nodes id found.0)
                (child-reached (suc found.0) found.0 (omega arith) in_plan m node is found.2 id f)))
          ];
          whole = λ id r. elim (h.whole id r) [
            | inl e ↦ inl (marks-keep marks (children_of node) id inside e)
            | inr w ↦ elim (cases_lt w.0 m) [
              | inl b ↦ inr (w.0, b, marks-keep marks (children_of node) w.0 inside w.2, w.3)
              | inr b ↦ (let same : w.0 ≡ m = omega (arith, b, w.1) in
                  let here : reaches nodes m id ≡ true = ap (λ n. reaches nodes n id) (sym same) ∙ w.3 in
                  elim (or_cases (nat_eq m id) (lies_below nodes id m) here) [
                    | inl e ↦ inl (marks-keep marks (children_of node) id inside (ap (λ n. get_or marks n false) (sym (eqb-true m id e)) ∙ here_marked))
                    | inr e ↦ (let found = any_of (λ c. reaches nodes c id) (children_of node)
                        (sym (below-node nodes (length nodes) order m node within is id) ∙ e) in
                        inr (
                          found.0,
                          all_of (λ c. c < m) (children_of node) found.0 before found.1,
                          marks-made marks (children_of node) found.0 inside found.1,
                          found.2,
                        ))
                  ])
            ]
          ];
        }

    -- at the end the marks are exact
    pub marked-all : (marks : List Bool) → AreMarkedTo nodes roots 0 marks → AreMarks nodes roots marks
    marked-all marks h = record {
      as_many = h.as_many;
      each = λ id. same_when (get_or marks id false) (reached nodes roots id) (h.sound id)
          (λ r. elim (h.whole id r) [ inl e ↦ e | inr w ↦ absurd (omega (arith, w.1)) ]);
    }

-- ---- as the code asks for it

module _ (nodes : List PlanNode) (plan : IsPlan nodes) (m : ℕ) (node : PlanNode) (is : slice_get nodes m ≡ Some node) where
  pub children_inside : (size : ℕ) → size ≡ length nodes → AllByRecursion (λ c. c < size) (children_of node)
  children_inside size same =
      let within = slice_get_within nodes m node is in
      let before = children_all (λ c. c < m) node (in_order nodes plan (length nodes) m node within is) in
      recursion_from_All (λ c. c < size) (children_of node) (λ k d below. omega (arith, before k d below, within, same))

  pub step_marked : (marks : List Bool) → get_or marks m false ≡ true → (roots : List ℕ) → AllByRecursion (λ r. r < length nodes) roots
      → AreMarkedTo nodes roots (suc m) marks → AreMarkedTo nodes roots m (with_marks marks (children_of node))
  step_marked marks marked roots rooted h =
      marked-under nodes (in_order nodes plan (length nodes)) roots (All-from_recursion (λ r. r < length nodes) roots rooted) m node marks is h marked

module _ (nodes : List PlanNode) (plan : IsPlan nodes) (roots : List ℕ) (rooted : AllByRecursion (λ r. r < length nodes) roots) where
  pub first_marked : AreMarkedTo nodes roots (length nodes) (with_marks (replicate (length nodes) false) roots)
  first_marked =
      marked-first nodes (in_order nodes plan (length nodes)) roots (All-from_recursion (λ r. r < length nodes) roots rooted)
      (replicate (length nodes) false) (length-replicate (length nodes) false) (nothing (length nodes))
    where
      nothing : (n x : ℕ) → get_or (replicate n false) x false ≡ false
      nothing zero x = refl
      nothing (suc n) zero = refl
      nothing (suc n) (suc x) = nothing n x

  pub last_marked : (k : ℕ) → k ≡ 0 → (marks : List Bool) → AreMarkedTo nodes roots k marks → AreMarks nodes roots marks
  last_marked k none marks h =
      marked-all nodes (in_order nodes plan (length nodes)) roots (All-from_recursion (λ r. r < length nodes) roots rooted) marks
      (subst (λ n. AreMarkedTo nodes roots n marks) none h)

pub one_down : (nodes : List PlanNode) (roots : List ℕ) (k : ℕ) → 0 < k → (marks : List Bool) → AreMarkedTo nodes roots k marks
    → AreMarkedTo nodes roots (suc (k - 1)) marks
one_down nodes roots k some marks h = let same : k ≡ suc (k - 1) = omega (arith, some) in subst (λ n. AreMarkedTo nodes roots n marks) same h
