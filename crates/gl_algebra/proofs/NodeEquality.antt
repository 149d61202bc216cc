-- The equality test of nodes decides whether they are the same.
use Rattle.std.proofs.Common.{◌≡◌, ℕ, Bool, true, false, ◌&&◌, List, Option, Some, None, refl, ap, subst, nat_eq}
use Rattle.std.specs.Option.{option_eq}
use Rattle.std.specs.Bool.{Decides}
use Rattle.std.specs.Cmp.{IsEquivalence, unsigned_Decides}
use Rattle.std.specs.Cmp.Lexicographic.{pointwise, pointwise_decides}
use Rattle.gl_bits.proofs.Bools.{and_parts}
use Rattle.gl_values.proofs.KindLemmas.{kinds_equal}
use Rattle.gl_algebra.specs.Added.{same_node}
use Rattle.gl_bits.specs.Words.{Word}
use Rattle.gl_values.specs.declared.kind.Kind.{Kind}
use Rattle.gl_values.specs.contracts.kind.KindPartialEq.TheImpl as OfKind
use Rattle.gl_values.specs.contracts.kind.KindEq.TheImpl.Laws as KindLaws
use Rattle.gl_bits.specs.contracts.word.WordPartialEq.TheImpl as OfWord
use Rattle.gl_bits.specs.contracts.word.WordEq.TheImpl.Laws as WordLaws
use Rattle.gl_values.specs.declared.op.Op.{Op}
use Rattle.gl_values.specs.declared.op.Op.TheVariants.{Add, Sub, Mul, BitAnd, BitOr, BitXor, ShiftLeft, ShiftRight, Eq, Ne, Lt, Le, Gt, Ge, And, Or}
use Rattle.gl_values.specs.contracts.op.OpPartialEq.TheImpl as OfOp
use Rattle.gl_algebra.specs.declared.node.Operand.{Operand}
use Rattle.gl_algebra.specs.declared.node.Operand.TheVariants.{Column, Literal, Parameter}
use Rattle.gl_algebra.specs.contracts.node.OperandPartialEq.TheImpl as OfOperand
use Rattle.gl_algebra.specs.contracts.node.OperandEq.TheImpl.Laws as OperandLaws
use Rattle.gl_algebra.specs.declared.node.ColOp.{ColOp}
use Rattle.gl_algebra.specs.declared.node.ColOp.TheVariants.{Not, Flip, Cast, Binary}
use Rattle.gl_algebra.specs.contracts.node.ColOpPartialEq.TheImpl as OfColOp
use Rattle.gl_algebra.specs.contracts.node.ColOpEq.TheImpl.Laws as ColOpLaws
use Rattle.gl_algebra.specs.declared.node.PlanAgg.{PlanAgg}
use Rattle.gl_algebra.specs.declared.node.PlanAgg.TheVariants.{Count, Sum, Min, Max, Avg, Wsum}
use Rattle.gl_algebra.specs.contracts.node.PlanAggPartialEq.TheImpl as OfPlanAgg
use Rattle.gl_algebra.specs.contracts.node.PlanAggEq.TheImpl.Laws as PlanAggLaws
use Rattle.gl_algebra.specs.declared.node.PlanFrame.{PlanFrame}
use Rattle.gl_algebra.specs.declared.node.PlanFrame.TheVariants.{Own, Lag, Over}
use Rattle.gl_algebra.specs.contracts.node.PlanFramePartialEq.TheImpl as OfPlanFrame
use Rattle.gl_algebra.specs.contracts.node.PlanFrameEq.TheImpl.Laws as PlanFrameLaws
use Rattle.gl_algebra.specs.declared.node.PlanFrameAgg.{PlanFrameAgg}
use Rattle.gl_algebra.specs.declared.node.PlanFrameAgg.TheVariants as over
use Rattle.gl_algebra.specs.contracts.node.PlanFrameAggPartialEq.TheImpl as OfPlanFrameAgg
use Rattle.gl_algebra.specs.declared.node.PlanKey.{PlanKey}
use Rattle.gl_algebra.specs.contracts.node.PlanKeyPartialEq.TheImpl as OfPlanKey
use Rattle.gl_algebra.specs.declared.node.PlanNode.{PlanNode}
use Rattle.gl_algebra.specs.declared.node.PlanNode.TheVariants.{Stream, Body, Compute, Select, Project, Frames, Aggregate, Union, Merge, Beside, Window, TimeWindow, Group, Partition}
use Rattle.gl_algebra.specs.contracts.node.PlanNodeEq.TheImpl.Laws as PlanNodeLaws

-- a test that holds of one thing alone, and of each thing and itself, decides
decides_from : {K : Type 0} (E : K → K → Bool) → IsEquivalence E → ((x y : K) → E x y ≡ true → x ≡ y) → (x y : K) → Decides (E x y) (x ≡ y)
decides_from E laws same x y = (same x y, λ e. subst (λ z. E x z ≡ true) e (laws.refl x))

never : false ≡ true → ⊥
never h = cc

-- equal numbers
number : (x y : ℕ) → nat_eq x y ≡ true → x ≡ y
number x y h = (unsigned_Decides x y).0 h

same_kinds : (xs ys : List Kind) → pointwise OfKind.ghosts.eq xs ys ≡ true → xs ≡ ys
same_kinds xs ys = (pointwise_decides (decides_from OfKind.ghosts.eq KindLaws.laws-law kinds_equal) xs ys).0

same_word : (x y : Word) → OfWord.ghosts.eq x y ≡ true → x ≡ y
same_word x y h =
    let parts = and_parts (nat_eq x.bits y.bits) (nat_eq x.width y.width) h in
    λ i. record { bits = number x.bits y.bits parts.0 i; width = number x.width y.width parts.1 i }

same_words : (xs ys : List Word) → pointwise OfWord.ghosts.eq xs ys ≡ true → xs ≡ ys
same_words xs ys = (pointwise_decides (decides_from OfWord.ghosts.eq WordLaws.laws-law same_word) xs ys).0

same_operator : (x y : Op) → OfOp.ghosts.eq x y ≡ true → x ≡ y
same_operator Add Add h = refl
same_operator Sub Sub h = refl
same_operator Mul Mul h = refl
same_operator BitAnd BitAnd h = refl
same_operator BitOr BitOr h = refl
same_operator BitXor BitXor h = refl
same_operator ShiftLeft ShiftLeft h = refl
same_operator ShiftRight ShiftRight h = refl
same_operator Eq Eq h = refl
same_operator Ne Ne h = refl
same_operator Lt Lt h = refl
same_operator Le Le h = refl
same_operator Gt Gt h = refl
same_operator Ge Ge h = refl
same_operator And And h = refl
same_operator Or Or h = refl
same_operator _ _ h = absurd (never h)

same_operand : (x y : Operand) → OfOperand.ghosts.eq x y ≡ true → x ≡ y
same_operand (Column v) (Column w) h = ap Column (number v w h)
same_operand (Literal u k) (Literal v l) h =
    let parts = and_parts (OfWord.ghosts.eq u v) (OfKind.ghosts.eq k l) h in
    λ i. Literal (same_word u v parts.0 i) (kinds_equal k l parts.1 i)
same_operand (Parameter m k) (Parameter n l) h =
    let parts = and_parts (nat_eq m n) (OfKind.ghosts.eq k l) h in
    λ i. Parameter (number m n parts.0 i) (kinds_equal k l parts.1 i)
same_operand _ _ h = absurd (never h)

same_operands : (xs ys : List Operand) → pointwise OfOperand.ghosts.eq xs ys ≡ true → xs ≡ ys
same_operands xs ys = (pointwise_decides (decides_from OfOperand.ghosts.eq OperandLaws.laws-law same_operand) xs ys).0

pub same_op : (x y : ColOp) → OfColOp.ghosts.eq x y ≡ true → x ≡ y
same_op (Not a) (Not b) h = ap Not (same_operand a b h)
same_op (Flip a) (Flip b) h = ap Flip (same_operand a b h)
same_op (Cast a k) (Cast b l) h =
    let parts = and_parts (OfOperand.ghosts.eq a b) (OfKind.ghosts.eq k l) h in
    λ i. Cast (same_operand a b parts.0 i) (kinds_equal k l parts.1 i)
same_op (Binary o a b) (Binary p c d) h =
    let parts = and_parts (OfOp.ghosts.eq o p) (OfOperand.ghosts.eq a c && OfOperand.ghosts.eq b d) h in
    let sides = and_parts (OfOperand.ghosts.eq a c) (OfOperand.ghosts.eq b d) parts.1 in
    λ i. Binary (same_operator o p parts.0 i) (same_operand a c sides.0 i) (same_operand b d sides.1 i)
same_op _ _ h = absurd (never h)

same_ops : (xs ys : List ColOp) → pointwise OfColOp.ghosts.eq xs ys ≡ true → xs ≡ ys
same_ops xs ys = (pointwise_decides (decides_from OfColOp.ghosts.eq ColOpLaws.laws-law same_op) xs ys).0

same_agg : (x y : PlanAgg) → OfPlanAgg.ghosts.eq x y ≡ true → x ≡ y
same_agg Count Count h = refl
same_agg (Sum a) (Sum b) h = ap Sum (same_operand a b h)
same_agg (Min a) (Min b) h = ap Min (same_operand a b h)
same_agg (Max a) (Max b) h = ap Max (same_operand a b h)
same_agg (Avg a) (Avg b) h = ap Avg (same_operand a b h)
same_agg (Wsum a v) (Wsum b w) h =
    let parts = and_parts (OfOperand.ghosts.eq a b) (pointwise OfWord.ghosts.eq v w) h in
    λ i. Wsum (same_operand a b parts.0 i) (same_words v w parts.1 i)
same_agg _ _ h = absurd (never h)

same_aggs : (xs ys : List PlanAgg) → pointwise OfPlanAgg.ghosts.eq xs ys ≡ true → xs ≡ ys
same_aggs xs ys = (pointwise_decides (decides_from OfPlanAgg.ghosts.eq PlanAggLaws.laws-law same_agg) xs ys).0

same_frame_agg : (x y : PlanFrameAgg) → OfPlanFrameAgg.ghosts.eq x y ≡ true → x ≡ y
same_frame_agg over.Count over.Count h = refl
same_frame_agg (over.Sum a) (over.Sum b) h = ap over.Sum (same_operand a b h)
same_frame_agg (over.Min a) (over.Min b) h = ap over.Min (same_operand a b h)
same_frame_agg (over.Max a) (over.Max b) h = ap over.Max (same_operand a b h)
same_frame_agg (over.Avg a) (over.Avg b) h = ap over.Avg (same_operand a b h)
same_frame_agg (over.LastValue a) (over.LastValue b) h = ap over.LastValue (same_operand a b h)
same_frame_agg _ _ h = absurd (never h)

same_option : {A : Type 0} (E : A → A → Bool) → ((x y : A) → E x y ≡ true → x ≡ y) → (x y : Option A) → option_eq E x y ≡ true → x ≡ y
same_option E same None None h = refl
same_option E same None (Some y) h = absurd (never h)
same_option E same (Some x) None h = absurd (never h)
same_option E same (Some x) (Some y) h = ap Some (same x y h)

pub same_frame : (x y : PlanFrame) → OfPlanFrame.ghosts.eq x y ≡ true → x ≡ y
same_frame (Own a) (Own b) h = ap Own (same_operand a b h)
same_frame (Lag a m) (Lag b n) h =
    let parts = and_parts (OfOperand.ghosts.eq a b) (nat_eq m n) h in
    λ i. Lag (same_operand a b parts.0 i) (number m n parts.1 i)
same_frame (Over a f m) (Over b g n) h =
    let first = and_parts (OfPlanFrameAgg.ghosts.eq a b) (option_eq nat_eq f g && option_eq nat_eq m n) h in
    let second = and_parts (option_eq nat_eq f g) (option_eq nat_eq m n) first.1 in
    λ i. Over (same_frame_agg a b first.0 i) (same_option nat_eq number f g second.0 i) (same_option nat_eq number m n second.1 i)
same_frame _ _ h = absurd (never h)

same_frames : (xs ys : List PlanFrame) → pointwise OfPlanFrame.ghosts.eq xs ys ≡ true → xs ≡ ys
same_frames xs ys = (pointwise_decides (decides_from OfPlanFrame.ghosts.eq PlanFrameLaws.laws-law same_frame) xs ys).0

same_key : (x y : PlanKey) → OfPlanKey.ghosts.eq x y ≡ true → x ≡ y
same_key x y h =
    let parts = and_parts (nat_eq x.key y.key) (nat_eq x.groups y.groups) h in
    λ i. record { key = number x.key y.key parts.0 i; groups = number x.groups y.groups parts.1 i }

-- nodes that pass the test of nodes are one
pub same_node-is : (x y : PlanNode) → same_node x y ≡ true → x ≡ y
same_node-is (Stream m k) (Stream n l) h =
    let parts = and_parts (nat_eq m n) (pointwise OfKind.ghosts.eq k l) h in
    λ i. Stream (number m n parts.0 i) (same_kinds k l parts.1 i)
same_node-is (Body k) (Body l) h = ap Body (same_kinds k l h)
same_node-is (Compute c o) (Compute d p) h =
    let parts = and_parts (nat_eq c d) (pointwise OfColOp.ghosts.eq o p) h in
    λ i. Compute (number c d parts.0 i) (same_ops o p parts.1 i)
same_node-is (Select c m) (Select d n) h =
    let parts = and_parts (nat_eq c d) (nat_eq m n) h in
    λ i. Select (number c d parts.0 i) (number m n parts.1 i)
same_node-is (Project c o) (Project d p) h =
    let parts = and_parts (nat_eq c d) (pointwise OfOperand.ghosts.eq o p) h in
    λ i. Project (number c d parts.0 i) (same_operands o p parts.1 i)
same_node-is (Frames c b o) (Frames d e p) h =
    let parts = and_parts (nat_eq c d) (option_eq OfPlanKey.ghosts.eq b e && pointwise OfPlanFrame.ghosts.eq o p) h in
    let behind = and_parts (option_eq OfPlanKey.ghosts.eq b e) (pointwise OfPlanFrame.ghosts.eq o p) parts.1 in
    λ i. Frames (number c d parts.0 i) (same_option OfPlanKey.ghosts.eq same_key b e behind.0 i) (same_frames o p behind.1 i)
same_node-is (Aggregate c o) (Aggregate d p) h =
    let parts = and_parts (nat_eq c d) (pointwise OfPlanAgg.ghosts.eq o p) h in
    λ i. Aggregate (number c d parts.0 i) (same_aggs o p parts.1 i)
same_node-is (Union a b) (Union c d) h =
    let parts = and_parts (nat_eq a c) (nat_eq b d) h in
    λ i. Union (number a c parts.0 i) (number b d parts.1 i)
same_node-is (Merge a b) (Merge c d) h =
    let parts = and_parts (nat_eq a c) (nat_eq b d) h in
    λ i. Merge (number a c parts.0 i) (number b d parts.1 i)
same_node-is (Beside a b) (Beside c d) h =
    let parts = and_parts (nat_eq a c) (nat_eq b d) h in
    λ i. Beside (number a c parts.0 i) (number b d parts.1 i)
same_node-is (Window a b m n) (Window c d p q) h =
    let first = and_parts (nat_eq a c) (nat_eq b d && (nat_eq m p && nat_eq n q)) h in
    let second = and_parts (nat_eq b d) (nat_eq m p && nat_eq n q) first.1 in
    let third = and_parts (nat_eq m p) (nat_eq n q) second.1 in
    λ i. Window (number a c first.0 i) (number b d second.0 i) (number m p third.0 i) (number n q third.1 i)
same_node-is (TimeWindow a b m n) (TimeWindow c d p q) h =
    let first = and_parts (nat_eq a c) (nat_eq b d && (nat_eq m p && nat_eq n q)) h in
    let second = and_parts (nat_eq b d) (nat_eq m p && nat_eq n q) first.1 in
    let third = and_parts (nat_eq m p) (nat_eq n q) second.1 in
    λ i. TimeWindow (number a c first.0 i) (number b d second.0 i) (number m p third.0 i) (number n q third.1 i)
same_node-is (Group a b m n) (Group c d p q) h =
    let first = and_parts (nat_eq a c) (nat_eq b d && (nat_eq m p && nat_eq n q)) h in
    let second = and_parts (nat_eq b d) (nat_eq m p && nat_eq n q) first.1 in
    let third = and_parts (nat_eq m p) (nat_eq n q) second.1 in
    λ i. Group (number a c first.0 i) (number b d second.0 i) (number m p third.0 i) (number n q third.1 i)
same_node-is (Partition a b k g m n) (Partition c d l i p q) h =
    let sources = and_parts (nat_eq a c) (nat_eq b d && (nat_eq k l && (nat_eq g i && (nat_eq m p && nat_eq n q)))) h in
    let bodies = and_parts (nat_eq b d) (nat_eq k l && (nat_eq g i && (nat_eq m p && nat_eq n q))) sources.1 in
    let keys = and_parts (nat_eq k l) (nat_eq g i && (nat_eq m p && nat_eq n q)) bodies.1 in
    let counts = and_parts (nat_eq g i) (nat_eq m p && nat_eq n q) keys.1 in
    let rows = and_parts (nat_eq m p) (nat_eq n q) counts.1 in
    λ j. Partition (number a c sources.0 j) (number b d bodies.0 j) (number k l keys.0 j) (number g i counts.0 j)
    (number m p rows.0 j) (number n q rows.1 j)
same_node-is _ _ h = absurd (never h)

-- and each node passes it with itself
pub same_node-self : (x : PlanNode) → same_node x x ≡ true
same_node-self x = PlanNodeLaws.laws-law.refl x
