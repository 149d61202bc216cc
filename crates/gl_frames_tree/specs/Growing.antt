-- A tree of keys with no netlist: how the nodes of a level are numbered, and what a level does in each cycle. What its
-- words held before the stream is not said.
use Rattle.std.specs.Prelude.{◌≡◌, ℕ, zero, suc, ◌+◌, ◌*◌, ◌<◌, ◌≤◌, List, [], Some, None, Bool, true, false, not, ◌&&◌, ◌||◌, length, if◌then◌else◌, nat_eq, nat_lt, slice_get}
use Rattle.std.specs.List.{list_any}
use Rattle.gl_values.specs.Results.{Row}
use Rattle.gl_values.specs.Tables.{with_key}
use Rattle.gl_frames_keys.specs.Lanes.{first_keys}
use Rattle.gl_wire.specs.Wire.{Carried}

-- ---- how nodes are numbered

-- the names of a level's nodes before a cycle, in the order in which rows first named them, while there is room for n;
-- an end frees all
abbrev pub nodes_before : ℕ → (ℕ → Bool) → (ℕ → ℕ) → (ℕ → Bool) → ℕ → List ℕ
nodes_before n asks name ends zero = []
nodes_before n asks name ends (suc c) =
    if ends c then []
    else (if asks c then with_key n (nodes_before n asks name ends c) (name c) else nodes_before n asks name ends c)

-- rows at a level, in each cycle
pub record Numbered : Type 0 where
  -- whether a row comes that was not lost before, the name of its node, and whether its stream ends
  pub asks : ℕ → Bool
  pub name : ℕ → ℕ
  pub ends : ℕ → Bool
  -- whether it has a node, whether the node begins with it, and the node's number
  pub valid : ℕ → Bool
  pub fresh : ℕ → Bool
  pub number : ℕ → ℕ

-- the names of the nodes before a cycle
abbrev pub nodes_at : ℕ → Numbered → ℕ → List ℕ
nodes_at n m c = nodes_before n m.asks m.name m.ends c

-- a row is lost where its node is not there and n others are; and the node's number is its place among them
pub record Numbers (n : ℕ) (m : Numbered) : Type 0 where
  pub valid : (c : ℕ) → m.valid c
      ≡ (m.asks c && list_any (nat_eq (m.name c)) (with_key n (nodes_at n m c) (m.name c)))
  pub fresh : (c : ℕ) → m.fresh c ≡ (m.asks c
      && (nat_lt (length (nodes_at n m c)) n && not (list_any (nat_eq (m.name c)) (nodes_at n m c))))
  pub number : (c : ℕ) → m.valid c ≡ true
      → slice_get (with_key n (nodes_at n m c) (m.name c)) (m.number c) ≡ Some (m.name c)

-- ---- a level

-- what a level is in each cycle
pub record Level : Type 0 where
  -- the rows with their nodes, and which of its node's four children each names
  pub rows : Numbered
  pub digit : ℕ → ℕ
  -- how many children all nodes have together
  pub used : ℕ → ℕ
  -- by node and place: whether there is a child, and its number
  pub there : ℕ → ℕ → ℕ → Bool
  pub child : ℕ → ℕ → ℕ → ℕ
  -- whether the row's child is there, whether the row is lost, whether the child begins with it, and the child's number
  pub here : ℕ → Bool
  pub lost : ℕ → Bool
  pub make : ℕ → Bool
  pub number : ℕ → ℕ

-- whether a node's word is written: it begins with the row, or has a child more
abbrev pub is_written : Level → ℕ → ℕ → Bool
is_written v c k = (v.make c || v.rows.fresh c) && nat_eq (v.rows.number c) k

-- whether a place takes a child
abbrev pub takes_child : Level → ℕ → ℕ → Bool
takes_child v c d = v.make c && nat_eq (v.digit c) d

-- a place of a node is as it was one cycle before
abbrev pub StaysSo : Level → (c k d : ℕ) → Type 0
StaysSo v c k d = (v.there (suc c) k d ≡ v.there c k d) × (v.child (suc c) k d ≡ v.child c k d)

-- a level of at most n children goes on so
pub record Grows (n : ℕ) (v : Level) : Type 0 where
  -- a node that begins has no child
  pub none : (c : ℕ) → v.rows.valid c ≡ true → v.rows.fresh c ≡ true → v.here c ≡ false
  pub here : (c : ℕ) → v.rows.valid (suc (suc c)) ≡ true → v.rows.fresh (suc (suc c)) ≡ false
      → v.here (suc (suc c)) ≡ v.there (suc (suc c)) (v.rows.number (suc (suc c))) (v.digit (suc (suc c)))
  pub seen : (c : ℕ) → v.rows.valid (suc (suc c)) ≡ true → v.rows.fresh (suc (suc c)) ≡ false
      → v.here (suc (suc c)) ≡ true
      → v.number (suc (suc c)) ≡ v.child (suc (suc c)) (v.rows.number (suc (suc c))) (v.digit (suc (suc c)))
  pub next : (c : ℕ) → v.here (suc c) ≡ false → v.used (suc c) < n → v.number (suc c) ≡ v.used (suc c)
  pub lost : (c : ℕ) → v.lost c ≡ ((v.rows.valid c && not (v.here c)) && nat_eq (v.used c) n)
  pub make : (c : ℕ) → v.make c ≡ ((v.rows.valid c && not (v.here c)) && not (v.lost c))
  pub start : v.used 1 ≡ 0
  pub count : (c : ℕ) → v.used (suc c) ≤ n → v.used (suc (suc c))
      ≡ (if v.rows.ends (suc c) then 0 else (if v.make (suc c) then v.used (suc c) + 1 else v.used (suc c)))
  -- words stay, but for the one that is written: it has the child more, and where the node begins no other
  pub idle : (c k d : ℕ) → d < 4 → is_written v (suc c) k ≡ false → StaysSo v (suc c) k d
  pub made : (c k d : ℕ) → d < 4 → is_written v (suc c) k ≡ true → takes_child v (suc c) d ≡ true → v.used (suc c) < n
      → (v.there (suc (suc c)) k d ≡ true) × (v.child (suc (suc c)) k d ≡ v.used (suc c))
  pub begun : (c k d : ℕ) → d < 4 → is_written v (suc c) k ≡ true → takes_child v (suc c) d ≡ false
      → v.rows.fresh (suc c) ≡ true → v.there (suc (suc c)) k d ≡ false
  pub stays : (c k d : ℕ) → d < 4 → is_written v (suc (suc c)) k ≡ true → takes_child v (suc (suc c)) d ≡ false
      → v.rows.valid (suc (suc c)) ≡ true → v.rows.fresh (suc (suc c)) ≡ false → StaysSo v (suc (suc c)) k d

-- the rows with the children that they name: a child's name is its node's with the place behind it
abbrev pub children_of : Level → Numbered
children_of v = record {
  asks = v.rows.valid;
  name = λ c. v.rows.name c * 4 + v.digit c;
  ends = v.rows.ends;
  valid = λ c. v.rows.valid c && not (v.lost c);
  fresh = v.make;
  number = v.number;
}

-- ---- one cycle later

-- a line one cycle later
abbrev pub line_after : (ℕ → Bool) → ℕ → Bool
line_after x zero = false
line_after x (suc c) = x c

-- a number one cycle later
abbrev pub number_after : (ℕ → ℕ) → ℕ → ℕ
number_after x zero = 0
number_after x (suc c) = x c

-- rows one cycle behind others; of the others' cycle 0 the number does not count
pub record IsAfter (m d : Numbered) : Type 0 where
  pub asks : (c : ℕ) → d.asks c ≡ line_after m.asks c
  pub name : (c : ℕ) → d.name c ≡ number_after m.name c
  pub ends : (c : ℕ) → d.ends c ≡ line_after m.ends c
  pub valid : (c : ℕ) → d.valid c ≡ line_after m.valid c
  pub fresh : (c : ℕ) → d.fresh c ≡ line_after m.fresh c
  pub number : (c : ℕ) → d.number (suc (suc c)) ≡ m.number (suc c)

-- ---- which rows are lost

-- the rows of a wire at a level, whose nodes have names by the key: each row of one of the first n keys has come so far
pub record Leads (n : ℕ) (key : Row → ℕ) (a : Carried) (f : ℕ → ℕ) (m : Numbered) : Type 0 where
  pub none : (c : ℕ) → a.tuple c ≡ None → m.asks c ≡ false
  pub name : (c : ℕ) (r : Row) → a.tuple c ≡ Some r → m.asks c ≡ true → m.name c ≡ f (key r)
  pub ends : (c : ℕ) → m.ends c ≡ a.ends c
  pub kept : (c : ℕ) (r : Row) → a.tuple c ≡ Some r → list_any (nat_eq (key r)) (first_keys n key a c) ≡ true
      → m.asks c ≡ true
