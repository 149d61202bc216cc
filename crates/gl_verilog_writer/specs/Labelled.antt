-- What the nets of nodes are called: after labels of any bytes, or by a family that no port's name begins with.
use Rattle.std.specs.Prelude.{ℕ, zero, suc, ◌+◌, ◌-◌, ◌==◌, nat_le, nat_lt, not, ◌&&◌, ◌||◌, Bool, if◌then◌else◌, List, [], ◌∷◌, ◌++◌, map, length, slice_get, codes, decimal, Vec}
use Rattle.std.specs.Global.{Global}
use Rattle.std.specs.Option.{option_map_or}
use Rattle.std.specs.List.{list_any, starts_with}
use Rattle.gl_net.specs.declared.node.Port.{Port}
use Rattle.gl_net.specs.Finished.{is_letter, is_digit}
use Rattle.gl_net.specs.Net.{Net}
use Rattle.gl_verilog_writer.specs.declared.label.Labels.{Labels}
use Rattle.gl_verilog_writer.specs.Pieces.{family_text, net_name}

-- ---- families

-- whether some port's name begins so
abbrev pub begins_port : List Port → List ℕ → Bool
begins_port ports front = list_any (λ p. starts_with ◌==◌ p.name front) ports

-- the first of so many families, from one on, whose names are no ports' names; else the one behind them
abbrev pub family_from : List Port → ℕ → ℕ → ℕ
family_from ports zero at = at
family_from ports (suc n) at = if begins_port ports (family_text at) then family_from ports n (at + 1) else at

-- each port rules out one family at most
unfoldable pub family_of : List Port → ℕ
family_of ports = family_from ports (length ports) 0

-- ---- labels

-- the bytes of a line
abbrev pub bytes_of : Vec ℕ Global → List ℕ
bytes_of line = line.items

-- the lines in front of the module
abbrev pub head_lines : Labels → List (List ℕ)
head_lines labels = map bytes_of labels.head.items

-- what a node's label calls it; a node without a label has the empty name
abbrev pub name_at : Labels → ℕ → List ℕ
name_at labels n = option_map_or (λ l. l.name.items) (slice_get labels.nodes.items n) []

-- the heading of the section that begins with a node; empty where none does
abbrev pub above_at : Labels → ℕ → List ℕ
above_at labels n = option_map_or (λ l. l.above.items) (slice_get labels.nodes.items n) []

-- a byte that a name may have
abbrev pub is_name_byte : ℕ → Bool
is_name_byte b = is_letter b || is_digit b

-- a byte of a label where a name has room for so many more; any other byte is left out
abbrev pub kept_byte : ℕ → ℕ → List ℕ
kept_byte room b = if nat_lt 0 room && is_name_byte b then b ∷ [] else []

-- the room that is left behind it
abbrev pub room_left : ℕ → ℕ → ℕ
room_left room b = if nat_lt 0 room && is_name_byte b then room - 1 else room

-- the letters, digits and _ of a label, so many at most
abbrev pub clean : ℕ → List ℕ → List ℕ
clean room [] = []
clean room (b ∷ w) = kept_byte room b ++ clean (room_left room b) w

-- what a label calls a node: the number behind it keeps two nodes apart whose labels are the same
unfoldable pub label_name : List ℕ → ℕ → List ℕ
label_name w n = codes "p" ++ clean 64 w ++ codes "_n" ++ decimal n

-- ---- which of them

-- labels are shown where no port's name begins as theirs do, in texts of at most 65,536 nodes
abbrev pub are_shown : Net → Bool
are_shown net = not (begins_port net.ports (codes "p")) && nat_le (length net.nodes) 65536

-- what nodes are called by
pub data Scheme : Type 0 where
  ByFamily : (family : ℕ) → Scheme
  ByLabels : (labels : Labels) → Scheme

-- what the nodes of a netlist are called by
abbrev pub scheme_of : Labels → Net → Scheme
scheme_of labels net = if are_shown net then ByLabels labels else ByFamily (family_of net.ports)

-- the name of a node's net
abbrev pub name_in : Scheme → ℕ → List ℕ
name_in (ByFamily family) n = net_name family n
name_in (ByLabels labels) n = label_name (name_at labels n) n

-- the heading above a node; a family has none
abbrev pub above_in : Scheme → ℕ → List ℕ
above_in (ByFamily family) n = []
above_in (ByLabels labels) n = above_at labels n

-- the names in the text of a netlist
abbrev pub naming : Labels → Net → ℕ → List ℕ
naming labels net = name_in (scheme_of labels net)
