-- Comments of one line, which carry any bytes: what is not printable ASCII is shown as a question mark.
use Rattle.std.specs.Prelude.{ℕ, Bool, ◌-◌, nat_eq, nat_le, ◌&&◌, if◌then◌else◌, List, [], ◌∷◌, ◌++◌, length, take, codes}

-- a byte as it is shown
abbrev pub shown_byte : ℕ → ℕ
shown_byte b = if nat_le 32 b && nat_le b 126 then b else 63

-- the end of a line, and the next one, which begins four blanks further in
abbrev pub break_text : List ℕ → List ℕ
break_text front = codes "\n" ++ front ++ codes "//|     "

-- whether a line ends in place of a byte: of a blank with at most 40 bytes of room
abbrev pub ends_at : ℕ → ℕ → Bool
ends_at room b = nat_eq b 32 && nat_le room 40

-- one more byte; where a line is full, it goes on the next one
abbrev pub byte_text : List ℕ → ℕ → ℕ → List ℕ
byte_text front room b =
    if ends_at room b then break_text front else if nat_eq room 0 then break_text front ++ shown_byte b ∷ [] else shown_byte b ∷ []

-- the room that is left behind one more byte
abbrev pub room_behind : ℕ → ℕ → ℕ
room_behind room b = if ends_at room b then 111 else if nat_eq room 0 then 110 else room - 1

-- the bytes of a comment where so much room is left in its line; each of its lines stands behind the same blanks
abbrev pub wrapped : List ℕ → ℕ → List ℕ → List ℕ
wrapped front room [] = codes "\n"
wrapped front room (b ∷ w) = byte_text front room b ++ wrapped front (room_behind room b) w

-- a comment; a line has at most 115 bytes of it, and ends at a blank where one stands among its last 40
abbrev pub comment_text : List ℕ → List ℕ → List ℕ
comment_text front w = codes "//| " ++ wrapped front 115 w

-- the heading of a section, behind an empty line; at most 200 bytes of it are shown, and nothing where it is empty
unfoldable pub heading_text : List ℕ → List ℕ
heading_text [] = []
heading_text (b ∷ w) = codes "\n    " ++ comment_text (codes "    ") (take 200 (b ∷ w))

-- the title of a part of a module
unfoldable pub title_text : List ℕ → List ℕ
title_text w = codes "\n    //| " ++ w ++ codes "\n"

-- the end of a header that was cut
abbrev pub cut_note : List ℕ
cut_note = codes "//| The header ends here: it has at most 65,536 bytes.\n"

-- so many bytes of a line, and that no more is shown
abbrev pub last_text : ℕ → List ℕ → List ℕ
last_text room l = comment_text [] (take room l) ++ cut_note

-- lines in front of a module, where so many bytes are left for them; a line counts five more than it has
abbrev pub header_from : ℕ → List (List ℕ) → List ℕ
header_from room [] = []
header_from room (l ∷ ls) =
    if nat_le 5 room && nat_le (length l) (room - 5) then comment_text [] l ++ header_from (room - 5 - length l) ls
    else last_text room l

-- the lines in front of a module, in 65,536 bytes
unfoldable pub header_text : List (List ℕ) → List ℕ
header_text lines = header_from 65536 lines
