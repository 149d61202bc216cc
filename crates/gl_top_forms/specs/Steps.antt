-- What one word of a command line says, where it is known whether it is the value of the option.
-- A middle layer, proved equal to `Forms`: no promise rests on it.
use Rattle.std.specs.Prelude.{ℕ, Bool, true, false, not, ◌&&◌, ◌==◌, List, drop, length, bytes_eq, Option, Some, None, option_map, if◌then◌else◌}
use Rattle.std.specs.Borrow.{Bor}
use Rattle.std.specs.List.{starts_with}
use Rattle.gl_top_forms.specs.Forms.{option_front, is_dashed}

-- bytes that the code may have found
abbrev pub bytes_of : Option (Bor (List ℕ)) → Option (List ℕ)
bytes_of found = option_map (λ v. v.now) found

-- whether the next word is its value
abbrev pub is_option : List ℕ → Bool → List ℕ → Bool
is_option option valued w = not valued && bytes_eq w option

-- whether it names a text
abbrev pub is_name : Bool → List ℕ → Bool
is_name valued w = not valued && not (is_dashed w)

-- what stands behind a front
abbrev pub behind : List ℕ → List ℕ → Option (List ℕ)
behind front w = if starts_with ◌==◌ w front then Some (drop (length front) w) else None

-- the value that it gives, if it gives one
abbrev pub value_in : List ℕ → Bool → List ℕ → Option (Option (List ℕ))
value_in option true w = Some (Some w)
value_in option false w =
    if bytes_eq w option then None
    else if starts_with ◌==◌ w (option_front option) then Some (Some (drop (length (option_front option)) w))
    else if is_dashed w then Some None
    else None

-- whether it begins with `-` and is neither an option nor the value of one
abbrev pub is_strange : List ℕ → Bool → List ℕ → Bool
is_strange option valued w =
    not valued && (not (bytes_eq w option) && (not (starts_with ◌==◌ w (option_front option)) && is_dashed w))
