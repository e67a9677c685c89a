-- The line that the program prints, as bytes.
use Rattle.std.specs.Prelude.{ℕ, List, [], ◌∷◌, ◌++◌, ℤ, Result, Ok, Err}
use Prim.Native.Char.{code}
use Prim.Native.String.{String}
use Rattle.checked.specs.Checked.{Due, due, refused}
use Rattle.checked.specs.Told.{number}
use Rattle.checked.specs.declared.Refusal.{Refusal}
use Rattle.decimals.specs.Thousandths.{thousandths}
use Rattle.decimals.specs.Digits.{digits, numeral}
use Rattle.vectors.specs.declared.Vec3.{Vec3}

-- the bytes of a text in ASCII
unfoldable pub bytes : String → List ℕ
bytes String.[] = []
bytes (String.◌∷◌ c s) = code c ∷ bytes s

-- a whole number after a space, before the rest of the line; the first refusal stands
unfoldable pub spaced : Due ℤ → Due (List ℕ) → Due (List ℕ)
spaced (refused n) rest = refused n
spaced (due z) (refused n) = refused n
spaced (due z) (due rest) = due (bytes " " ++ numeral z ++ rest)

-- the three numbers of a corner in whole thousandths, each after a space, before the rest of the line
unfoldable pub corner : Vec3 → Due (List ℕ) → Due (List ℕ)
corner p rest = spaced (thousandths p.x) (spaced (thousandths p.y) (spaced (thousandths p.z) rest))

-- what stands of a line after numbers were put, or the refusal of one of them
abbrev pub stands : Result Unit Refusal → List ℕ → Due (List ℕ)
stands (Ok _) text = due text
stands (Err refusal) text = refused (number refusal)

-- where no edge was read
unfoldable pub empty_line : List ℕ
unfolding bytes
empty_line = bytes "empty\n"

-- where record k is refused by number n
unfoldable pub refused_line : ℕ → ℕ → List ℕ
unfolding bytes digits
refused_line n k = bytes "refused " ++ digits n ++ bytes " record " ++ digits k ++ bytes "\n"

-- a box's line, or where a number of it is refused, the line of that at record k, the end record
abbrev pub corners_line : ℕ → Due (List ℕ) → List ℕ
corners_line k (due text) = bytes "box" ++ text
corners_line k (refused n) = refused_line n k

unfoldable pub box_line : Vec3 → Vec3 → ℕ → List ℕ
unfolding corner
box_line low high k = corners_line k (corner low (corner high (due (bytes "\n"))))
