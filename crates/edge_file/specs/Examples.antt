-- Lines of whole files, which antt computes.
use Rattle.std.specs.Prelude.{ℕ, ◌≡◌, refl, List, [], ◌∷◌, ◌++◌}
use Rattle.edge_lines.specs.Lines.{bytes, empty_line, refused_line}
use Rattle.edge_records.specs.Records.{low_first, tagged, head_of, kind_of, record_of, size_of}
use Rattle.edge_file.specs.EdgeFile.{next, ended, line_of}

abbrev end : List ℕ
end = 127 ∷ 0 ∷ 0 ∷ []

no_edge : line_of end ≡ bytes "empty\n"
unfolding line_of record_of size_of kind_of head_of tagged low_first ended empty_line bytes
no_edge = refl

no_byte : line_of [] ≡ bytes "refused 11 record 1\n"
unfolding line_of refused_line bytes
no_byte = refl

cut_head : line_of (127 ∷ 0 ∷ []) ≡ bytes "refused 11 record 1\n"
unfolding line_of record_of kind_of refused_line bytes
cut_head = refl

byte_after : line_of (end ++ (0 ∷ [])) ≡ bytes "refused 11 record 2\n"
unfolding line_of record_of size_of kind_of head_of tagged low_first ended next refused_line bytes
byte_after = refl
