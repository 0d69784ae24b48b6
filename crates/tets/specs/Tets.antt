-- A tetrahedron of the code, and a tetrahedron as one number, its key: its four vertex numbers are the digits in the base 65,536.
use Rattle.std.specs.Prelude.{ℕ, ◌+◌, ◌*◌, ◌/◌, ◌%◌}
use Rattle.solids.specs.Solids.{Vertex, Tet, tet}
use Rattle.tets.specs.declared.Tet as code

-- the tetrahedron that four numbers of the code are
abbrev pub tet_of : code.Tet → Tet Vertex
tet_of t = tet t.0.0 t.1.0 t.2.0 t.3.0

-- the key of a tetrahedron
unfoldable pub key_of : Tet Vertex → ℕ
key_of (tet a b c d) = ((a * 65536 + b) * 65536 + c) * 65536 + d

-- the tetrahedron of a key
unfoldable pub keyed : ℕ → Tet Vertex
keyed k = tet (k / 65536 / 65536 / 65536) (k / 65536 / 65536 % 65536) (k / 65536 % 65536) (k % 65536)
